use Rattle.std.proofs.Common.{◌≡◌, true}
use Rattle.covering_file.proofs.HeaderFaults.{word_behind, first_unstable_at}
use Rattle.covering_file.proofs.header.first_unstable.Goals as goal

pub returns-then-not-is_stable : goal.returns-then-not-is_stable
returns-then-not-is_stable c =
    first_unstable_at c.args.words.now c.loop-k.k c.index-words-k.result c.loop-k-test.true c.index-words-k.is c.loop-k.invariant
    (λ stable. let is : c.is_stable.result ≡ true = c.is_stable.ensures.stable.1 stable in cc)

pub loop-k-preserved : goal.loop-k-preserved
loop-k-preserved c =
    word_behind c.args.words.now c.loop-k.k c.index-words-k.result c.loop-k-test.true c.index-words-k.is c.loop-k.invariant
    (record { word = c.is_stable.ensures.is_word; stable = c.is_stable.ensures.stable.0 c.if-not-is_stable.false })
