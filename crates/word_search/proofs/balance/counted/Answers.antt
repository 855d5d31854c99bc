use Rattle.std.proofs.Common.{◌%◌, arith, ap, ◌∙◌}
use Rattle.word_search.proofs.Counts.{counts_more_odd, counts_more_even}
use Rattle.word_search.proofs.balance.counted.Goals as goal

pub returns-then-len-eq0 : goal.returns-then-len-eq0
returns-then-len-eq0 c p len are = counts_more_odd p c.args.odd c.args.even _ c.args.letter (ap (λ n. n % 2) len ∙ c.if-len-eq0.true) c.one_more.ensures are

pub returns-else-len-eq0 : goal.returns-else-len-eq0
returns-else-len-eq0 c p len are =
    counts_more_even p c.args.odd c.args.even _ c.args.letter (omega (arith, len, c.if-len-eq0.false)) c.one_more-else-len-eq0.ensures are
