use Rattle.covering_claims.proofs.Listed.{one_more, all_tests}
use Rattle.covering_claims.proofs.testing.prepare_words.Goals as goal

pub loop-word-init : goal.loop-word-init
loop-word-init g c = c.new-tests.ensures.items

pub loop-word-preserved : goal.loop-word-preserved
loop-word-preserved g c =
    one_more c.args.words.now c.loop-word.tests.items c.push.new.self.items c.loop-word.word-index _ _ c.word-item.is c.loop-word.invariant
    c.in_ok-push.ensures.items c.in_ok-test.ensures c.loop-word-test.true

pub returns : goal.returns
returns g c = all_tests c.args.words.now c.loop-word.tests.items c.loop-word.word-index c.loop-word.invariant c.loop-word-test.false
