use Rattle.std.proofs.Common.{arith}
use Rattle.word_search.proofs.Orders.{reversed_before}
use Rattle.word_search.proofs.backwards.is_before_reversed.Goals as goal

pub returns-then-back-letters : goal.returns-then-back-letters
returns-then-back-letters c = λ same. reversed_before c.args.letters.now c.loop-index.index (omega arith) c.loop-index.invariant c.if-back-letters.true
