use Rattle.std.proofs.Common.{arith}
use Rattle.edge_words.proofs.Digits.{first_repeat_at, differ_from_indices}
use Rattle.edge_words.proofs.reading.first_repeat.Goals as goal

pub returns-then-byte-next : goal.returns-then-byte-next
returns-then-byte-next c = first_repeat_at _ _ c.loop-index-test.true c.if-byte-next.true c.loop-index.invariant

pub returns : goal.returns
returns c = differ_from_indices _ (λ k h. c.loop-index.invariant k (omega arith))
