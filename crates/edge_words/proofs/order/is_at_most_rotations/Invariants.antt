use Rattle.std.proofs.Common.{ℕ, ◌<◌}
use Rattle.edge_words.specs.Canonical.{rotated, IsAtMost}
use Rattle.edge_words.proofs.order.is_at_most_rotations.Given as goal

abbrev pub invariant-loop-by : goal.invariant-loop-by
invariant-loop-by l = (k : ℕ) → k < l.by → IsAtMost l.others (rotated k l.letters)
