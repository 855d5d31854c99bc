use Rattle.std.proofs.Common.{ℕ, ◌<◌}
use Rattle.edge_words.specs.Canonical.{rotated, IsAtMost}
use Rattle.word_search.proofs.least.is_at_most_rotations.Given as goal

abbrev pub invariant-loop-by : goal.invariant-loop-by
invariant-loop-by l = (k : ℕ) → k < l.by → IsAtMost l.fn.letters (rotated k l.fn.others)
