use Rattle.std.proofs.Common.{ℕ, ◌<◌, slice_index_or}
use Rattle.gradient_bounds.specs.Decision.{needed_by, SomeInRowFalls}
use Rattle.gradient_bounds.proofs.falls.one_falls.Given as goal

-- none of the upper corners so far
abbrev pub invariant-loop-k : goal.invariant-loop-k
invariant-loop-k l = (i : ℕ) → i < l.k-index
    → ¬ (SomeInRowFalls (needed_by l.threshold) l.functions l.uppers l.lowers (slice_index_or l.edges i 0))
