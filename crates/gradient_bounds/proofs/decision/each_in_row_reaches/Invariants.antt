use Rattle.std.proofs.Common.{ℕ, ◌<◌, slice_index_or}
use Rattle.gradient_bounds.specs.Decision.{needed_by, difference, Reaches}
use Rattle.gradient_bounds.proofs.decision.each_in_row_reaches.Given as goal

-- the lower corners so far
abbrev pub invariant-loop-l : goal.invariant-loop-l
invariant-loop-l l = (j : ℕ) → j < l.l-index
    → Reaches (needed_by l.threshold) l.functions l.k (slice_index_or l.edges j 0)
    (difference l.uppers l.lowers l.k (slice_index_or l.edges j 0))
