use Rattle.std.proofs.Common.{ℕ, ◌<◌, slice_index_or}
use Rattle.edge_words.specs.Letters.{IsPlace}
use Rattle.gradient_bounds.specs.Decision.{needed_by, difference, Reaches}
use Rattle.gradient_bounds.proofs.decision.all_reach.Given as goal

-- the upper corners so far
abbrev pub invariant-loop-k : goal.invariant-loop-k
invariant-loop-k l = (i : ℕ) → i < l.k-index → (b : ℕ) → IsPlace l.functions b
    → Reaches (needed_by l.threshold) l.functions (slice_index_or l.edges i 0) b
    (difference l.uppers l.lowers (slice_index_or l.edges i 0) b)
