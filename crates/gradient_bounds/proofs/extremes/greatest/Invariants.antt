use Rattle.std.proofs.Common.{◌≡◌, ℕ, ◌-◌, ◌<◌, ◌≤◌, ◌≤ℤ◌, length, slice_index_or, pos}
use Rattle.gradient_bounds.proofs.extremes.greatest.Given as goal

-- the number at the place is kept, and is the greatest so far
abbrev pub invariant-loop-edge : goal.invariant-loop-edge
invariant-loop-edge l = record {
  number : l.number ≡ slice_index_or l.numbers (l.place - 1) (pos 0);
  place : (1 ≤ l.place) × (l.place ≤ length l.numbers);
  greatest : (j d : ℕ) → j < l.edge-index → slice_index_or l.numbers (slice_index_or l.edges j d - 1) (pos 0) ≤ℤ slice_index_or l.numbers (l.place - 1) (pos 0);
}
