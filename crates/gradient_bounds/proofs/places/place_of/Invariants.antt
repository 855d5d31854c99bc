use Rattle.std.proofs.Common.{◌≡◌, ℕ, ◌<◌, slice_index_or}
use Rattle.gradient_bounds.specs.declared.sine_low.SineLow.{SineLow}
use Rattle.gradient_bounds.proofs.places.place_of.Given as goal

-- no entry so far has the direction
abbrev pub invariant-loop-i : goal.invariant-loop-i
invariant-loop-i l = (j : ℕ) (e : SineLow) → j < l.i → (slice_index_or l.table j e).dir ≡ l.dir → ⊥
