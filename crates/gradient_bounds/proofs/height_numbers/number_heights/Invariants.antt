use Rattle.std.proofs.Common.{ℕ, ℤ, ◌+◌, ◌^◌, ◌<◌, ◌≤◌, get_or, unsigned_abs}
use Rattle.defining_functions.specs.Heights.{upper_height, lower_height}
use Rattle.gradient_bounds.specs.HeightNumbers.{AreEndNumbers}
use Rattle.gradient_bounds.specs.Kept.{IsNumberOf}
use Rattle.gradient_bounds.proofs.height_numbers.number_heights.Given as goal

-- the numbers so far, and those of the edge before
abbrev pub invariant-loop-i : goal.invariant-loop-i
invariant-loop-i l = record {
  before : 0 < l.i → AreEndNumbers l.functions l.table l.i l.ends;
  small : unsigned_abs l.ends.upper ≤ 2 ^ 76;
  uppers : (j : ℕ) (z : ℤ) → j < l.i → IsNumberOf l.functions l.table (λ v. upper_height v l.functions (j + 1)) (get_or l.uppers j z);
  lowers : (j : ℕ) (z : ℤ) → j < l.i → IsNumberOf l.functions l.table (λ v. lower_height v l.functions (j + 1)) (get_or l.lowers j z);
}
