-- Intervals whose ends are near each other.
use Rattle.std.specs.Prelude.{◌^◌, pos, ◌+ℤ◌, ◌≤ℤ◌}
use Rattle.directed_fixed.specs.Ends.{Ends, IsWithin}

-- at most two units wide, and of at most 2^70 units
pub record IsNarrow (x : Ends) : Type 0 where
  pub width : x.hi ≤ℤ (x.lo +ℤ pos 2)
  pub size : IsWithin (2 ^ 70) x
