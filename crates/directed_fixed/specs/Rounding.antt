-- Rounding in a direction: the floor and the ceiling of a fraction (Graham, Knuth, Patashnik, Concrete Mathematics,
-- chapter 3).
use Rattle.std.specs.Prelude.{Bool, true, false, ℤ, ◌+ℤ◌, ◌*ℤ◌, ◌≤ℤ◌, ◌<ℤ◌}

-- q is n / d rounded down: at most n / d, and less than one unit below it
pub record IsFloor (q n d : ℤ) : Type 0 where
  pub at_most : (q *ℤ d) ≤ℤ n
  pub near : n <ℤ (q *ℤ d +ℤ d)

-- q is n / d rounded up: at least n / d, and less than one unit above it
pub record IsCeiling (q n d : ℤ) : Type 0 where
  pub at_least : n ≤ℤ (q *ℤ d)
  pub near : (q *ℤ d) <ℤ (n +ℤ d)

-- q is n / d rounded down or, where `up` is true, up
abbrev pub IsRounded : Bool → ℤ → ℤ → ℤ → Type 0
IsRounded false q n d = IsFloor q n d
IsRounded true q n d = IsCeiling q n d
