-- Intervals with whole ends, and their exact operations (Moore, Kearfott, Cloud, Introduction to Interval Analysis,
-- chapter 2).
use Rattle.std.specs.Prelude.{ℕ, ◌^◌, ◌≤◌, Bool, true, false, ℤ, ◌+ℤ◌, ◌-ℤ◌, ◌*ℤ◌, ◌≤ℤ◌, unsigned_abs}
use Rattle.std.specs.Int.{int_min, int_max}
use Rattle.rat_core.specs.Fraction.{ℚ, ◌÷◌, ◌*ℚ◌, ◌≤ℚ◌, whole}

-- the ends of an interval, in units of 2^-bits
pub record Ends : Type 0 where
  pub lo : ℤ
  pub hi : ℤ

-- the interval contains the fraction v: lo ≤ v·2^bits ≤ hi
pub record Encloses (bits : ℕ) (x : Ends) (v : ℚ) : Type 0 where
  pub low : x.lo ÷ 1 ≤ℚ v *ℚ whole (2 ^ bits)
  pub high : v *ℚ whole (2 ^ bits) ≤ℚ x.hi ÷ 1

-- both ends are from -size to size
pub record IsWithin (size : ℕ) (x : Ends) : Type 0 where
  pub low : unsigned_abs x.lo ≤ size
  pub high : unsigned_abs x.hi ≤ size

-- the ends of an `Interval`
pub record IsInterval (x : Ends) : Type 0 where
  pub in_order : x.lo ≤ℤ x.hi
  pub in_range : IsWithin (2 ^ 100) x

abbrev pub sum_of : Ends → Ends → Ends
sum_of x y = record { lo = x.lo +ℤ y.lo; hi = x.hi +ℤ y.hi }

abbrev pub difference_of : Ends → Ends → Ends
difference_of x y = record { lo = x.lo -ℤ y.hi; hi = x.hi -ℤ y.lo }

abbrev pub multiple_of : ℤ → Ends → Ends
multiple_of c x = record { lo = int_min (c *ℤ x.lo) (c *ℤ x.hi); hi = int_max (c *ℤ x.lo) (c *ℤ x.hi) }

-- the least product of an end of x and an end of y, and the greatest
abbrev pub least_product : Ends → Ends → ℤ
least_product x y = int_min (int_min (x.lo *ℤ y.lo) (x.lo *ℤ y.hi)) (int_min (x.hi *ℤ y.lo) (x.hi *ℤ y.hi))

abbrev pub greatest_product : Ends → Ends → ℤ
greatest_product x y = int_max (int_max (x.lo *ℤ y.lo) (x.lo *ℤ y.hi)) (int_max (x.hi *ℤ y.lo) (x.hi *ℤ y.hi))

-- the outer one of two numbers in a direction, and of the products of ends
abbrev pub outer : Bool → ℤ → ℤ → ℤ
outer false a b = int_min a b
outer true a b = int_max a b

abbrev pub outer_product : Bool → Ends → Ends → ℤ
outer_product up x y = outer up (outer up (x.lo *ℤ y.lo) (x.lo *ℤ y.hi)) (outer up (x.hi *ℤ y.lo) (x.hi *ℤ y.hi))
