-- Pairs of a whole number and a positive one, and what is computed with them: the field of quotients of the whole
-- numbers, before equal fractions are made one (van der Waerden, Algebra, chapter 3).
use Rattle.std.specs.Prelude.{◌≡◌, ℕ, ◌*◌, ◌<◌, Bool, ℤ, pos, ◌+ℤ◌, ◌*ℤ◌, neg_ℤ, int_le}
use Rattle.std.specs.Int.{int_div_euclid}
use Rattle.std.proofs.Common.{mul-pos}

-- num / den
pub record Ratio : Type 0 where
  pub num : ℤ
  pub den : ℕ
  pub den_pos : 0 < den

-- equal cross products
abbrev pub IsSame : Ratio → Ratio → Type 0
IsSame r s = r.num *ℤ pos s.den ≡ s.num *ℤ pos r.den

-- sum, product and negative, by the rules for fractions
abbrev pub sum_of : Ratio → Ratio → Ratio
sum_of r s = record { num = r.num *ℤ pos s.den +ℤ s.num *ℤ pos r.den; den = r.den * s.den; den_pos = mul-pos r.den_pos s.den_pos }

abbrev pub product_of : Ratio → Ratio → Ratio
product_of r s = record { num = r.num *ℤ s.num; den = r.den * s.den; den_pos = mul-pos r.den_pos s.den_pos }

abbrev pub minus_of : Ratio → Ratio
minus_of r = record { num = neg_ℤ r.num; den = r.den; den_pos = r.den_pos }

-- the order of the cross products
abbrev pub is_at_most : Ratio → Ratio → Bool
is_at_most r s = int_le (r.num *ℤ pos s.den) (s.num *ℤ pos r.den)

-- the greatest whole number that is at most num / den
abbrev pub floor_of : Ratio → ℤ
floor_of r = int_div_euclid r.num (pos r.den)
