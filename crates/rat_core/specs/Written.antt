-- A fraction as it is written, which a program keeps, and its value.
use Rattle.std.specs.Prelude.{ℕ, ℤ, cond}
use Rattle.std.specs.declared.cmp.Ordering.{Ordering}
use Rattle.std.specs.declared.cmp.Ordering.TheVariants.{Less, Equal, Greater}
use Rattle.rat_core.specs.Fraction.{ℚ, ◌÷◌, at_most}

-- num / den, not brought to lowest terms
pub record Written : Type 0 where
  pub num : ℤ
  pub den : ℕ

abbrev pub value : Written → ℚ
value w = w.num ÷ w.den

-- how x stands to y
abbrev pub order_of : ℚ → ℚ → Ordering
order_of x y = cond (at_most x y) (cond (at_most y x) Equal Less) Greater
