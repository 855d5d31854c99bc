-- The equilateral triangle.
use Rattle.std.proofs.Common.{◌≡◌, pos, sym, subst, subst₂}
use Rattle.rat_core.specs.Fraction.{◌÷◌, whole, ◌+ℚ◌, at_most, ◌<ℚ◌}
use Rattle.rat_core.specs.Written.{Written, value}

third_positive : whole 0 <ℚ pos 1 ÷ 3
unfolding at_most ◌÷◌
third_positive = record { lt = tt }

thirds_below_one : pos 1 ÷ 3 +ℚ pos 1 ÷ 3 <ℚ whole 1
unfolding at_most ◌+ℚ◌ ◌÷◌
thirds_below_one = record { lt = tt }

abbrev pub third : Written
third = record { num = pos 1; den = 3 }

pub positive : (x : Written) → x ≡ third → whole 0 <ℚ value x
positive x is = subst (λ (w : Written). whole 0 <ℚ value w) (sym is) third_positive

pub below_one : (x y : Written) → x ≡ third → y ≡ third → value x +ℚ value y <ℚ whole 1
below_one x y first second = subst₂ (λ (v w : Written). value v +ℚ value w <ℚ whole 1) (sym first) (sym second) thirds_below_one
