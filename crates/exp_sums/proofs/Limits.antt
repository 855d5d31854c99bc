-- Which results keep the limits of an `ExpSum`.
use Rattle.std.proofs.Common.{◌+◌, ◌≤◌, ℤ, arith}
use Rattle.std.specs.Prelude.{unsigned_abs}
use Rattle.exp_sums.specs.declared.direction.Dir.{Dir}
use Rattle.exp_sums.specs.FormalPoint.{FormalPoint, monomial, zero_point, ◌+ₚ◌, ◌-ₚ◌, conj}
use Rattle.exp_sums.specs.Limits.{weight, IsNear, IsWithinLimits, greatest_weight, greatest_exponent}
use Rattle.exp_sums.proofs.Weights.{weight-+ₚ, weight_difference, weight-monomial, weight-conj, weight-zero_point}
use Rattle.exp_sums.proofs.Within.{IsWithin-+ₚ, IsWithin_difference, IsWithin-monomial, IsWithin-conj, IsWithin-zero_point}

pub limits-zero_point : IsWithinLimits zero_point
limits-zero_point = record { near = IsWithin-zero_point greatest_exponent; light = omega (arith, weight-zero_point) }

pub limits-monomial : (c : ℤ) (d : Dir) → IsNear greatest_exponent d → unsigned_abs c ≤ greatest_weight → IsWithinLimits (monomial c d)
limits-monomial c d near light = record { near = IsWithin-monomial greatest_exponent c d near; light = omega (arith, weight-monomial c d, light) }

pub limits-conj : (p : FormalPoint) → IsWithinLimits p → IsWithinLimits (conj p)
limits-conj p h = record { near = IsWithin-conj greatest_exponent p h.near; light = omega (arith, weight-conj p, h.light) }

pub limits-+ₚ : (p q : FormalPoint) → IsWithinLimits p → IsWithinLimits q → weight p + weight q ≤ greatest_weight → IsWithinLimits (p +ₚ q)
limits-+ₚ p q h k light = record { near = IsWithin-+ₚ greatest_exponent p q h.near k.near; light = omega (arith, weight-+ₚ p q, light) }

pub limits_difference : (p q : FormalPoint) → IsWithinLimits p → IsWithinLimits q → weight p + weight q ≤ greatest_weight → IsWithinLimits (p -ₚ q)
limits_difference p q h k light = record { near = IsWithin_difference greatest_exponent p q h.near k.near; light = omega (arith, weight_difference p q, light) }

-- the condition of `add_dir`
pub limits_added : (p : FormalPoint) (c : ℤ) (d : Dir) → IsWithinLimits p → IsNear greatest_exponent d → weight p + unsigned_abs c ≤ greatest_weight →
    IsWithinLimits (p +ₚ monomial c d)
limits_added p c d h near light =
    limits-+ₚ p (monomial c d) h (limits-monomial c d near (omega (arith, light))) (omega (arith, weight-monomial c d, light))
