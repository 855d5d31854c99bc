-- Sums over the terms of formal points in the whole numbers: they are linear, and only the point's own directions count.
use Rattle.std.proofs.Common.{◌≡◌, ℤ, ◌+ℤ◌, ◌-ℤ◌, neg_ℤ, ap, ◌∙◌, arith}
use Rattle.std.proofs.lemmas.Int.{ints}
use Rattle.ring_solver.proofs.Whole.{ℤ_ring, ℤ_image}
use Rattle.exp_sums.specs.declared.direction.Dir.{Dir}
use Rattle.exp_sums.specs.FormalPoint.{FormalPoint, ◌-ₚ◌, negative}
use Rattle.exp_sums.specs.Weigh.{weigh_ints}
use Rattle.exp_sums.specs.Laws.{WeighingAddsUp, OtherDirectionsAreFree}
use Rattle.exp_sums.proofs.Weigh.{weigh-+ₚ, weigh-negative, weigh-monomial, weigh_alike}

weigh_difference : (f : Dir → ℤ) (p q : FormalPoint) → weigh_ints f (p -ₚ q) ≡ weigh_ints f p -ℤ weigh_ints f q
weigh_difference f p q =
    let sum = weigh-+ₚ ℤ_ring ℤ_image f p (negative q) in
    let of_negative = weigh-negative ℤ_ring ℤ_image f q in
    omega (arith, ints, sum, of_negative)

pub weighing_linear : WeighingAddsUp
weighing_linear = record {
  of_sum = weigh-+ₚ ℤ_ring ℤ_image;
  of_difference = weigh_difference;
  of_term = weigh-monomial ℤ_ring ℤ_image;
}

pub others_free : OtherDirectionsAreFree
others_free = weigh_alike ℤ_ring ℤ_image
