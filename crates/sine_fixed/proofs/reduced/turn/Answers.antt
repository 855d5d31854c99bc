use Rattle.std.proofs.Common.{◌≡◌, pos, sym, subst, ◌*ℤ◌, ◌-ℤ◌, ◌≤ℤ◌, ◌<ℤ◌, FitsSigned, true, false, unsigned_abs, to_z, of_z}
use Rattle.std.proofs.lemmas.Int.{to_z-of_z}
use Rattle.std.specs.Int.{w128}
use Rattle.rat_core.specs.Fraction.{◌÷◌}
use Rattle.sine_fixed.proofs.Reference.{IsAnswer, answer_fits, sine_at, rest_sizes, twice_fits, all_fit, second_nonneg, third_nonneg, fourth_nonneg}
use Rattle.sine_fixed.proofs.Reference.{at_most_of, below_of, turned_first, turned_second, turned_third, turned_fourth}
use Rattle.sine_fixed.proofs.reduced.turn.Goals as goal
use Rattle.sine_fixed.proofs.reduced.turn.Goals.{then-rest-den, else-rest-den+then-rest-den-2, else-rest-den+else-rest-den-2+then-rest-den-3}
use Rattle.sine_fixed.proofs.reduced.turn.Goals.{else-rest-den+else-rest-den-2+else-rest-den-3}

is_answer : (c : goal.After-struct_told-1) → IsAnswer c.args.num c.args.den c.if-rest-den.negative
is_answer c =
    let den : FitsSigned w128 c.args.den = c.ranges.den in
    let n : FitsSigned w128 c.args.num = c.ranges.num in
    let rest : FitsSigned w128 c.rem_euclid-rest.result = record { sfits = c.rem_euclid-rest.type_inv } in
    let positive = c.requires.positive in
    let small = c.requires.denominator in
    let twice_den = twice_fits c.args.den positive small in
    let is = simp to_z-of_z at c.rem_euclid-rest.ensures.value in
    let fits = all_fit c.args.num c.args.den c.rem_euclid-rest.result positive small is in
    let thrice_den = fits.thrice_den in
    let twice_rest = fits.twice_rest in
    let second = fits.second in
    let third = fits.third in
    let fourth = fits.fourth in
    let sizes = rest_sizes c.args.num c.args.den c.rem_euclid-rest.result positive small is in
    elim c.if-rest-den.branch [
      | then-rest-den w ↦ (
          let first : (pos 2 *ℤ c.rem_euclid-rest.result) ≤ℤ c.args.den = at_most_of (pos 2 *ℤ c.rem_euclid-rest.result) c.args.den
          (simp to_z-of_z at w.if-rest-den.true) in
          let raw : c.if-rest-den.negative ≡ (false, to_z w128 (of_z w128 c.rem_euclid-rest.result)) = w.negative-is in
          let answer = simp to_z-of_z at raw in
          subst (IsAnswer c.args.num c.args.den) (sym answer)
          (record { nonneg = sizes.0; turned = turned_first c.args.num c.args.den c.rem_euclid-rest.result positive small is first }))
      | else-rest-den+then-rest-den-2 w ↦ (
          let past_half : c.args.den <ℤ (pos 2 *ℤ c.rem_euclid-rest.result) = below_of (pos 2 *ℤ c.rem_euclid-rest.result) c.args.den
          (simp to_z-of_z at w.if-rest-den.false) in
          let second_piece : c.rem_euclid-rest.result ≤ℤ c.args.den = at_most_of c.rem_euclid-rest.result c.args.den (simp to_z-of_z at w.if-rest-den-2.true) in
          let raw : c.if-rest-den.negative ≡ (
            false,
            to_z w128
                (of_z w128 (to_z w128 (of_z w128 c.args.den) -ℤ to_z w128 (of_z w128 c.rem_euclid-rest.result))),
          ) = w.negative-is in
          let answer = simp to_z-of_z at raw in
          subst (IsAnswer c.args.num c.args.den) (sym answer)
          (record {
            nonneg = second_nonneg c.args.den c.rem_euclid-rest.result second_piece;
            turned = turned_second c.args.num c.args.den c.rem_euclid-rest.result positive small is past_half second_piece;
          }))
      | else-rest-den+else-rest-den-2+then-rest-den-3 w ↦ (
          let past_one : c.args.den <ℤ c.rem_euclid-rest.result = below_of c.rem_euclid-rest.result c.args.den (simp to_z-of_z at w.if-rest-den-2.false) in
          let third_piece : (pos 2 *ℤ c.rem_euclid-rest.result) ≤ℤ (pos 3 *ℤ c.args.den) = at_most_of (pos 2 *ℤ c.rem_euclid-rest.result)
          (pos 3 *ℤ c.args.den) (simp to_z-of_z at w.if-rest-den-3.true) in
          let raw : c.if-rest-den.negative ≡ (
            true,
            to_z w128
                (of_z w128 (to_z w128 (of_z w128 c.rem_euclid-rest.result) -ℤ to_z w128 (of_z w128 c.args.den))),
          ) = w.negative-is in
          let answer = simp to_z-of_z at raw in
          subst (IsAnswer c.args.num c.args.den) (sym answer)
          (record {
            nonneg = third_nonneg c.args.den c.rem_euclid-rest.result past_one;
            turned = turned_third c.args.num c.args.den c.rem_euclid-rest.result positive small is past_one third_piece;
          }))
      | else-rest-den+else-rest-den-2+else-rest-den-3 w ↦ (
          let past_third : (pos 3 *ℤ c.args.den) <ℤ (pos 2 *ℤ c.rem_euclid-rest.result) = below_of (pos 2 *ℤ c.rem_euclid-rest.result)
          (pos 3 *ℤ c.args.den) (simp to_z-of_z at w.if-rest-den-3.false) in
          let raw : c.if-rest-den.negative ≡ (
            true,
            to_z w128
                (of_z w128 (to_z w128 (of_z w128 (pos 2 *ℤ to_z w128 (of_z w128 c.args.den))) -ℤ to_z w128
                (of_z w128 c.rem_euclid-rest.result))),
          ) = w.negative-is in
          let answer = simp to_z-of_z at raw in
          subst (IsAnswer c.args.num c.args.den) (sym answer)
          (record {
            nonneg = fourth_nonneg c.args.den c.rem_euclid-rest.result sizes.1;
            turned = turned_fourth c.args.num c.args.den c.rem_euclid-rest.result positive small is past_third;
          }))
    ]

pub invariant_of-result : goal.invariant_of-result
invariant_of-result c =
    let den : FitsSigned w128 c.args.den = c.ranges.den in
    let answer = is_answer c in
    let num = answer_fits c.args.num c.args.den c.if-rest-den.negative c.requires.denominator answer in
    simp to_z-of_z (answer.nonneg, c.requires.positive, answer.turned.reference)

pub returns-clause-reference : goal.returns-clause-reference
returns-clause-reference c =
    let den : FitsSigned w128 c.args.den = c.ranges.den in
    let answer = is_answer c in
    let num = answer_fits c.args.num c.args.den c.if-rest-den.negative c.requires.denominator answer in
    simp to_z-of_z answer.turned.reference

pub returns-clause-angle : goal.returns-clause-angle
returns-clause-angle c =
    let den : FitsSigned w128 c.args.den = c.ranges.den in
    let answer = is_answer c in
    let num = answer_fits c.args.num c.args.den c.if-rest-den.negative c.requires.denominator answer in
    simp to_z-of_z answer.turned.wrapped_reference.angle

pub returns-clause-sign : goal.returns-clause-sign
returns-clause-sign c = (is_answer c).turned.wrapped_reference.sign

pub returns-clause-sine : goal.returns-clause-sine
returns-clause-sine c =
    let den : FitsSigned w128 c.args.den = c.ranges.den in
    let answer = is_answer c in
    let num = answer_fits c.args.num c.args.den c.if-rest-den.negative c.requires.denominator answer in
    λ n. simp to_z-of_z (sine_at n (c.args.num ÷ unsigned_abs c.args.den)
    (record { negative = c.if-rest-den.negative.0; num = unsigned_abs c.if-rest-den.negative.1; den = unsigned_abs c.args.den })
    answer.turned.wrapped_reference)
