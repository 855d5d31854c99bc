use Rattle.std.proofs.Common.{◌≡◌, sym, subst, subst₂, ◌+◌, ◌-◌, ◌*◌, ◌/◌, ◌^◌, ◌<◌, ◌≤◌, lit≤, arith}
use Rattle.rat_core.specs.Fraction.{◌-ℚ◌, ◌*ℚ◌}
use Rattle.sine_fixed.specs.Near.{IsNear}
use Rattle.sine_fixed.proofs.Chains.{AreChains, next_chains, even_fits, next_even, next_odd, odd_fits, can_be_taken, rest_fits}
use Rattle.sine_fixed.proofs.Coefficients.{entry, entry_near, entry_small, part_of}
use Rattle.sine_fixed.proofs.Errors.{quarter_square_near, square_near, above_widened, difference_near, product_near, product_below}
use Rattle.sine_fixed.proofs.Horner.{coefficient, chain, sine_sum_chains}
use Rattle.sine_fixed.proofs.QuarterSquare.{quarter_square, four_times, quarter_square_nonneg, quarter_square_small, quarter_square_at_most}
use Rattle.sine_fixed.proofs.QuarterSquare.{fourth_power_small, fourth_power_nonneg, at_most_two, sixteen_times}
use Rattle.sine_fixed.proofs.Sizes.{square_small, product_size}
use Rattle.sine_fixed.proofs.series.series.Goals as goal

pub loop-j-init : goal.loop-j-init
loop-j-init c = record {
  sizes = record { even_small = λ _. lit≤ tt; odd_small = lit≤ tt; even_least = lit≤ tt; even_most = omega arith };
  even = λ u h k n. above_widened 1 23662 (coefficient 10) (omega arith) (entry_near 10 (omega arith));
  odd = λ u h k n. above_widened 1 187 (coefficient 11) (omega arith) (entry_near 11 (omega arith));
}

pub product-requires-clause-first_factor : goal.product-requires-clause-first_factor
product-requires-clause-first_factor c =
    let q = c.product-quarter_square.result in
    let small : q ≤ 2 ^ 60 = subst (λ q. q ≤ 2 ^ 60) (sym c.product-quarter_square.ensures) (square_small c.args.angle c.requires) in
    omega (arith, c.product-square.ensures, part_of q q small, small)

pub overflow_add-even : goal.overflow_add-even
overflow_add-even c =
    let q = c.product-quarter_square.result in
    let small : q ≤ 2 ^ 60 = subst (λ q. q ≤ 2 ^ 60) (sym c.product-quarter_square.ensures) (square_small c.args.angle c.requires) in
    let y : c.product-square.result ≤ 2 ^ 60 = omega (arith, c.product-square.ensures, part_of q q small, small) in
    let below : c.loop-j.j < 5 = omega (arith, c.loop-j-test.true) in
    let most = even_fits c.product-square.result c.loop-j.j c.loop-j.even c.loop-j.odd below y c.loop-j.invariant.sizes in
    let part = part_of c.product-square.result c.loop-j.even y in
    let e = entry_small (8 - 2 * c.loop-j.j) (omega arith) in
    record { fits = omega (arith, e, part, most, c.product.ensures) }

pub product-requires-in-loop-j-clause-first_factor : goal.product-requires-in-loop-j-clause-first_factor
product-requires-in-loop-j-clause-first_factor c =
    let q = c.product-quarter_square.result in
    let small : q ≤ 2 ^ 60 = subst (λ q. q ≤ 2 ^ 60) (sym c.product-quarter_square.ensures) (square_small c.args.angle c.requires) in
    omega (arith, c.product-square.ensures, part_of q q small, small)

pub product-requires-in-loop-j-clause-second_factor : goal.product-requires-in-loop-j-clause-second_factor
product-requires-in-loop-j-clause-second_factor c =
    let below : c.loop-j.j < 5 = omega (arith, c.loop-j-test.true) in
    omega (arith, c.loop-j.invariant.sizes.odd_small, entry_small (10 - 2 * c.loop-j.j) (omega arith))

pub overflow_add-odd : goal.overflow_add-odd
overflow_add-odd c =
    let q = c.product-quarter_square.result in
    let small : q ≤ 2 ^ 60 = subst (λ q. q ≤ 2 ^ 60) (sym c.product-quarter_square.ensures) (square_small c.args.angle c.requires) in
    let y : c.product-square.result ≤ 2 ^ 60 = omega (arith, c.product-square.ensures, part_of q q small, small) in
    let below : c.loop-j.j < 5 = omega (arith, c.loop-j-test.true) in
    let part = part_of c.product-square.result c.loop-j.odd y in
    let most = entry_small (10 - 2 * c.loop-j.j) (omega arith) in
    let e = entry_small (9 - 2 * c.loop-j.j) (omega arith) in
    record { fits = omega (arith, e, part, most, c.loop-j.invariant.sizes.odd_small, c.product-in-loop-j.ensures) }

pub loop-j-preserved : goal.loop-j-preserved
loop-j-preserved c =
    let y = c.product-square.result in
    let j = c.loop-j.j in
    let even = c.loop-j.even in
    let odd = c.loop-j.odd in
    let q = c.product-quarter_square.result in
    let small : q ≤ 2 ^ 60 = subst (λ q. q ≤ 2 ^ 60) (sym c.product-quarter_square.ensures) (square_small c.args.angle c.requires) in
    let fits : y ≤ 2 ^ 60 = omega (arith, c.product-square.ensures, part_of q q small, small) in
    let below : j < 5 = omega (arith, c.loop-j-test.true) in
    let sizes = c.loop-j.invariant.sizes in
    record {
      sizes = subst₂ (λ a b. AreChains y (j + 1) (entry (8 - 2 * j) + a) (entry (9 - 2 * j) + b)) (sym c.product.ensures) (sym c.product-in-loop-j.ensures)
          (next_chains y j even odd below fits sizes);
      even = λ u h k n. subst (λ a. IsNear 0 16 (entry (8 - 2 * j) + a) (chain u (10 - 2 * (j + 1)) (j + 1))) (sym c.product.ensures)
          (next_even y j even odd below fits sizes u h k n (c.loop-j.invariant.even u h k n));
      odd = λ u h k n. subst (λ b. IsNear 0 16 (entry (9 - 2 * j) + b) (chain u (11 - 2 * (j + 1)) (j + 1))) (sym c.product-in-loop-j.ensures)
          (next_odd y j even odd below fits sizes u h k n (c.loop-j.invariant.odd u h k n));
    }

-- ---- after the loop

pub product-requires-3-clause-second_factor : goal.product-requires-3-clause-second_factor
product-requires-3-clause-second_factor c =
    let last : c.loop-j.j ≡ 5 = omega (arith, c.loop-j-test.false, c.loop-j.auto.j-end) in
    let q = c.product-quarter_square.result in
    let small : q ≤ 2 ^ 60 = subst (λ q. q ≤ 2 ^ 60) (sym c.product-quarter_square.ensures) (square_small c.args.angle c.requires) in
    let sizes : AreChains (q * q / 2 ^ 60) 5 c.loop-j.even c.loop-j.odd =
    subst₂ (λ y j. AreChains y j c.loop-j.even c.loop-j.odd) c.product-square.ensures last c.loop-j.invariant.sizes in
    omega (arith, c.product-2.ensures, rest_fits q c.loop-j.even c.loop-j.odd small sizes)

pub returns-clause-near : goal.returns-clause-near
returns-clause-near c =
    let last : c.loop-j.j ≡ 5 = omega (arith, c.loop-j-test.false, c.loop-j.auto.j-end) in
    let q = c.product-quarter_square.result in
    let even = c.loop-j.even in
    let odd = c.loop-j.odd in
    let r = c.product-2.result in
    let s = even - r in
    let small : q ≤ 2 ^ 60 = subst (λ q. q ≤ 2 ^ 60) (sym c.product-quarter_square.ensures) (square_small c.args.angle c.requires) in
    let sizes : AreChains (q * q / 2 ^ 60) 5 even odd =
    subst₂ (λ y j. AreChains y j even odd) c.product-square.ensures last c.loop-j.invariant.sizes in
    let most : s ≤ 2 ^ 60 = omega (arith, c.product-2.ensures, rest_fits q even odd small sizes) in
    let again : even ≡ s + r = omega (arith, c.product-2.ensures, can_be_taken q even odd small sizes) in
    λ z h l n.
    let w = quarter_square z in
    let u = w *ℚ w in
    let quarter : IsNear 0 3 q w =
    subst (λ y. IsNear 0 3 y w) (sym c.product-quarter_square.ensures) (quarter_square_near c.args.angle z w (four_times z) h (at_most_two z l) c.requires n)
    in
    let square : IsNear 0 6 c.product-square.result u =
    subst (λ y. IsNear 0 6 y u) (sym c.product-square.ensures) (square_near q w (quarter_square_nonneg z h) (quarter_square_at_most z h l) quarter)
    in
    let evens : IsNear 0 16 even (chain u 0 5) =
    subst (λ j. IsNear 0 16 even (chain u (10 - 2 * j) j)) last
    (c.loop-j.invariant.even u (fourth_power_nonneg z h) (fourth_power_small z h l) square)
    in
    let odds : IsNear 0 16 odd (chain u 1 5) =
    subst (λ j. IsNear 0 16 odd (chain u (11 - 2 * j) j)) last
    (c.loop-j.invariant.odd u (fourth_power_nonneg z h) (fourth_power_small z h l) square)
    in
    let taken : IsNear 0 16 r (w *ℚ chain u 1 5) =
    subst (λ r. IsNear 0 16 r (w *ℚ chain u 1 5)) (sym c.product-2.ensures)
    (product_below q odd 12 3 w (chain u 1 5) (quarter_square_nonneg z h) (quarter_square_small z h l) quarter odds (odd_fits q even odd small sizes))
    in
    let inner : IsNear 16 16 s (chain u 0 5 -ℚ w *ℚ chain u 1 5) =
    difference_near s r (chain u 0 5) (w *ℚ chain u 1 5) (subst (λ t. IsNear 0 16 t (chain u 0 5)) again evens) taken
    in
    subst₂ (IsNear 26 29) (sym c.product-3.ensures) (sym (sine_sum_chains z w (four_times z)))
    (product_near c.args.angle s 26 2 z (chain u 0 5 -ℚ w *ℚ chain u 1 5) h (sixteen_times z l) n inner most)

pub returns-clause-size : goal.returns-clause-size
returns-clause-size c =
    let last : c.loop-j.j ≡ 5 = omega (arith, c.loop-j-test.false, c.loop-j.auto.j-end) in
    let q = c.product-quarter_square.result in
    let small : q ≤ 2 ^ 60 = subst (λ q. q ≤ 2 ^ 60) (sym c.product-quarter_square.ensures) (square_small c.args.angle c.requires) in
    let sizes : AreChains (q * q / 2 ^ 60) 5 c.loop-j.even c.loop-j.odd =
    subst₂ (λ y j. AreChains y j c.loop-j.even c.loop-j.odd) c.product-square.ensures last c.loop-j.invariant.sizes in
    let most : c.loop-j.even - c.product-2.result ≤ 2 ^ 60 = omega (arith, c.product-2.ensures, rest_fits q c.loop-j.even c.loop-j.odd small sizes) in
    subst (λ r. r ≤ 2 ^ 61) (sym c.product-3.ensures) (product_size c.args.angle (c.loop-j.even - c.product-2.result) c.requires most)
