use Rattle.std.proofs.Common.{◌≡◌, sym, ap, ◌∙◌, ℕ, pos, ◌+ℤ◌, ◌*ℤ◌, unsigned_abs, FitsSigned, arith}
use Rattle.std.specs.Int.{w64, w128}
use Rattle.std.proofs.lemmas.Int.{ints, to_z-of_z}
use Rattle.rat_core.specs.Fraction.{◌÷◌, ◌+ℚ◌}
use Rattle.trig_meaning.specs.Turn.{sine_of_turn}
use Rattle.sine_fixed.specs.ReferenceAngle.{sine_of}
use Rattle.sine_fixed.proofs.SineTables.{close_turned}
use Rattle.sine_fixed.proofs.Turning.{fits_128, half_further}
use Rattle.sine_fixed.proofs.sine_cosine.SineCosine.of.Goals as goal

pub returns : goal.returns
returns c =
    let num = c.args.num in
    let den = c.args.den in
    let n = c.from-num.result in
    let d = c.from-den.result in
    let num_small = c.requires.numerator in
    let den_small = c.requires.denominator in
    let n_is : n ≡ pos num = c.from-num.ensures in
    let d_is : d ≡ pos den = c.from-den.ensures in
    let n_fits : FitsSigned w128 n = fits_128 n (omega (arith, ints)) in
    let d_fits : FitsSigned w128 d = fits_128 d (omega (arith, ints)) in
    let twice_fits : FitsSigned w128 (pos 2 *ℤ n) = fits_128 (pos 2 *ℤ n) (omega (arith, ints)) in
    let double_fits : FitsSigned w128 (pos 2 *ℤ d) = fits_128 (pos 2 *ℤ d) (omega (arith, ints)) in
    let sum_fits : FitsSigned w128 (pos 2 *ℤ n +ℤ d) = fits_128 (pos 2 *ℤ n +ℤ d) (omega (arith, ints)) in
    let sine_fits : FitsSigned w64 c.close_sine.result = record { sfits = c.close_sine.type_inv } in
    let cosine_fits : FitsSigned w64 c.close_sine-2.result = record { sfits = c.close_sine-2.type_inv } in
    let sines : (m : ℕ) → sine_of_turn m (n ÷ unsigned_abs d) ≡ sine_of m c.turn.result = simp to_z-of_z at c.turn.ensures.sine in
    let cosines : (m : ℕ) → sine_of_turn m ((pos 2 *ℤ n +ℤ d) ÷ unsigned_abs (pos 2 *ℤ d)) ≡ sine_of m c.turn-2.result =
    simp to_z-of_z at c.turn-2.ensures.sine
    in
    let further : (pos 2 *ℤ n +ℤ d) ÷ unsigned_abs (pos 2 *ℤ d) ≡ n ÷ unsigned_abs d +ℚ pos 1 ÷ 2 = half_further n d (omega (arith, ints)) in
    let turn : n ÷ unsigned_abs d ≡ pos num ÷ den = λ i. n_is i ÷ unsigned_abs (d_is i) in
    simp to_z-of_z (record {
      sine = close_turned (pos num ÷ den) c.turn.result c.close_sine.result (λ m. sym (ap (sine_of_turn m) turn) ∙ sines m)
          c.close_sine.ensures.close c.close_sine.ensures.size;
      cosine = close_turned (pos num ÷ den +ℚ pos 1 ÷ 2) c.turn-2.result c.close_sine-2.result
          (λ m. sym (ap (sine_of_turn m) (further ∙ ap (λ t. t +ℚ pos 1 ÷ 2) turn)) ∙ cosines m)
          c.close_sine-2.ensures.close c.close_sine-2.ensures.size;
    })
