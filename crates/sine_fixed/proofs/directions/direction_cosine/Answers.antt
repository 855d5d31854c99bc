use Rattle.std.proofs.Common.{◌≡◌, sym, ap, ◌∙◌, subst, ℕ, pos, ◌+ℤ◌, ◌*ℤ◌, unsigned_abs, FitsSigned, arith}
use Rattle.std.specs.Int.{w128}
use Rattle.std.proofs.lemmas.Int.{ints, to_z-of_z}
use Rattle.rat_core.specs.Fraction.{◌÷◌, ◌+ℚ◌}
use Rattle.trig_meaning.specs.Turn.{sine_of_turn}
use Rattle.trig_meaning.specs.Value.{turn_of}
use Rattle.trig_meaning.proofs.FromSomeOnLaws.{onward}
use Rattle.directed_fixed.specs.Ends.{Encloses}
use Rattle.sine_fixed.specs.Angles.{first_angle, second_angle}
use Rattle.sine_fixed.specs.ReferenceAngle.{sine_of}
use Rattle.sine_fixed.proofs.Turning.{fits_128, angles_fit, half_further}
use Rattle.sine_fixed.proofs.directions.direction_cosine.Goals as goal

pub returns-clause-encloses : goal.returns-clause-encloses
returns-clause-encloses g c =
    let at = c.args.at.now in
    let N = c.turn_numerator.result in
    let D = at.den in
    let size = c.turn_numerator.ensures.size in
    let least = c.requires.angles.positive in
    let most = c.requires.angles.small in
    let number : FitsSigned w128 N = fits_128 N (omega (arith, size)) in
    let twice : FitsSigned w128 (pos 2 *ℤ N) = fits_128 (pos 2 *ℤ N) (omega (arith, ints, size)) in
    let den : FitsSigned w128 D = angles_fit at c.requires.angles in
    let double : FitsSigned w128 (pos 2 *ℤ D) = fits_128 (pos 2 *ℤ D) (omega (arith, ints, least, most)) in
    let sum : FitsSigned w128 (pos 2 *ℤ N +ℤ D) = fits_128 (pos 2 *ℤ N +ℤ D) (omega (arith, ints, size, least, most)) in
    let further : (pos 2 *ℤ N +ℤ D) ÷ unsigned_abs (pos 2 *ℤ D) ≡ turn_of c.args.dir (first_angle at) (second_angle at) +ℚ pos 1 ÷ 2 =
    half_further N D least ∙ ap (λ t. t +ℚ pos 1 ÷ 2) c.turn_numerator.ensures.turn in
    let sines : (n : ℕ) → sine_of_turn n ((pos 2 *ℤ N +ℤ D) ÷ unsigned_abs (pos 2 *ℤ D)) ≡ sine_of n c.turn.result = simp to_z-of_z at c.turn.ensures.sine in
    onward (λ n h. subst (Encloses g.S.Scale.BITS c.sine.result) (sym (sines n) ∙ ap (sine_of_turn n) further) h) c.sine.ensures.encloses
