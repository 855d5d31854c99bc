use Rattle.std.proofs.Common.{FitsSigned, arith}
use Rattle.std.specs.Int.{w64, w128}
use Rattle.std.proofs.lemmas.Int.{to_z-of_z, fits_signed_from_abs}
use Rattle.word_search.specs.Places.{IsUnit}
use Rattle.sine_fixed.specs.Angles.{first_angle, second_angle}
use Rattle.word_search.proofs.Rounded.{near_rounded}
use Rattle.word_search.proofs.unit.unit.Goals as goal

pub returns-clause-unit : goal.returns-clause-unit
returns-clause-unit c =
    let lo_fits : FitsSigned w128 c.lo.result = record { sfits = c.lo.type_inv } in
    let lo_fits' : FitsSigned w128 c.lo-2.result = record { sfits = c.lo-2.type_inv } in
    let x_fits : FitsSigned w64 c.rounded.result = fits_signed_from_abs w64 c.rounded.result (omega (arith, c.rounded.ensures.size)) in
    let y_fits : FitsSigned w64 c.rounded-2.result = fits_signed_from_abs w64 c.rounded-2.result (omega (arith, c.rounded-2.ensures.size)) in
    let low = simp to_z-of_z at c.rounded.ensures.low in
    let high = simp to_z-of_z at c.rounded.ensures.high in
    let low' = simp to_z-of_z at c.rounded-2.ensures.low in
    let high' = simp to_z-of_z at c.rounded-2.ensures.high in
    let is : IsUnit (first_angle c.args.at.now) (second_angle c.args.at.now) c.args.dir (record { x = c.rounded.result; y = c.rounded-2.result }) = record {
      first = near_rounded _ c.direction_cosine.result c.lo.result c.rounded.result c.direction_cosine.ensures.encloses c.direction_cosine.ensures.width
          c.lo.ensures.value low high;
      second = near_rounded _ c.direction_sine.result c.lo-2.result c.rounded-2.result c.direction_sine.ensures.encloses c.direction_sine.ensures.width
          c.lo-2.ensures.value low' high';
    } in
    simp to_z-of_z is
