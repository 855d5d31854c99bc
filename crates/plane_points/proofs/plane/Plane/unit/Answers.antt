use Rattle.std.proofs.Common.{subst, subst₂, FitsSigned, pos}
use Rattle.std.specs.Int.{w128}
use Rattle.std.proofs.lemmas.Int.{to_z-of_z}
use Rattle.rat_core.specs.Fraction.{◌÷◌, ◌+ℚ◌}
use Rattle.trig_meaning.specs.Turn.{sine_of_turn}
use Rattle.trig_meaning.specs.Value.{turn_of}
use Rattle.sine_fixed.proofs.Weighing.{from_lower_end}
use Rattle.plane_points.specs.Kept.{IsLowOf, IsUnitSpot}
use Rattle.plane_points.proofs.Sums.{unit_is_spot}
use Rattle.plane_points.proofs.plane.Plane.unit.Goals as goal

pub returns-clause-unit : goal.returns-clause-unit
returns-clause-unit c =
    let x_fits : FitsSigned w128 c.lo.result = record { sfits = c.lo.type_inv } in
    let y_fits : FitsSigned w128 c.lo-2.result = record { sfits = c.lo-2.type_inv } in
    let is = c.self.invariant in
    let at = c.self.inside in
    let spot : IsUnitSpot (at.x, at.y) c.args.dir (record { x = c.lo.result; y = c.lo-2.result }) = record {
      first = subst₂ (λ u v. IsLowOf c.lo.result (λ n. sine_of_turn n (turn_of c.args.dir u v +ℚ pos 1 ÷ 2))) is.first is.second
          (from_lower_end 60 _ c.direction_cosine.result c.lo.result c.direction_cosine.ensures.encloses c.direction_cosine.ensures.width c.lo.ensures.value);
      second = subst₂ (λ u v. IsLowOf c.lo-2.result (λ n. sine_of_turn n (turn_of c.args.dir u v))) is.first is.second
          (from_lower_end 60 _ c.direction_sine.result c.lo-2.result c.direction_sine.ensures.encloses c.direction_sine.ensures.width c.lo-2.ensures.value);
    } in
    simp to_z-of_z (subst (λ (p : _ × _). IsUnitSpot p c.args.dir (record { x = c.lo.result; y = c.lo-2.result })) c.self.view_is spot)

pub returns-clause-spot : goal.returns-clause-spot
returns-clause-spot c = unit_is_spot c.args.self.now c.args.dir _ (returns-clause-unit c)
