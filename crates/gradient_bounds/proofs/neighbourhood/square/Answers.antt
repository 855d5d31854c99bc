use Rattle.std.proofs.Common.{ap, ◌∙◌, pos, arith}
use Rattle.std.proofs.lemmas.Int.{ints}
use Rattle.rat_core.specs.Written.{Written}
use Rattle.sine_fixed.proofs.Turning.{box_angles_kept}
use Rattle.gradient_bounds.proofs.neighbourhood.square.Goals as goal

pub returns-clause-neighbourhood : goal.returns-clause-neighbourhood
returns-clause-neighbourhood c =
    let place = c.args.place in
    let box = c.centre-x.ensures.is_box in
    record {
      angles = box_angles_kept place.i place.j place.level c.num.result c.num-2.result c.den.result box.depth box.column box.row
          (c.num.ensures.value ∙ ap (λ (w : Written). w.num) c.centre-x.ensures.x) (c.num-2.ensures.value ∙ ap (λ (w : Written). w.num) c.centre-x.ensures.y)
          (c.den.ensures.value ∙ ap (λ (w : Written). pos w.den) c.centre-x.ensures.x);
      at_least = omega (arith, ints);
      at_most = omega (arith, ints);
    }
