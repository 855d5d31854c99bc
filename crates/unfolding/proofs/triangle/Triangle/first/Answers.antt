use Rattle.std.proofs.Common.{[], refl, arith}
use Rattle.std.proofs.lemmas.Result.{IfOk-weaker}
use Rattle.unfolding.proofs.KeptTriangles.{weight-origin, within-origin}
use Rattle.unfolding.proofs.triangle.Triangle.first.Goals as goal

pub round-requires-clause-light : goal.round-requires-clause-light
round-requires-clause-light c = omega (arith, weight-origin c.new.result c.new.ensures)

pub round-requires-clause-within : goal.round-requires-clause-within
round-requires-clause-within c = within-origin 1000 c.new.result c.new.ensures

pub returns : goal.returns
returns c = IfOk-weaker c.round.result _ _ (λ t is. is [] c.new.ensures refl refl) c.round.ensures
