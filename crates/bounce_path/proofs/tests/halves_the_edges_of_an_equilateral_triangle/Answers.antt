use Rattle.std.proofs.Common.{sym, subst, subst₂, pos}
use Rattle.rat_core.specs.Fraction.{◌÷◌, whole, ◌+ℚ◌, at_most, ◌<ℚ◌}
use Rattle.rat_core.specs.Written.{Written, value}
use Rattle.bounce_path.proofs.tests.halves_the_edges_of_an_equilateral_triangle.Goals as goal

third_positive : whole 0 <ℚ pos 1 ÷ 3
unfolding at_most ◌÷◌
third_positive = record { lt = tt }

thirds_below_one : pos 1 ÷ 3 +ℚ pos 1 ÷ 3 <ℚ whole 1
unfolding at_most ◌+ℚ◌ ◌÷◌
thirds_below_one = record { lt = tt }

pub path-requires-clause-first : goal.path-requires-clause-first
path-requires-clause-first g c = subst (λ (x : Written). whole 0 <ℚ value x) (sym c.new.ensures) third_positive

pub path-requires-clause-second : goal.path-requires-clause-second
path-requires-clause-second g c = subst (λ (y : Written). whole 0 <ℚ value y) (sym c.new-2.ensures) third_positive

pub path-requires-clause-third : goal.path-requires-clause-third
path-requires-clause-third g c = subst₂ (λ (x y : Written). value x +ℚ value y <ℚ whole 1) (sym c.new.ensures) (sym c.new-2.ensures) thirds_below_one
