use Rattle.std.proofs.Common.{sym, subst, subst₂, pos}
use Rattle.rat_core.specs.Fraction.{◌÷◌, whole, ◌+ℚ◌, at_most, ◌<ℚ◌}
use Rattle.rat_core.specs.Written.{Written, value}
use Rattle.covering_claims.proofs.box_tests.tests_points.Goals as goal

third_positive : whole 0 <ℚ pos 1 ÷ 3
unfolding at_most ◌÷◌
third_positive = record { lt = tt }

half_positive : whole 0 <ℚ pos 1 ÷ 2
unfolding at_most ◌÷◌
half_positive = record { lt = tt }

quarter_positive : whole 0 <ℚ pos 1 ÷ 4
unfolding at_most ◌÷◌
quarter_positive = record { lt = tt }

thirds_below_one : pos 1 ÷ 3 +ℚ pos 1 ÷ 3 <ℚ whole 1
unfolding at_most ◌+ℚ◌ ◌÷◌
thirds_below_one = record { lt = tt }

half_and_quarter_below_one : pos 1 ÷ 2 +ℚ pos 1 ÷ 4 <ℚ whole 1
unfolding at_most ◌+ℚ◌ ◌÷◌
half_and_quarter_below_one = record { lt = tt }

pub test_point-requires-clause-first : goal.test_point-requires-clause-first
test_point-requires-clause-first g c = subst (λ (x : Written). whole 0 <ℚ value x) (sym c.new-2.ensures) third_positive

pub test_point-requires-clause-second : goal.test_point-requires-clause-second
test_point-requires-clause-second g c = subst (λ (y : Written). whole 0 <ℚ value y) (sym c.new-3.ensures) third_positive

pub test_point-requires-clause-third : goal.test_point-requires-clause-third
test_point-requires-clause-third g c = subst₂ (λ (x y : Written). value x +ℚ value y <ℚ whole 1) (sym c.new-2.ensures) (sym c.new-3.ensures) thirds_below_one

pub test_point-requires-2-clause-first : goal.test_point-requires-2-clause-first
test_point-requires-2-clause-first g c = subst (λ (x : Written). whole 0 <ℚ value x) (sym c.new-4.ensures) half_positive

pub test_point-requires-2-clause-second : goal.test_point-requires-2-clause-second
test_point-requires-2-clause-second g c = subst (λ (y : Written). whole 0 <ℚ value y) (sym c.new-5.ensures) quarter_positive

pub test_point-requires-2-clause-third : goal.test_point-requires-2-clause-third
test_point-requires-2-clause-third g c = subst₂ (λ (x y : Written). value x +ℚ value y <ℚ whole 1) (sym c.new-4.ensures)
    (sym c.new-5.ensures) half_and_quarter_below_one
