use Rattle.std.proofs.Common.{sym, subst, subst₂, pos}
use Rattle.rat_core.specs.Fraction.{◌÷◌, whole, ◌+ℚ◌, at_most, ◌<ℚ◌}
use Rattle.rat_core.specs.Written.{Written, value}
use Rattle.bounce_path.proofs.tests.refuses_what_has_no_room.Goals as goal

third_positive : whole 0 <ℚ pos 1 ÷ 3
unfolding at_most ◌÷◌
third_positive = record { lt = tt }

thirds_below_one : pos 1 ÷ 3 +ℚ pos 1 ÷ 3 <ℚ whole 1
unfolding at_most ◌+ℚ◌ ◌÷◌
thirds_below_one = record { lt = tt }

half_positive : whole 0 <ℚ pos 2 ÷ 4
unfolding at_most ◌÷◌
half_positive = record { lt = tt }

quarter_positive : whole 0 <ℚ pos 1 ÷ 4
unfolding at_most ◌÷◌
quarter_positive = record { lt = tt }

half_and_quarter_below_one : pos 2 ÷ 4 +ℚ pos 1 ÷ 4 <ℚ whole 1
unfolding at_most ◌+ℚ◌ ◌÷◌
half_and_quarter_below_one = record { lt = tt }

pub path-narrow-requires-clause-first : goal.path-narrow-requires-clause-first
path-narrow-requires-clause-first g c = subst (λ (x : Written). whole 0 <ℚ value x) (sym c.new.ensures) half_positive

pub path-narrow-requires-clause-second : goal.path-narrow-requires-clause-second
path-narrow-requires-clause-second g c = subst (λ (y : Written). whole 0 <ℚ value y) (sym c.new-2.ensures) quarter_positive

pub path-narrow-requires-clause-third : goal.path-narrow-requires-clause-third
path-narrow-requires-clause-third g c = subst₂ (λ (x y : Written). value x +ℚ value y <ℚ whole 1) (sym c.new.ensures) (sym c.new-2.ensures) half_and_quarter_below_one

pub path-unstable-requires-clause-first : goal.path-unstable-requires-clause-first
path-unstable-requires-clause-first g c = subst (λ (x : Written). whole 0 <ℚ value x) (sym c.new-3.ensures) third_positive

pub path-unstable-requires-clause-second : goal.path-unstable-requires-clause-second
path-unstable-requires-clause-second g c = subst (λ (y : Written). whole 0 <ℚ value y) (sym c.new-4.ensures) third_positive

pub path-unstable-requires-clause-third : goal.path-unstable-requires-clause-third
path-unstable-requires-clause-third g c = subst₂ (λ (x y : Written). value x +ℚ value y <ℚ whole 1) (sym c.new-3.ensures) (sym c.new-4.ensures) thirds_below_one
