use Rattle.std.proofs.Common.{sym, subst, subst₂, pos}
use Rattle.rat_core.specs.Fraction.{◌÷◌, whole, ◌+ℚ◌, at_most, ◌<ℚ◌}
use Rattle.rat_core.specs.Written.{Written, value}
use Rattle.word_search.proofs.tests.finds_no_word_of_ten_letters_at_a_right_angle.Goals as goal

first_positive : whole 0 <ℚ pos 2 ÷ 4
unfolding at_most ◌÷◌
first_positive = record { lt = tt }

second_positive : whole 0 <ℚ pos 1 ÷ 4
unfolding at_most ◌÷◌
second_positive = record { lt = tt }

below_one : pos 2 ÷ 4 +ℚ pos 1 ÷ 4 <ℚ whole 1
unfolding at_most ◌+ℚ◌ ◌÷◌
below_one = record { lt = tt }

pub search-requires-clause-first : goal.search-requires-clause-first
search-requires-clause-first g c = subst (λ (x : Written). whole 0 <ℚ value x) (sym c.new.ensures) first_positive

pub search-requires-clause-second : goal.search-requires-clause-second
search-requires-clause-second g c = subst (λ (y : Written). whole 0 <ℚ value y) (sym c.new-2.ensures) second_positive

pub search-requires-clause-third : goal.search-requires-clause-third
search-requires-clause-third g c = subst₂ (λ (x y : Written). value x +ℚ value y <ℚ whole 1) (sym c.new.ensures) (sym c.new-2.ensures) below_one
