-- The value of a sine form at a point of the angle plane, the coordinates of a formal point, and "positive".
--
-- A formal point is a sum of c·e^{iπ(mx + ny)} over its terms. Its second coordinate is the sum of c·sin π(mx + ny), and
-- its first the sum of c·cos π(mx + ny), which is that of c·sin π(mx + ny + 1/2). A sine form is a formal point too, read
-- as the sum of c·sin π(mx + ny).
use Rattle.std.specs.Prelude.{ℕ, pos}
use Rattle.rat_core.specs.Fraction.{ℚ, ◌÷◌, whole, ◌+ℚ◌, ◌*ℚ◌, ◌≤ℚ◌, ◌<ℚ◌}
use Rattle.rat_core.specs.Ring.{ℚ_ring, ℚ_image}
use Rattle.exp_sums.specs.declared.direction.Dir.{Dir}
use Rattle.exp_sums.specs.FormalPoint.{FormalPoint}
use Rattle.exp_sums.specs.Weigh.{weigh}
use Rattle.trig_meaning.specs.Turn.{sine_of_turn}
use Rattle.trig_meaning.specs.FromSomeOn.{FromSomeOn}

-- mx + ny: the direction (m, n) at (x, y) turns by this many half turns
abbrev pub turn_of : Dir → ℚ → ℚ → ℚ
turn_of d x y = (d.m ÷ 1) *ℚ x +ℚ (d.n ÷ 1) *ℚ y

-- the sum of c·sin π(mx + ny), by the n-th approximation
abbrev pub value_at : ℕ → FormalPoint → ℚ → ℚ → ℚ
value_at n form x y = weigh ℚ_ring ℚ_image (λ d. sine_of_turn n (turn_of d x y)) form

-- the coordinates of a formal point
abbrev pub first_coordinate : ℕ → FormalPoint → ℚ → ℚ → ℚ
first_coordinate n point x y = weigh ℚ_ring ℚ_image (λ d. sine_of_turn n (turn_of d x y +ℚ pos 1 ÷ 2)) point

abbrev pub second_coordinate : ℕ → FormalPoint → ℚ → ℚ → ℚ
second_coordinate n point x y = value_at n point x y

-- at least some e > 0, from some n on
abbrev pub IsPositiveAt : FormalPoint → ℚ → ℚ → Type 0
IsPositiveAt form x y = (e : ℚ) × (whole 0 <ℚ e) × FromSomeOn (λ n. e ≤ℚ value_at n form x y)
