use Rattle.std.proofs.Common.{◌≤◌, ◌*◌, ◌^◌}
use Rattle.exp_sums.specs.FormalPoint.{FormalPoint}
use Rattle.exp_sums.specs.Limits.{IsWithin, weight}
use Rattle.unfolding.specs.Shift.{IsShift}
use Rattle.gradient_bounds.specs.Kept.{IsMarkOf, height_terms}
use Rattle.gradient_bounds.proofs.directions.directions_of.Given as goal

-- the directions of the first edges' heights are taken in
abbrev pub invariant-loop-i : goal.invariant-loop-i
invariant-loop-i l =
    ((v : FormalPoint) → IsShift l.functions v → IsMarkOf (height_terms v l.functions l.i) l.directions)
    × (IsWithin 130 l.directions)
    × (weight l.directions ≤ 2 ^ 15 * l.i)
