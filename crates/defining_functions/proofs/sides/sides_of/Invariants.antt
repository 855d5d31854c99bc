use Rattle.defining_functions.specs.Kept.{IsSideSoFar, IsUpperHeight, IsLowerHeight}
use Rattle.defining_functions.proofs.sides.sides_of.Given as goal

-- both sides of the first i edges
abbrev pub invariant-loop-i : goal.invariant-loop-i
invariant-loop-i l =
    IsSideSoFar (IsUpperHeight l.u) l.i l.uppers.heights.items l.uppers.places.items
    × IsSideSoFar (IsLowerHeight l.u) l.i l.lowers.heights.items l.lowers.places.items
