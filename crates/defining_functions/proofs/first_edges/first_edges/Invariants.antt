use Rattle.defining_functions.specs.Kept.{HaveAllPlaces}
use Rattle.defining_functions.proofs.first_edges.first_edges.Given as goal

abbrev pub invariant-loop-i : goal.invariant-loop-i
invariant-loop-i l = HaveAllPlaces l.places l.i l.edges.items
