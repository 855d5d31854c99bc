use Rattle.std.proofs.Common.{sym, subst, subst₂}
use Rattle.unfolding.specs.Shift.{HasShift}
use Rattle.defining_functions.specs.AllHeights.{HaveAllHeights}
use Rattle.defining_functions.specs.Heights.{lower_height}
use Rattle.defining_functions.proofs.AllHeights.{have_all_heights}
use Rattle.defining_functions.proofs.functions.Functions.lower_edges.Goals as goal

pub returns-clause-heights : goal.returns-clause-heights
returns-clause-heights c =
    let i = c.self.inside in
    subst₂ (λ w edges. HaveAllHeights w lower_height edges) c.self.view_is (sym c.deref.ensures.value)
    (have_all_heights i.word lower_height i.lowers.heights.items i.lowers.places.items i.lower_edges.items c.self.invariant.each_lower
    c.self.invariant.all_lowers)

pub returns-clause-shift : goal.returns-clause-shift
returns-clause-shift c = subst HasShift c.self.view_is c.self.invariant.shift
