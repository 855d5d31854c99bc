use Rattle.std.proofs.Common.{sym, subst, subst₂}
use Rattle.unfolding.specs.Shift.{HasShift}
use Rattle.defining_functions.specs.AllHeights.{HaveAllHeights}
use Rattle.defining_functions.specs.Heights.{upper_height}
use Rattle.defining_functions.proofs.AllHeights.{have_all_heights}
use Rattle.defining_functions.proofs.functions.Functions.upper_edges.Goals as goal

pub returns-clause-heights : goal.returns-clause-heights
returns-clause-heights c =
    let i = c.self.inside in
    subst₂ (λ w edges. HaveAllHeights w upper_height edges) c.self.view_is (sym c.deref.ensures.value)
    (have_all_heights i.word upper_height i.uppers.heights.items i.uppers.places.items i.upper_edges.items c.self.invariant.each_upper
    c.self.invariant.all_uppers)

pub returns-clause-shift : goal.returns-clause-shift
returns-clause-shift c = subst HasShift c.self.view_is c.self.invariant.shift
