use Rattle.std.proofs.Common.{◌+◌, subst}
use Rattle.defining_functions.specs.Kept.{IsUpperHeight, IsLowerHeight}
use Rattle.defining_functions.specs.Steps.{SharesEnd}
use Rattle.defining_functions.proofs.Kept.{lower_limits, lower_again}
use Rattle.defining_functions.proofs.SideSteps.{side_pushed, side_again, side_along, on_ok}
use Rattle.defining_functions.proofs.StepHeights.{step_at, lower_by_step, first_lower, last_wanted, last_limits}
use Rattle.defining_functions.proofs.sides.add_lower.Goals as goal

pub moved-requires-clause-height : goal.moved-requires-clause-height
moved-requires-clause-height c =
    let w = c.args.u.now in
    let i = c.args.i in
    let step = step_at w i _ _ c.index-step.result.now c.requires.steps c.requires.place c.index-step.ensures in
    let shared = subst (SharesEnd w i) c.in-Upper.is step.shared in
    last_limits (IsUpperHeight w) i _ _ c.requires.uppers shared.0 c.last.result.now c.last.ensures

pub returns-in-Lower : goal.returns-in-Lower
returns-in-Lower c =
    let w = c.args.u.now in
    let i = c.args.i in
    let step = step_at w i _ _ c.index-step.result.now c.requires.steps c.requires.place c.index-step.ensures in
    let shared = subst (SharesEnd w i) c.in-Lower.is step.shared in
    on_ok c.push_again.result
    (λ is_h is_p. side_along (IsLowerHeight w) (i + 1) _ _ _ _ is_h is_p
    (side_again (IsLowerHeight w) i _ _ c.requires.so_far shared.0 (lower_again w i shared.0 shared.1)))
    c.push_again.ensures.heights c.push_again.ensures.places

pub returns-in_ok-height-in-Upper : goal.returns-in_ok-height-in-Upper
returns-in_ok-height-in-Upper c =
    let w = c.args.u.now in
    let i = c.args.i in
    let f = c.in_ok-height-in-Upper.height in
    let step = step_at w i _ _ c.index-step.result.now c.requires.steps c.requires.place c.index-step.ensures in
    let shared = subst (SharesEnd w i) c.in-Upper.is step.shared in
    let before = last_wanted (IsUpperHeight w) i _ _ c.requires.uppers shared.0 c.last.result.now c.last.ensures in
    let wanted : IsLowerHeight w i f =
    lower_by_step w i _ _ c.index-step.result.now c.requires.steps c.requires.place c.index-step.ensures c.index-plus.result.now c.index-minus.result.now
    c.index-plus.ensures c.index-minus.ensures c.last.result.now f shared.0 shared.1 before c.in_ok-height-in-Upper.ensures in
    let limits = lower_limits w i f c.requires.word c.requires.shift c.requires.place wanted in
    on_ok c.push.result
    (λ is_h is_p. side_along (IsLowerHeight w) (i + 1) _ _ _ _ is_h is_p (side_pushed (IsLowerHeight w) i _ _ c.requires.so_far f limits wanted))
    c.push.ensures.heights c.push.ensures.places

pub returns-in-Neither : goal.returns-in-Neither
returns-in-Neither c =
    let w = c.args.u.now in
    let i = c.args.i in
    let f = c.new.result in
    let step = step_at w i _ _ c.index-step.result.now c.requires.steps c.requires.place c.index-step.ensures in
    let wanted : IsLowerHeight w i f = first_lower w i f (subst (SharesEnd w i) c.in-Neither.is step.shared) c.new.ensures in
    let limits = lower_limits w i f c.requires.word c.requires.shift c.requires.place wanted in
    on_ok c.push-in-Neither.result
    (λ is_h is_p. side_along (IsLowerHeight w) (i + 1) _ _ _ _ is_h is_p (side_pushed (IsLowerHeight w) i _ _ c.requires.so_far f limits wanted))
    c.push-in-Neither.ensures.heights c.push-in-Neither.ensures.places
