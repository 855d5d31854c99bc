use Rattle.std.proofs.Common.{◌≡◌, ◌+◌, ◌-◌, sym, subst, arith}
use Rattle.defining_functions.specs.Functions.{IsWithinFunctionLimits}
use Rattle.defining_functions.specs.Kept.{IsUpperHeight, IsLowerHeight}
use Rattle.defining_functions.specs.Steps.{SharesEnd}
use Rattle.defining_functions.proofs.Kept.{upper_limits, upper_again}
use Rattle.defining_functions.proofs.SideSteps.{side_pushed, side_again, side_along, on_ok}
use Rattle.defining_functions.proofs.StepHeights.{step_at, upper_by_step, last_wanted, last_limits}
use Rattle.defining_functions.proofs.sides.add_upper.Goals as goal

pub returns-in-Upper : goal.returns-in-Upper
returns-in-Upper c =
    let w = c.args.u.now in
    let i = c.args.i in
    let step = step_at w i _ _ c.index-step.result.now c.requires.steps c.requires.place c.index-step.ensures in
    let shared = subst (SharesEnd w i) c.in-Upper.is step.shared in
    on_ok c.push_again.result
    (λ is_h is_p. side_along (IsUpperHeight w) (i + 1) _ _ _ _ is_h is_p
    (side_again (IsUpperHeight w) i _ _ c.requires.so_far shared.0 (upper_again w i shared.0 shared.1)))
    c.push_again.ensures.heights c.push_again.ensures.places

pub moved-requires : goal.moved-requires
moved-requires c =
    let w = c.args.u.now in
    let i = c.args.i in
    let steps = c.requires.steps in
    let s = c.index-step.result.now in
    let step = step_at w i _ _ s steps c.requires.place c.index-step.ensures in
    record {
      height = last_limits (IsLowerHeight w) (i + 1) _ _ c.requires.lowers (omega arith) c.last.result.now c.last.ensures;
      plus = subst IsWithinFunctionLimits (sym c.index-plus.ensures) (steps.limits s.plus c.index-plus.result.now step.plus);
      minus = subst IsWithinFunctionLimits (sym c.index-minus.ensures) (steps.limits s.minus c.index-minus.result.now step.minus);
    }

pub returns-in_ok-height-in-Lower : goal.returns-in_ok-height-in-Lower
returns-in_ok-height-in-Lower c =
    let w = c.args.u.now in
    let i = c.args.i in
    let f = c.in_ok-height-in-Lower.height in
    let here : i + 1 - 1 ≡ i = omega arith in
    let lower : IsLowerHeight w i c.last.result.now =
    subst (λ j. IsLowerHeight w j c.last.result.now) here
    (last_wanted (IsLowerHeight w) (i + 1) _ _ c.requires.lowers (omega arith) c.last.result.now c.last.ensures) in
    let wanted : IsUpperHeight w i f =
    upper_by_step w i _ _ c.index-step.result.now c.requires.steps c.requires.place c.index-step.ensures c.index-plus.result.now c.index-minus.result.now
    c.index-plus.ensures c.index-minus.ensures c.last.result.now f lower c.in_ok-height-in-Lower.ensures in
    let limits = upper_limits w i f c.requires.word c.requires.shift c.requires.place wanted in
    on_ok c.push.result
    (λ is_h is_p. side_along (IsUpperHeight w) (i + 1) _ _ _ _ is_h is_p (side_pushed (IsUpperHeight w) i _ _ c.requires.so_far f limits wanted))
    c.push.ensures.heights c.push.ensures.places
