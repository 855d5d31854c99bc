use Rattle.std.proofs.Common.{sym, ap₂, subst, ◌∙◌}
use Rattle.exp_sums.specs.FormalPoint.{◌-ₚ◌}
use Rattle.defining_functions.specs.Functions.{IsWithinFunctionLimits}
use Rattle.defining_functions.proofs.Limits.{function_limits}
use Rattle.defining_functions.proofs.Differences.{function_difference}
use Rattle.defining_functions.proofs.functions.Functions.function.Goals as goal

pub returns-clause-is : goal.returns-clause-is
returns-clause-is c v shift =
    c.in_ok-sub.ensures.ok
    ∙ ap₂ ◌-ₚ◌ (c.in_ok-function.ensures ∙ c.upper_height.ensures.is v shift) (c.lower_height.ensures.is v shift)
    ∙ sym (function_difference v c.args.self.now c.args.k c.args.l)

pub returns-clause-limits : goal.returns-clause-limits
returns-clause-limits c =
    let v = c.upper_height.ensures.shift.0 in
    let shift = c.upper_height.ensures.shift.1 in
    let is =
    c.in_ok-sub.ensures.ok
    ∙ ap₂ ◌-ₚ◌ (c.in_ok-function.ensures ∙ c.upper_height.ensures.is v shift) (c.lower_height.ensures.is v shift)
    ∙ sym (function_difference v c.args.self.now c.args.k c.args.l)
    in
    subst IsWithinFunctionLimits (sym is)
    (function_limits c.args.self.now v c.upper_height.ensures.word shift c.args.k c.args.l c.requires.upper c.requires.lower)
