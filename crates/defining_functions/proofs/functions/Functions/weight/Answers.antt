use Rattle.std.proofs.Common.{◌≡◌, ◌≤◌, ◌≤ℤ◌, pos, sym, ap, subst, arith}
use Rattle.std.proofs.lemmas.Int.{ints}
use Rattle.exp_sums.specs.FormalPoint.{FormalPoint}
use Rattle.exp_sums.specs.Limits.{weight}
use Rattle.unfolding.specs.Shift.{IsShift}
use Rattle.defining_functions.specs.Functions.{defining_function, IsWithinFunctionLimits}
use Rattle.defining_functions.proofs.Limits.{function_limits}
use Rattle.defining_functions.proofs.Kept.{cast_fits, cast_is}
use Rattle.defining_functions.proofs.functions.Functions.weight.Goals as goal
use Rattle.defining_functions.proofs.functions.Functions.weight.Goals.{After-struct_known-1}

limits : (c : After-struct_known-1) (v : FormalPoint) → IsShift c.args.self.now v
    → IsWithinFunctionLimits (defining_function v c.args.self.now c.args.k c.args.l)
limits c v shift = function_limits c.args.self.now v c.sizes.ensures.word shift c.args.k c.args.l c.requires.upper c.requires.lower

weight_is : (c : After-struct_known-1) (v : FormalPoint) → IsShift c.args.self.now v
    → c.sizes.result.weight ≡ weight (defining_function v c.args.self.now c.args.k c.args.l)
weight_is c v shift = ap (λ s. s.weight) (c.sizes.ensures.is v shift)

at_most : (c : After-struct_known-1) (v : FormalPoint) → IsShift c.args.self.now v → weight (defining_function v c.args.self.now c.args.k c.args.l) ≤ 16384
at_most c v shift = omega (arith, (limits c v shift).light)

pub overflow_cast-result : goal.overflow_cast-result
overflow_cast-result c =
    let v = c.sizes.ensures.shift.0 in
    let shift = c.sizes.ensures.shift.1 in
    cast_fits _ _ (weight_is c v shift) (omega (arith, at_most c v shift))

pub returns-clause-is : goal.returns-clause-is
returns-clause-is c v shift = cast_is _ _ (weight_is c v shift) (omega (arith, at_most c v shift))

pub returns-clause-limit : goal.returns-clause-limit
returns-clause-limit c =
    let v = c.sizes.ensures.shift.0 in
    let shift = c.sizes.ensures.shift.1 in
    subst (λ z. z ≤ℤ pos 16384) (sym (cast_is _ _ (weight_is c v shift) (omega (arith, at_most c v shift)))) (omega (arith, ints, at_most c v shift))
