use Rattle.defining_functions.proofs.Differences.{function_difference}
use Rattle.defining_functions.proofs.laws.functions_are_differences.Goals as goal

pub returns : goal.returns
returns c = function_difference
