-- What the want of functions says of a word.

use Rattle.defining_functions.specs.declared.fault.FunctionsFault.{FunctionsFault}
use Rattle.defining_functions.specs.declared.fault.FunctionsFault.TheVariants as functions_fault
use Rattle.gradient_bounds.specs.declared.fault.PrepareFault.{PrepareFault}
use Rattle.gradient_bounds.specs.declared.fault.PrepareFault.TheVariants as prepare_fault

-- a word without a shift is not stable
abbrev pub fault_of : FunctionsFault → PrepareFault
fault_of functions_fault.NotTranslate = prepare_fault.Unstable
fault_of functions_fault.Memory = prepare_fault.Memory
