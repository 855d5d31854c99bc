-- Why a path is not made, where its word can't be prepared.
use Rattle.gradient_bounds.specs.declared.fault.PrepareFault.{PrepareFault}
use Rattle.gradient_bounds.specs.declared.fault.PrepareFault.TheVariants as prepare_fault
use Rattle.bounce_path.specs.declared.fault.PathFault.{PathFault}
use Rattle.bounce_path.specs.declared.fault.PathFault.TheVariants as path_fault

abbrev pub fault_of : PrepareFault → PathFault
fault_of prepare_fault.Unstable = path_fault.Unstable
fault_of prepare_fault.Memory = path_fault.Memory
