-- Why a tile is not made, where its word can't be prepared.
use Rattle.gradient_bounds.specs.declared.fault.PrepareFault.{PrepareFault}
use Rattle.gradient_bounds.specs.declared.fault.PrepareFault.TheVariants as prepare_fault
use Rattle.orbit_tile.specs.declared.fault.TileFault.{TileFault}
use Rattle.orbit_tile.specs.declared.fault.TileFault.TheVariants as tile_fault

abbrev pub fault_of : PrepareFault → TileFault
fault_of prepare_fault.Unstable = tile_fault.Unstable
fault_of prepare_fault.Memory = tile_fault.Memory
