-- How deep a tile may be. The greatest depth is this program's own.
use Rattle.std.specs.Prelude.{ℕ, List}
use Rattle.std.specs.declared.option.Option.{Option}
use Rattle.orbit_tile.specs.declared.TheConstants.{MAX_DEPTH}
use Rattle.billiards_cli.specs.Arguments.{number_up_to}

-- the depth that a text writes
abbrev pub tile_depth : List ℕ → Option ℕ
tile_depth text = number_up_to MAX_DEPTH text
