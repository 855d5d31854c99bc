-- The command `tile`: the picture of a word's tile.
use Rattle.std.specs.Prelude.{◌≡◌, ℕ, ◌≤◌, List, [], ◌∷◌, length, None, ⊤}
use Rattle.std.specs.Option.{option_map}
use Rattle.std.specs.declared.option.Option.{Option}
use Rattle.edge_words.specs.Reading.{Spells}
use Rattle.edge_words.specs.Stable.{IsStable}
use Rattle.covering_file.specs.CornerForms.{word_form}
use Rattle.orbit_tile.specs.Tile.{IsTile, IsFull}
use Rattle.orbit_tile.specs.declared.TheConstants.{MAX_PATCHES}
use Rattle.orbit_tile.specs.declared.patch.Patch.{Patch}
use Rattle.svg_pictures.specs.TilePicture.{tile_text}
use Rattle.billiards_cli.specs.Commands.At.{AtWantsMemory}
use Rattle.billiards_cli.specs.Refusals.{RefusesArgument}
use Rattle.billiards_cli.specs.TileDepths.{tile_depth}
use Rattle.billiards_cli.specs.declared.request.Request.{Request}
use Rattle.billiards_cli.specs.declared.request.Request.TheVariants as request
use Rattle.billiards_cli.specs.declared.status.Status.{Status}
use Rattle.billiards_cli.specs.declared.status.Status.TheVariants.{Done, Malformed, OutOfMemory, Full}

-- it takes a word and a depth
abbrev pub tile_request : List (List ℕ) → Option Request
tile_request (word ∷ depth ∷ []) = option_map (λ level. request.Tile word level) (tile_depth depth)
tile_request arguments = None

-- a tile of the word that has not too many patches
pub record HasTile (word : List ℕ) (depth : ℕ) : Type 0 where
  pub patches : List Patch
  pub tile : IsTile word depth patches
  pub within : length patches ≤ MAX_PATCHES

-- the picture of such a tile
pub record DrawsTile (argument : List ℕ) (depth : ℕ) (text : List ℕ) : Type 0 where
  pub word : List ℕ
  pub spells : Spells argument word
  pub stable : IsStable word
  pub drawn : HasTile word depth
  pub text_is : text ≡ tile_text drawn.patches

-- the most patches were made, and a box is still due; nothing is written
pub record OverfillsTile (argument : List ℕ) (depth : ℕ) (text : List ℕ) : Type 0 where
  pub word : List ℕ
  pub spells : Spells argument word
  pub stable : IsStable word
  pub full : IsFull word depth MAX_PATCHES
  pub text_is : text ≡ []

-- An argument is refused that spells no word, or none that is stable. Memory is wanting only for a stable word.
abbrev pub IsTileAnswer : List ℕ → ℕ → Status → List ℕ → Type 0
IsTileAnswer argument depth Done text = DrawsTile argument depth text
IsTileAnswer argument depth Full text = OverfillsTile argument depth text
IsTileAnswer argument depth Malformed text = RefusesArgument word_form argument text
IsTileAnswer argument depth OutOfMemory text = AtWantsMemory argument text
IsTileAnswer argument depth status text = ⊥

-- the statuses of a stable word: done where there is such a tile, full where the most patches leave a box that is due
abbrev pub EndsTile : List ℕ → ℕ → Status → Type 0
EndsTile word depth Done = HasTile word depth
EndsTile word depth Full = IsFull word depth MAX_PATCHES
EndsTile word depth OutOfMemory = ⊤
EndsTile word depth status = ⊥

-- what is no stable word is refused
pub record IsTileDue (argument : List ℕ) (depth : ℕ) (status : Status) : Type 0 where
  pub ends : (w : List ℕ) → Spells argument w → IsStable w → EndsTile w depth status
  pub refused : ¬ ((w : List ℕ) × Spells argument w × IsStable w) → status ≡ Malformed
