-- The command `upgrade`: a covering file that is read from the input, in a later version of the format.
use Rattle.std.specs.Prelude.{◌≡◌, ◌⊎◌, ℕ, List, [], ◌∷◌, None}
use Rattle.std.specs.Option.{option_map}
use Rattle.std.specs.declared.option.Option.{Option}
use Rattle.covering_file.specs.Header.{Heading}
use Rattle.covering_file.specs.Tree.{Tree, file_text}
use Rattle.covering_file.specs.TreeFile.{upgraded}
use Rattle.billiards_cli.specs.Command.{Extent, ToTheEnd, ToALine}
use Rattle.billiards_cli.specs.Refusals.{RefusesLine}
use Rattle.billiards_cli.specs.UpgradeVersions.{upgrade_version}
use Rattle.billiards_cli.specs.WholeFile.{IsFileText, IsNoFileText, IsRefusedFile, FileWantsMemory}
use Rattle.billiards_cli.specs.declared.request.Request.{Request}
use Rattle.billiards_cli.specs.declared.request.Request.TheVariants as request
use Rattle.billiards_cli.specs.declared.status.Status.{Status}
use Rattle.billiards_cli.specs.declared.status.Status.TheVariants.{Done, Malformed, OutOfMemory}

-- it takes a version
abbrev pub upgrade_request : List (List ℕ) → Option Request
upgrade_request (text ∷ []) = option_map request.Upgrade (upgrade_version text)
upgrade_request arguments = None

-- the text of the same tree, under the same header in the greater of the two versions
pub record UpgradesFile (version : ℕ) (input text : List ℕ) : Type 0 where
  pub heading : Heading
  pub tree : Tree
  pub file : IsFileText input heading tree
  pub text_is : text ≡ file_text (upgraded version heading) tree

-- Done where the input is a covering file. Else the first line that offends is refused. Memory is wanting only after the first line of a file.
abbrev pub IsUpgradeAnswer : ℕ → List ℕ → Status → List ℕ → Type 0
IsUpgradeAnswer version input Done text = UpgradesFile version input text
IsUpgradeAnswer version input Malformed text = RefusesLine (IsRefusedFile input) text
IsUpgradeAnswer version input OutOfMemory text = FileWantsMemory input text
IsUpgradeAnswer version input status text = ⊥

-- a covering file is upgraded, and any other input refused, unless memory is wanting
pub record IsUpgradeDue (input : List ℕ) (status : Status) : Type 0 where
  pub upgraded : (h : Heading) (t : Tree) → IsFileText input h t → (status ≡ Done) ⊎ (status ≡ OutOfMemory)
  pub refused : IsNoFileText input → (status ≡ Malformed) ⊎ (status ≡ OutOfMemory)

-- it writes a file only at the end of the input
abbrev pub upgrade_reads_to : Status → Extent
upgrade_reads_to Done = ToTheEnd
upgrade_reads_to status = ToALine
