-- The command `draw`: the picture of a covering file that is read from the input.
use Rattle.std.specs.Prelude.{◌≡◌, ◌⊎◌, ℕ, ◌<◌, ◌≤◌, List, [], ◌∷◌, count_by, Some, None}
use Rattle.std.specs.declared.option.Option.{Option}
use Rattle.covering_file.specs.Header.{Heading}
use Rattle.covering_file.specs.Tree.{Tree, preorder}
use Rattle.svg_pictures.specs.CoveringPicture.{is_drawn, covering_picture}
use Rattle.svg_pictures.specs.declared.TheConstants.{MAX_DRAWN}
use Rattle.billiards_cli.specs.Command.{Extent, ToTheEnd, ToALine}
use Rattle.billiards_cli.specs.Refusals.{RefusesLine}
use Rattle.billiards_cli.specs.WholeFile.{IsFileText, IsNoFileText, IsRefusedFile, FileWantsMemory}
use Rattle.billiards_cli.specs.declared.request.Request.{Request}
use Rattle.billiards_cli.specs.declared.request.Request.TheVariants as request
use Rattle.billiards_cli.specs.declared.status.Status.{Status}
use Rattle.billiards_cli.specs.declared.status.Status.TheVariants.{Done, Malformed, OutOfMemory, Full}

-- it takes no arguments
abbrev pub draw_request : List (List ℕ) → Option Request
draw_request [] = Some request.Draw
draw_request (argument ∷ more) = None

-- how many leaves of a tree are drawn
abbrev pub drawn_in : Tree → ℕ
drawn_in t = count_by is_drawn (preorder t)

-- the picture of the covering file that the input is, which draws at most 200,000 leaves
pub record DrawsCovering (input text : List ℕ) : Type 0 where
  pub heading : Heading
  pub tree : Tree
  pub file : IsFileText input heading tree
  pub few : drawn_in tree ≤ MAX_DRAWN
  pub text_is : text ≡ covering_picture heading tree

-- a picture would draw more leaves; nothing is written
pub record OverfillsDrawing (input text : List ℕ) : Type 0 where
  pub heading : Heading
  pub tree : Tree
  pub file : IsFileText input heading tree
  pub many : MAX_DRAWN < drawn_in tree
  pub text_is : text ≡ []

-- Done or full where the input is a covering file. Else the first line that offends is refused. Memory is wanting only after the first line of a file.
abbrev pub IsDrawAnswer : List ℕ → Status → List ℕ → Type 0
IsDrawAnswer input Done text = DrawsCovering input text
IsDrawAnswer input Full text = OverfillsDrawing input text
IsDrawAnswer input Malformed text = RefusesLine (IsRefusedFile input) text
IsDrawAnswer input OutOfMemory text = FileWantsMemory input text
IsDrawAnswer input status text = ⊥

-- a covering file is drawn, or is full where it has too many leaves to draw, and any other input is refused, unless memory is wanting
pub record IsDrawDue (input : List ℕ) (status : Status) : Type 0 where
  pub drawn : (h : Heading) (t : Tree) → IsFileText input h t → drawn_in t ≤ MAX_DRAWN → (status ≡ Done) ⊎ (status ≡ OutOfMemory)
  pub full : (h : Heading) (t : Tree) → IsFileText input h t → MAX_DRAWN < drawn_in t → (status ≡ Full) ⊎ (status ≡ OutOfMemory)
  pub refused : IsNoFileText input → (status ≡ Malformed) ⊎ (status ≡ OutOfMemory)

-- it draws a file, or is full, only at the end of the input
abbrev pub draw_reads_to : Status → Extent
draw_reads_to Done = ToTheEnd
draw_reads_to Full = ToTheEnd
draw_reads_to status = ToALine
