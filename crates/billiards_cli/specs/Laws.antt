-- How much freedom right answers leave, and how those of one command go with those of another, over the definitions alone.
use Rattle.std.specs.Prelude.{◌≡◌, ◌≢◌, ◌⊎◌, ℕ, ◌≤◌, List, [], ◌∷◌, length}
use Rattle.edge_words.specs.Reading.{Spells}
use Rattle.gradient_bounds.specs.Clear.{IsClearAtPoint}
use Rattle.gradient_bounds.specs.Corridor.{HasCorridor}
use Rattle.gradient_bounds.specs.Slacks.{sure}
use Rattle.gradient_bounds.specs.Slacks as slacks
use Rattle.covering_file.specs.Covering.{IsCovering}
use Rattle.covering_file.specs.DueBoxes.{StandsIn}
use Rattle.covering_file.specs.Header.{Heading, IsHeading}
use Rattle.covering_file.specs.Laws.{HasNodeBetween}
use Rattle.covering_file.specs.Sound.{IsSoundNode}
use Rattle.covering_file.specs.TreeFile.{TreeFile}
use Rattle.covering_file.specs.Verdicts.{IsSureFile}
use Rattle.covering_file.specs.declared.node.Node.{Node}
use Rattle.covering_file.specs.declared.node.Node.TheVariants.{Uncovered}
use Rattle.covering_file.specs.declared.TheConstants.{MAX_NODES}
use Rattle.rational_polygon.specs.Square.{Square, unit_square}
use Rattle.line_grammar.specs.declared.reason.Reason.{Reason}
use Rattle.orbit_tile.specs.Laws.{IsBetweenSlacks}
use Rattle.coverer.specs.Laws.{DifferAtBox}
use Rattle.word_search.specs.Laws.{HasWordBetween}
use Rattle.billiards_cli.specs.Arguments.{Angles}
use Rattle.billiards_cli.specs.Jobs.{IsJobNumber, job_heading}
use Rattle.billiards_cli.specs.Commands.At.{AtTriangle, IsAtAnswer}
use Rattle.billiards_cli.specs.Commands.Check.{IsCheckAnswer}
use Rattle.billiards_cli.specs.Commands.Cover.{IsJobText, IsCoverAnswer}
use Rattle.billiards_cli.specs.Commands.Draw.{IsDrawAnswer}
use Rattle.billiards_cli.specs.Commands.Job.{IsJobAnswer}
use Rattle.billiards_cli.specs.Commands.Merge.{AreFiles, MergesFiles, IsMergeAnswer}
use Rattle.billiards_cli.specs.Commands.Search.{IsSearchAnswer, search_text}
use Rattle.billiards_cli.specs.Commands.Tile.{IsTileAnswer}
use Rattle.billiards_cli.specs.Commands.Upgrade.{IsUpgradeAnswer}
use Rattle.billiards_cli.specs.Commands.Word.{IsWordAnswer}
use Rattle.billiards_cli.specs.Refusals.{refused_text}
use Rattle.billiards_cli.specs.declared.status.Status.{Status}
use Rattle.billiards_cli.specs.declared.status.Status.TheVariants.{Done, NotShown, WriteFault, OutOfMemory}

-- two right answers of `word` to one input are one, but for want of memory
abbrev pub WordAnswerIsOne : Type 0
WordAnswerIsOne = (input text text' : List ℕ) (status status' : Status) → IsWordAnswer input status text → IsWordAnswer input status' text'
    → status ≢ OutOfMemory → status' ≢ OutOfMemory → (status ≡ status') × (text ≡ text')

-- and so are two of `draw`
abbrev pub DrawAnswerIsOne : Type 0
DrawAnswerIsOne = (input text text' : List ℕ) (status status' : Status) → IsDrawAnswer input status text → IsDrawAnswer input status' text'
    → status ≢ OutOfMemory → status' ≢ OutOfMemory → (status ≡ status') × (text ≡ text')

-- and two of `upgrade`
abbrev pub UpgradeAnswerIsOne : Type 0
UpgradeAnswerIsOne = (version : ℕ) (input text text' : List ℕ) (status status' : Status) → IsUpgradeAnswer version input status text
    → IsUpgradeAnswer version input status' text' → status ≢ OutOfMemory → status' ≢ OutOfMemory → (status ≡ status') × (text ≡ text')

-- and two of `job`, which never wants memory
abbrev pub JobAnswerIsOne : Type 0
JobAnswerIsOne = (k : ℕ) (text text' : List ℕ) (status status' : Status) → IsJobAnswer k status text → IsJobAnswer k status' text'
    → (status ≡ status') × (text ≡ text')

-- one of the texts names this line of the input, and it is that of a node that may stand at its box with the narrower slacks, and not with the wider ones
pub record NamesNodeBetween (input text text' : List ℕ) : Type 0 where
  pub line : ℕ
  pub reason : Reason
  pub named : (text ≡ refused_text line reason) ⊎ (text' ≡ refused_text line reason)
  pub between : HasNodeBetween input line

-- two right answers of `check` are one, but for want of memory, or for such a line
abbrev pub CheckAnswersDifferBetween : Type 0
CheckAnswersDifferBetween = (input text text' : List ℕ) (status status' : Status) → IsCheckAnswer input status text → IsCheckAnswer input status' text'
    → status ≢ OutOfMemory → status' ≢ OutOfMemory → ((status ≡ status') × (text ≡ text')) ⊎ NamesNodeBetween input text text'

-- The input is a job, and the texts have the same nodes up to a box on which a word may be shown, and may be passed over.
pub record CoversDifferAtBox (input text text' : List ℕ) : Type 0 where
  pub heading : Heading
  pub job : IsJobText input heading
  pub differ : DifferAtBox heading text text'

-- two right answers of `cover` are one, but for want of memory or a sink that fails, or for such a box
abbrev pub CoverAnswersDifferBetween : Type 0
CoverAnswersDifferBetween = (input text text' : List ℕ) (status status' : Status) → IsCoverAnswer input status text → IsCoverAnswer input status' text'
    → status ≢ OutOfMemory → status' ≢ OutOfMemory → status ≢ WriteFault → status' ≢ WriteFault
    → ((status ≡ status') × (text ≡ text')) ⊎ CoversDifferAtBox input text text'

-- the texts list words, and one of these stands in one list alone: it has a corridor at the triangle, and is not clear there with the wider slack
pub record ListsDifferBetween (triangle : Angles) (bound : ℕ) (text text' : List ℕ) : Type 0 where
  pub words : List (List ℕ)
  pub words' : List (List ℕ)
  pub text_is : text ≡ search_text words
  pub text_is' : text' ≡ search_text words'
  pub between : AtTriangle triangle (λ x y. HasWordBetween x y (λ w. length w ≤ bound) words words')

-- two right answers of `search` are one, but for want of memory, or for such a word
abbrev pub SearchAnswersDifferBetween : Type 0
SearchAnswersDifferBetween = (triangle : Angles) (bound : ℕ) (text text' : List ℕ) (status status' : Status) → IsSearchAnswer triangle bound status text
    → IsSearchAnswer triangle bound status' text' → status ≢ OutOfMemory → status' ≢ OutOfMemory
    → ((status ≡ status') × (text ≡ text')) ⊎ ListsDifferBetween triangle bound text text'

-- the word that an argument spells has a corridor at the triangle, and is not clear there with the wider slack
pub record IsBetween (argument : List ℕ) (triangle : Angles) : Type 0 where
  pub word : List ℕ
  pub spells : Spells argument word
  pub corridor : AtTriangle triangle (HasCorridor word)
  pub not_clear : ¬ (AtTriangle triangle (λ x y. IsClearAtPoint word x y sure.gradient))

-- two right answers of `at` are one, but for want of memory, or for a word that is between
abbrev pub AtAnswersDifferBetween : Type 0
AtAnswersDifferBetween = (argument text text' : List ℕ) (triangle : Angles) (status status' : Status) → IsAtAnswer argument triangle status text
    → IsAtAnswer argument triangle status' text' → status ≢ OutOfMemory → status' ≢ OutOfMemory
    → ((status ≡ status') × (text ≡ text')) ⊎ IsBetween argument triangle

-- on some box the word that an argument spells is clear or shut with the narrower slack, and neither with the wider one
pub record HasBoxBetween (argument : List ℕ) : Type 0 where
  pub word : List ℕ
  pub spells : Spells argument word
  pub box : Square
  pub between : IsBetweenSlacks word box

-- two right answers of `tile` are one, but for want of memory, or for such a box
abbrev pub TileAnswersDifferBetween : Type 0
TileAnswersDifferBetween = (argument text text' : List ℕ) (depth : ℕ) (status status' : Status) → IsTileAnswer argument depth status text
    → IsTileAnswer argument depth status' text' → status ≢ OutOfMemory → status' ≢ OutOfMemory
    → ((status ≡ status') × (text ≡ text')) ⊎ HasBoxBetween argument

-- Complete is accepted: what `cover` writes where it is done is the text of a file with a sure tree, and `check` accepts it, but for want of memory.
abbrev pub CompleteIsAccepted : Type 0
CompleteIsAccepted = (input file : List ℕ) → IsCoverAnswer input Done file → IsSureFile MAX_NODES file
    × ((status : Status) (line : List ℕ) → IsCheckAnswer file status line → (status ≡ Done) ⊎ (status ≡ OutOfMemory))

-- each generated job is a job
abbrev pub GeneratedIsJob : Type 0
GeneratedIsJob = (k : ℕ) → IsJobNumber k → IsHeading (job_heading k)

-- ---- merges

-- What `merge` writes where it is done is one whole covering file, and its region is covered.
abbrev pub ClosedMergeIsCovering : Type 0
ClosedMergeIsCovering = (input file : List ℕ) → IsMergeAnswer input Done file → IsCovering MAX_NODES file

-- each claim of the nodes is true with the wider slacks, or the box is left uncovered
abbrev pub AreSureOrOpen : TreeFile → Type 0
AreSureOrOpen f = (box : Square) (node : Node) → StandsIn (unit_square ∷ []) f.nodes box node
    → IsSoundNode f.heading slacks.sure box node ⊎ (node ≡ Uncovered)

-- Where both files are so, no claim of them is refused ..
abbrev pub SureFilesAreMerged : Type 0
SureFilesAreMerged = (input text : List ℕ) (f g : TreeFile) → AreFiles input f g → AreSureOrOpen f → AreSureOrOpen g
    → IsMergeAnswer input NotShown text → MergesFiles input NotShown text

-- .. and where the merge is done, it is the text of a file with a sure tree, and `check` accepts it, but for want of memory.
abbrev pub ClosedMergeIsAccepted : Type 0
ClosedMergeIsAccepted = (input file : List ℕ) (f g : TreeFile) → AreFiles input f g → AreSureOrOpen f → AreSureOrOpen g
    → IsMergeAnswer input Done file → IsSureFile MAX_NODES file
    × ((status : Status) (line : List ℕ) → IsCheckAnswer file status line → (status ≡ Done) ⊎ (status ≡ OutOfMemory))
