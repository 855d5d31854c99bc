-- What follows from the definitions alone.
use Rattle.std.specs.Prelude.{◌≡◌, ◌≢◌, ◌⊎◌, ℕ, List, [], ◌∷◌, ◌++◌, Some}
use Rattle.rational_polygon.specs.Square.{Square}
use Rattle.gradient_bounds.specs.Clear.{IsClear}
use Rattle.gradient_bounds.specs.CornerClear.{IsCornerClear}
use Rattle.gradient_bounds.specs.Slacks as slacks
use Rattle.line_grammar.specs.Text.{text_of}
use Rattle.line_grammar.specs.declared.reason.Reason.{Reason}
use Rattle.covering_file.specs.declared.node.Node.{Node}
use Rattle.covering_file.specs.DueBoxes.{due_boxes, first_of}
use Rattle.covering_file.specs.Faults.{word_at, IsListed}
use Rattle.covering_file.specs.Header.{Heading, IsHeading}
use Rattle.covering_file.specs.Verdicts.{IsSureFile, IsRefused}
use Rattle.coverer.specs.declared.answer.Covered.{Covered}
use Rattle.coverer.specs.declared.answer.Covered.TheVariants.{Complete}
use Rattle.coverer.specs.Begun.{IsCover, begun_lines}

-- a covering that is complete is a file with a sure tree within the limit
abbrev pub CompleteIsSure : Type 0
CompleteIsSure = (limit n : ℕ) (h : Heading) (text : List ℕ) → IsHeading h → IsCover limit h (Complete n) text → IsSureFile limit text

-- and no line of it is refused
abbrev pub CompleteIsNotRefused : Type 0
CompleteIsNotRefused = (limit n : ℕ) (h : Heading) (text : List ℕ) (line : ℕ) (reason : Reason) → IsHeading h → IsCover limit h (Complete n) text
    → ¬ (IsRefused limit line reason text)

-- ---- how much freedom the causes leave

-- A listed word is clear on the box with the slack of one that may be shown, and not with that of one that is never passed over; or in version 3
-- so at its corners.
pub record HasWordBetween (h : Heading) (box : Square) : Type 0 where
  pub number : ℕ
  pub listed : IsListed h.words number
  pub between : (IsClear (word_at h.words number) box slacks.sure.gradient × ¬ (IsClear (word_at h.words number) box slacks.findable.gradient))
      ⊎ ((h.version ≡ 3) × IsCornerClear (word_at h.words number) box slacks.sure.corner
      × ¬ (IsCornerClear (word_at h.words number) box slacks.findable.corner))

-- the texts have the same nodes up to this box, where they first differ, and on which a word is between
pub record DifferAtBox (h : Heading) (text text' : List ℕ) : Type 0 where
  pub before : List Node
  pub box : Square
  pub first : Node
  pub second : Node
  pub rest : List ℕ
  pub rest' : List ℕ
  pub due : first_of (due_boxes before) ≡ Some box
  pub text_is : text ≡ text_of (begun_lines h (before ++ first ∷ [])) ++ rest
  pub text_is' : text' ≡ text_of (begun_lines h (before ++ second ∷ [])) ++ rest'
  pub differ : first ≢ second
  pub between : HasWordBetween h box

-- two coverings of a job have one end and one text, or else first differ at such a box
abbrev pub CoversDifferBetween : Type 0
CoversDifferBetween = (limit : ℕ) (h : Heading) (answer answer' : Covered) (text text' : List ℕ) → IsCover limit h answer text
    → IsCover limit h answer' text' → ((answer ≡ answer') × (text ≡ text')) ⊎ DifferAtBox h text text'
