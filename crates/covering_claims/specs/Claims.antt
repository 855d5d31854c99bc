-- What is judged of the claim of a node, and of all listed words at a box. A test at a scale has two slacks: what it passes
-- holds with the narrower one, and what holds with the wider one is passed.
use Rattle.std.specs.Prelude.{◌≡◌, ℕ, ◌<◌, List, Ok, Err}
use Rattle.std.specs.declared.result.Result.{Result}
use Rattle.rat_core.specs.Fraction.{ℚ}
use Rattle.rational_polygon.specs.Square.{Square}
use Rattle.gradient_bounds.specs.Clear.{slack, IsClear}
use Rattle.gradient_bounds.specs.CornerClear.{IsCornerClear}
use Rattle.gradient_bounds.specs.Slacks.{Slacks}
use Rattle.covering_file.specs.declared.node.Node.{Node}
use Rattle.line_grammar.specs.declared.reason.Reason.{Reason}
use Rattle.covering_file.specs.Faults.{word_at, IsListed}
use Rattle.covering_file.specs.Header.{Heading}
use Rattle.covering_file.specs.Sound.{IsSoundNode, reason_of}

-- the slacks 2^-bits at the centre, and 2^-low at the corners
abbrev pub slacks_of : ℕ → ℕ → Slacks
slacks_of bits low = record { gradient = slack bits; corner = slack low }

-- A node is passed, or refused for its reason.
abbrev pub PassesNode : Heading → Slacks → Slacks → Square → Node → Result (Unit {0}) Reason → Type 0
PassesNode h narrower wider box node (Ok passed) = IsSoundNode h narrower box node
PassesNode h narrower wider box node (Err reason) = (reason ≡ reason_of box node) × ¬ (IsSoundNode h wider box node)

-- no listed word is clear on the box with this slack
abbrev pub NoneIsClear : List (List ℕ) → ℚ → Square → Type 0
NoneIsClear words e box = (i : ℕ) → IsListed words i → ¬ (IsClear (word_at words i) box e)

-- word i is clear on the box with the narrower slack, and no word before it is with the wider one
pub record IsFirstClear (words : List (List ℕ)) (narrower wider : ℚ) (box : Square) (i : ℕ) : Type 0 where
  pub listed : IsListed words i
  pub clear : IsClear (word_at words i) box narrower
  pub earlier : (j : ℕ) → IsListed words j → j < i → ¬ (IsClear (word_at words j) box wider)

-- no listed word is clear at the corners of the box with this slack
abbrev pub NoneIsCornerClear : List (List ℕ) → ℚ → Square → Type 0
NoneIsCornerClear words e box = (i : ℕ) → IsListed words i → ¬ (IsCornerClear (word_at words i) box e)

-- word i is clear at the corners with the narrower slack, and no word before it is with the wider one
pub record IsFirstCornerClear (words : List (List ℕ)) (narrower wider : ℚ) (box : Square) (i : ℕ) : Type 0 where
  pub listed : IsListed words i
  pub clear : IsCornerClear (word_at words i) box narrower
  pub earlier : (j : ℕ) → IsListed words j → j < i → ¬ (IsCornerClear (word_at words j) box wider)
