-- What it is for a line to offend, and to be the first that does.
use Rattle.std.specs.Prelude.{◌≡◌, ℕ, ◌+◌, ◌<◌, List, ◌++◌, length, take}
use Rattle.mcb_ends.specs.Lines.{HasNoNewline}
use Rattle.line_grammar.specs.Text.{text_of, BeginsWith}
use Rattle.line_grammar.specs.declared.reason.Reason.{Reason}
use Rattle.line_grammar.specs.declared.reason.Reason.TheVariants.{TooLong, Ends, OtherLine, Number, CornerOutside, NotConvex}
use Rattle.line_grammar.specs.declared.reason.Reason.TheVariants.{NotAWord, UnstableWord, SplitTooDeep, NotApart, NotShown}
use Rattle.line_grammar.specs.declared.reason.Reason.TheVariants.{Uncovered, EndLine, TooMany, TooShallow}

-- the number of a reason: where a line has several, the least is named
abbrev pub number_of : Reason → ℕ
number_of TooLong = 1
number_of Ends = 2
number_of OtherLine = 3
number_of Number = 4
number_of CornerOutside = 5
number_of NotConvex = 6
number_of NotAWord = 7
number_of UnstableWord = 8
number_of SplitTooDeep = 9
number_of NotApart = 10
number_of NotShown = 11
number_of Uncovered = 12
number_of EndLine = 13
number_of TooMany = 14
number_of TooShallow = 15

-- the next 81 bytes have no newline
pub record IsTooLong (bytes : List ℕ) : Type 0 where
  pub long : 80 < length bytes
  pub unbroken : HasNoNewline (take 81 bytes)

-- the bytes end before a newline
abbrev pub EndsEarly : List ℕ → Type 0
EndsEarly bytes = HasNoNewline bytes

-- Where a line is due, bytes have a reason: they are too long, or end early, or begin with a line that has it.
abbrev pub HaveReason : (List ℕ → Reason → Type 0) → List ℕ → Reason → Type 0
HaveReason line_has bytes TooLong = IsTooLong bytes
HaveReason line_has bytes Ends = EndsEarly bytes
HaveReason line_has bytes reason = (line : List ℕ) × BeginsWith bytes line × line_has line reason

-- and lack one: they are not too long, or do not end early, or if they begin with a line, it lacks it
abbrev pub LackReason : (List ℕ → Reason → Type 0) → List ℕ → Reason → Type 0
LackReason line_lacks bytes TooLong = ¬ (IsTooLong bytes)
LackReason line_lacks bytes Ends = ¬ (EndsEarly bytes)
LackReason line_lacks bytes reason = (line : List ℕ) → BeginsWith bytes line → line_lacks line reason

-- the reason is there, and each lesser one is not
pub record IsLeast (has lacks : Reason → Type 0) (reason : Reason) : Type 0 where
  pub holds : has reason
  pub none_less : (r : Reason) → number_of r < number_of reason → lacks r

-- A grammar says which line is due after which lines: a due line, reached where none of the lines before it offends; the
-- lines before it; and the reasons that the bytes there have and lack.
pub record Grammar : Type 1 where
  pub Due : Type 0
  pub IsReached : Due → Type 0
  pub lines_before : Due → List (List ℕ)
  pub Has : Due → List ℕ → Reason → Type 0
  pub Lacks : Due → List ℕ → Reason → Type 0

-- The bytes are the lines before a due line that is reached, and then bytes whose least reason there is this one. The due
-- line has this number.
pub record IsFirstOffence (g : Grammar) (bytes : List ℕ) (line : ℕ) (reason : Reason) : Type 0 where
  pub due : g.Due
  pub rest : List ℕ
  pub reached : g.IsReached due
  pub text : bytes ≡ text_of (g.lines_before due) ++ rest
  pub number : line ≡ length (g.lines_before due) + 1
  pub least : IsLeast (g.Has due rest) (g.Lacks due rest) reason
