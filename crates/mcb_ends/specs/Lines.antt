-- What stands next in some bytes: a line, or one of the three ends of reading.
use Rattle.std.specs.Prelude.{◌≡◌, ◌≢◌, ℕ, ◌<◌, ◌≤◌, Bool, true, false, List, [], ◌∷◌, ◌++◌, length, take, All}
use Rattle.mcb_ends.specs.declared.line.Line.{Line}
use Rattle.mcb_ends.specs.declared.line.Line.TheVariants as line

-- the byte that ends a line
abbrev pub newline : ℕ
newline = 10

abbrev pub HasNoNewline : List ℕ → Type 0
HasNoNewline bytes = All (λ byte. byte ≢ newline) bytes

-- at most 80 bytes, and no newline among them
pub record IsShortLine (bytes : List ℕ) : Type 0 where
  pub one : HasNoNewline bytes
  pub short : length bytes ≤ 80

-- what a reader of lines finds
pub data Next : Type 0 where
  Text : List ℕ → Next
  TooLong : Next
  CutShort : Next
  End : Next

-- The bytes begin with a short line and its newline, which the rest follows; or with 81 bytes that have no newline; or they
-- are 1 to 80 bytes without a newline; or there are none. Behind the last three a reader takes nothing more.
abbrev pub IsNext : List ℕ → Next → List ℕ → Type 0
IsNext bytes (Text line) rest = IsShortLine line × (bytes ≡ line ++ newline ∷ rest)
IsNext bytes TooLong rest = (80 < length bytes) × HasNoNewline (take 81 bytes) × (rest ≡ [])
IsNext bytes CutShort rest = (0 < length bytes) × IsShortLine bytes × (rest ≡ [])
IsNext bytes End rest = (bytes ≡ []) × (rest ≡ [])

-- what a `Line` says
abbrev pub next_of : Line → Next
next_of (line.Text text) = Text text.now
next_of line.TooLong = TooLong
next_of line.CutShort = CutShort
next_of line.End = End

abbrev pub is_text : Next → Bool
is_text (Text line) = true
is_text TooLong = false
is_text CutShort = false
is_text End = false
