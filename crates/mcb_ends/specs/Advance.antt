-- What only the private steps of a reader of lines cite.
use Rattle.std.specs.Prelude.{◌≡◌, ℕ, List, ◌++◌, length, Ok, Err}
use Rattle.std.specs.declared.option.Option.{Option}
use Rattle.std.specs.declared.result.Result.{Result}
use Rattle.std.specs.Io.KnownBytes.{Consumes, Keeps, IsAtEnd}
use Rattle.mcb_ends.specs.Lines.{Next, Text, TooLong, CutShort, End}
use Rattle.mcb_ends.specs.declared.line_reader.Found.{Found}
use Rattle.mcb_ends.specs.declared.line_reader.Found.TheVariants as found

-- what was found, with the line for a text
abbrev pub next_found : List ℕ → Found → Next
next_found line found.Text = Text line
next_found line found.TooLong = TooLong
next_found line found.CutShort = CutShort
next_found line found.End = End

-- n more bytes of the source stand after those that were held, and none only at its end
pub record Fills (old new : List ℕ) (left left' : Option (List ℕ)) (n : ℕ) : Type 0 where
  pub more : List ℕ
  pub count : length more ≡ n
  pub held : new ≡ old ++ more
  pub source : Consumes left left' more
  pub end : n ≡ 0 → IsAtEnd left'

-- the held bytes grow from the source, and a fault leaves both
abbrev pub FillsBehind : {E : Type 0} → List ℕ → List ℕ → Option (List ℕ) → Option (List ℕ) → Result ℕ E → Type 0
FillsBehind old new left left' (Ok n) = Fills old new left left' n
FillsBehind old new left left' (Err _) = (new ≡ old) × Keeps left left'
