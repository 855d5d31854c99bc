-- Lines one after another, and the fields of a line.
use Rattle.std.specs.Prelude.{◌≡◌, ◌≢◌, ℕ, List, [], ◌∷◌, ◌++◌, All, decimal}
use Rattle.std.specs.List.{flat_map}
use Rattle.mcb_ends.specs.Lines.{newline, IsNext}
use Rattle.mcb_ends.specs.Lines as next

-- a line with its newline
abbrev pub with_newline : List ℕ → List ℕ
with_newline line = line ++ newline ∷ []

-- lines one after another, each with its newline
abbrev pub text_of : List (List ℕ) → List ℕ
text_of lines = flat_map with_newline lines

-- the bytes begin with this line and its newline
abbrev pub BeginsWith : List ℕ → List ℕ → Type 0
BeginsWith bytes line = (rest : List ℕ) × IsNext bytes (next.Text line) rest

-- what stands between the fields of a line
abbrev pub space : ℕ
space = 32

abbrev pub HasNoSpace : List ℕ → Type 0
HasNoSpace bytes = All (λ byte. byte ≢ space) bytes

-- two fields with a space between
abbrev pub two_fields : List ℕ → List ℕ → List ℕ
two_fields first second = first ++ space ∷ second

-- a name and a number
abbrev pub named_line : List ℕ → ℕ → List ℕ
named_line name n = two_fields name (decimal n)

-- the line has exactly these two fields
pub record IsTwoFields (line first second : List ℕ) : Type 0 where
  pub is : line ≡ two_fields first second
  pub first_field : HasNoSpace first
  pub second_field : HasNoSpace second
