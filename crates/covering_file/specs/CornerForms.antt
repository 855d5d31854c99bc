-- The first line of a file, and the lines of corners and of words, by their forms.
use Rattle.std.specs.Prelude.{◌≡◌, ℕ, ◌+◌, ◌≤◌, List, [], ◌∷◌, ◌++◌, length}
use Rattle.edge_words.specs.Reading.{Spells, digits_of}
use Rattle.edge_words.specs.Stable.{IsStable}
use Rattle.rational_polygon.specs.declared.TheConstants.{MAX_GRID}
use Rattle.rational_polygon.specs.Outline.{IsInside, IsStrictlyConvex}
use Rattle.line_grammar.specs.declared.reason.Reason.{Reason}
use Rattle.line_grammar.specs.declared.reason.Reason.TheVariants.{OtherLine, Number, CornerOutside, NotConvex, NotAWord, UnstableWord}
use Rattle.line_grammar.specs.Form.{LineForm}
use Rattle.line_grammar.specs.Text.{IsTwoFields}
use Rattle.covering_file.specs.declared.file_kind.FileKind.{FileKind}
use Rattle.covering_file.specs.Header.{IsVersion, IsStableWord, first_line, corner_line}

-- why a line is not the first of such a file, in any version
abbrev pub RefusesFirst : FileKind → List ℕ → Reason → Type 0
RefusesFirst kind line OtherLine = ¬ ((version : ℕ) × IsVersion version × (line ≡ first_line kind version))
RefusesFirst kind line reason = ⊥

abbrev pub first_form : FileKind → LineForm ℕ
first_form kind = record { line_of = first_line kind; Says = IsVersion; Refuses = RefusesFirst kind }

-- two numbers, up to the greatest grid: those of the corner
pub record IsCornerLine (line : List ℕ) (c : ℕ × ℕ) : Type 0 where
  pub x : c.0 ≤ MAX_GRID
  pub y : c.1 ≤ MAX_GRID
  pub is : line ≡ corner_line c

-- why a line is not a corner inside the triangle of a grid
abbrev pub RefusesCorner : ℕ → List ℕ → Reason → Type 0
RefusesCorner grid line OtherLine = ¬ ((first second : List ℕ) × IsTwoFields line first second)
RefusesCorner grid line Number = ((first second : List ℕ) × IsTwoFields line first second) × ¬ ((c : ℕ × ℕ) × IsCornerLine line c)
RefusesCorner grid line CornerOutside = (c : ℕ × ℕ) × IsCornerLine line c × ¬ (IsInside grid c)
RefusesCorner grid line reason = ⊥

abbrev pub corner_form : ℕ → LineForm (ℕ × ℕ)
corner_form grid = record {
  line_of = corner_line;
  Says = λ c. IsCornerLine (corner_line c) c × IsInside grid c;
  Refuses = RefusesCorner grid;
}

-- after these corners this one is the last of so many, and completes no polygon
pub record CompletesNone (grid count : ℕ) (corners : List (ℕ × ℕ)) (c : ℕ × ℕ) : Type 0 where
  pub last : length corners + 1 ≡ count
  pub not_convex : ¬ (IsStrictlyConvex (record { grid = grid; corners = corners ++ c ∷ [] }))

-- a corner of a polygon with so many, after these: the last one completes it
abbrev pub RefusesNextCorner : ℕ → ℕ → List (ℕ × ℕ) → List ℕ → Reason → Type 0
RefusesNextCorner grid count corners line NotConvex =
    (c : ℕ × ℕ) × IsCornerLine line c × IsInside grid c × CompletesNone grid count corners c
RefusesNextCorner grid count corners line reason = RefusesCorner grid line reason

abbrev pub next_corner_form : ℕ → ℕ → List (ℕ × ℕ) → LineForm (ℕ × ℕ)
next_corner_form grid count corners = record {
  line_of = corner_line;
  Says = λ c. IsCornerLine (corner_line c) c × IsInside grid c × ¬ (CompletesNone grid count corners c);
  Refuses = RefusesNextCorner grid count corners;
}

-- the line spells a word
abbrev pub SpellsWord : List ℕ → Type 0
SpellsWord line = (w : List ℕ) × Spells line w

-- why a line is not a stable word
abbrev pub RefusesWord : List ℕ → Reason → Type 0
RefusesWord line NotAWord = ¬ (SpellsWord line)
RefusesWord line UnstableWord = (w : List ℕ) × Spells line w × ¬ (IsStable w)
RefusesWord line reason = ⊥

abbrev pub word_form : LineForm (List ℕ)
word_form = record { line_of = digits_of; Says = IsStableWord; Refuses = RefusesWord }
