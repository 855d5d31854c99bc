-- What a covering file or a job says before its tree: a version, a region, stable words and a depth. And the lines that say it.
-- The format and its limits are this program's own.
use Rattle.std.specs.Prelude.{◌≡◌, ◌⊎◌, ℕ, zero, suc, ◌≤◌, List, [], ◌∷◌, ◌++◌, All, map, length, decimal, codes}
use Rattle.std.specs.List.{flat_map}
use Rattle.edge_words.specs.Word.{IsWord}
use Rattle.edge_words.specs.Stable.{IsStable}
use Rattle.edge_words.specs.Reading.{digits_of}
use Rattle.rational_polygon.specs.Outline.{Outline}
use Rattle.rational_polygon.specs.Region.{IsRegion, grid_of}
use Rattle.rational_polygon.specs.declared.TheConstants.{MAX_LEVEL}
use Rattle.covering_file.specs.declared.TheConstants.{MAX_WORDS}
use Rattle.covering_file.specs.declared.file_kind.FileKind.{FileKind}
use Rattle.covering_file.specs.declared.file_kind.FileKind.TheVariants.{Cover, Job}
use Rattle.line_grammar.specs.Text.{two_fields, named_line, text_of}

-- what a header says
pub record Heading : Type 0 where
  pub version : ℕ
  pub region : List Outline
  pub words : List (List ℕ)
  pub depth : ℕ

-- the versions of the format
abbrev pub IsVersion : ℕ → Type 0
IsVersion version = (version ≡ 1) ⊎ (version ≡ 2) ⊎ (version ≡ 3)

-- version 1 has one polygon, versions 2 and 3 any region
abbrev pub IsVersionFor : ℕ → ℕ → Type 0
IsVersionFor version polygons = ((version ≡ 1) × (polygons ≡ 1)) ⊎ (version ≡ 2) ⊎ (version ≡ 3)

-- a word that is stable
pub record IsStableWord (w : List ℕ) : Type 0 where
  pub word : IsWord w
  pub stable : IsStable w

-- how many words are listed
abbrev pub IsWordCount : ℕ → Type 0
IsWordCount count = (1 ≤ count) × (count ≤ MAX_WORDS)

-- the full depth: how deep boxes are at most
abbrev pub IsDepth : ℕ → Type 0
IsDepth depth = depth ≤ MAX_LEVEL

-- a heading that a file or a job may have
pub record IsHeading (h : Heading) : Type 0 where
  pub version : IsVersionFor h.version (length h.region)
  pub region : IsRegion h.region
  pub word_count : IsWordCount (length h.words)
  pub stable : All IsStableWord h.words
  pub depth : IsDepth h.depth

-- ---- the lines, without their newlines

-- what the file is, and its version
abbrev pub first_line : FileKind → ℕ → List ℕ
first_line Cover version = named_line (codes "mcbcover") version
first_line Job version = named_line (codes "mcbjob") version

-- the two numbers of a corner, in grid steps
abbrev pub corner_line : ℕ × ℕ → List ℕ
corner_line c = two_fields (decimal c.0) (decimal c.1)

-- how many corners a polygon has, and a line for each
abbrev pub polygon_lines : Outline → List (List ℕ)
polygon_lines o = named_line (codes "polygon") (length o.corners) ∷ map corner_line o.corners

-- version 1 does not say that it has one polygon
abbrev pub count_lines : ℕ → ℕ → List (List ℕ)
count_lines (suc zero) polygons = []
count_lines version polygons = named_line (codes "regions") polygons ∷ []

-- the grid, how many polygons there are, and their lines
abbrev pub region_lines : ℕ → List Outline → List (List ℕ)
region_lines version region =
    named_line (codes "grid") (grid_of region) ∷ count_lines version (length region) ++ flat_map polygon_lines region

-- how many words there are, and a line for each
abbrev pub words_lines : List (List ℕ) → List (List ℕ)
words_lines ws = named_line (codes "words") (length ws) ∷ map digits_of ws

-- the first line, the region, the words and the depth
abbrev pub header_lines : FileKind → Heading → List (List ℕ)
header_lines kind h = first_line kind h.version ∷ region_lines h.version h.region ++ words_lines h.words ++ named_line (codes "depth") h.depth ∷ []

-- the text of a header
abbrev pub header_text : FileKind → Heading → List ℕ
header_text kind h = text_of (header_lines kind h)

-- a job ends after its header
abbrev pub job_lines : Heading → List (List ℕ)
job_lines h = header_lines Job h ++ codes "end" ∷ []

abbrev pub job_text : Heading → List ℕ
job_text h = text_of (job_lines h)
