-- The header of a covering file or a job, and a whole job, part by part.
use Rattle.std.specs.Prelude.{◌≡◌, ℕ, zero, suc, nat_lt, List, All, length, codes}
use Rattle.rational_polygon.specs.declared.TheConstants.{MAX_GRID, MAX_LEVEL, MIN_CORNERS, MAX_CORNERS, MAX_POLYGONS}
use Rattle.rational_polygon.specs.Outline.{Outline, IsPolygon}
use Rattle.rational_polygon.specs.Region.{IsRegion}
use Rattle.line_grammar.specs.declared.reason.Reason.TheVariants.{EndLine}
use Rattle.line_grammar.specs.Form.{whole_line, numbered_line}
use Rattle.line_grammar.specs.Part.{Part, line_part, without_line, followed_by, in_turn, so_far, repeated, seen_as, whole_text}
use Rattle.covering_file.specs.declared.TheConstants.{MAX_WORDS}
use Rattle.covering_file.specs.declared.file_kind.FileKind.{FileKind}
use Rattle.covering_file.specs.declared.file_kind.FileKind.TheVariants.{Job}
use Rattle.covering_file.specs.CornerForms.{first_form, next_corner_form, word_form}
use Rattle.covering_file.specs.Header.{Heading, IsHeading, IsVersionFor, IsStableWord, IsWordCount}
use Rattle.covering_file.specs.Header.{polygon_lines, region_lines, words_lines, header_lines, job_lines}

-- a line with a name and a number
abbrev pub named_part : List ℕ → ℕ → ℕ → Part ℕ
named_part name low high = line_part (numbered_line name low high)

-- the first corners of so many
abbrev pub corners_so_far : ℕ → ℕ → Part (List (ℕ × ℕ))
corners_so_far grid count = so_far (λ corners. nat_lt (length corners) count) (λ corners. line_part (next_corner_form grid count corners))

-- so many corners, the last of which completes a polygon
abbrev pub corners_part : ℕ → ℕ → Part (List (ℕ × ℕ))
corners_part grid count = in_turn (λ corners. nat_lt (length corners) count) (λ corners. line_part (next_corner_form grid count corners))

-- a polygon on this grid
abbrev pub IsPolygonOn : ℕ → Outline → Type 0
IsPolygonOn grid outline = IsPolygon outline × (outline.grid ≡ grid)

abbrev pub polygon_part : ℕ → Part Outline
polygon_part grid = seen_as (followed_by (named_part (codes "polygon") MIN_CORNERS MAX_CORNERS) (corners_part grid)) (IsPolygonOn grid) polygon_lines

-- so many polygons on one grid
abbrev pub polygons_part : ℕ → ℕ → Part (List Outline)
polygons_part grid count = repeated count (polygon_part grid)

-- how many polygons there are: in version 1 there is one, with no line for it
abbrev pub count_part : ℕ → Part ℕ
count_part (suc zero) = without_line 1
count_part version = named_part (codes "regions") 1 MAX_POLYGONS

-- the count of the polygons, and the polygons
abbrev pub counted_polygons : ℕ → ℕ → Part (ℕ × List Outline)
counted_polygons version grid = followed_by (count_part version) (polygons_part grid)

-- a region that a file of this version may have
abbrev pub IsRegionIn : ℕ → List Outline → Type 0
IsRegionIn version region = IsVersionFor version (length region) × IsRegion region

-- the grid before them
abbrev pub region_part : ℕ → Part (List Outline)
region_part version =
    seen_as (followed_by (named_part (codes "grid") 1 MAX_GRID) (counted_polygons version)) (IsRegionIn version) (region_lines version)

-- so many stable words
abbrev pub listed_part : ℕ → Part (List (List ℕ))
listed_part count = repeated count (line_part word_form)

-- 1 to 32 stable words
abbrev pub AreListed : List (List ℕ) → Type 0
AreListed words = IsWordCount (length words) × All IsStableWord words

-- the count of the words, and the words
abbrev pub words_part : Part (List (List ℕ))
words_part = seen_as (followed_by (named_part (codes "words") 1 MAX_WORDS) listed_part) AreListed words_lines

abbrev pub depth_part : Part ℕ
depth_part = named_part (codes "depth") 0 MAX_LEVEL

-- the words and then the depth
abbrev pub after_region : List Outline → Part (List (List ℕ) × ℕ)
after_region _ = followed_by words_part (λ _. depth_part)

-- the region before them, as the version has it
abbrev pub after_first_line : ℕ → Part (List Outline × (List (List ℕ) × ℕ))
after_first_line version = followed_by (region_part version) after_region

-- the first line, the region, the words, and the depth
abbrev pub header_part : FileKind → Part Heading
header_part kind =
    seen_as (followed_by (line_part (first_form kind)) after_first_line) IsHeading (header_lines kind)

-- a header and the line `end`
abbrev pub ended_header : Part Heading
ended_header = seen_as (followed_by (header_part Job) (λ _. line_part (whole_line (codes "end") EndLine))) IsHeading job_lines

-- and nothing more
abbrev pub job_part : Part Heading
job_part = whole_text ended_header
