-- What an accepted covering file is, and what it says of its region.
use Rattle.std.specs.Prelude.{◌≡◌, ℕ, ◌≤◌, List, length}
use Rattle.rational_polygon.specs.Point.{Point, IsTriangle}
use Rattle.rational_polygon.specs.Region.{IsInRegion}
use Rattle.gradient_bounds.specs.Corridor.{HasCorridor}
use Rattle.covering_file.specs.Header.{Heading, IsHeading}
use Rattle.covering_file.specs.Faults.{word_at, IsListed}
use Rattle.covering_file.specs.Tree.{Tree, preorder, uncovered_in, file_text}

-- every point of the region that is a triangle has a listed word with a corridor there
abbrev pub IsCovered : Heading → Type 0
IsCovered h = (p : Point) → IsInRegion h.region p → IsTriangle p → (i : ℕ) × IsListed h.words i × HasCorridor (word_at h.words i) p.x p.y

-- The bytes are the text of one whole covering file, whose tree has at most `limit` nodes and leaves no box uncovered, and its region is covered.
pub record IsCovering (limit : ℕ) (bytes : List ℕ) : Type 0 where
  pub heading : Heading
  pub tree : Tree
  pub is_heading : IsHeading heading
  pub text : bytes ≡ file_text heading tree
  pub within : length (preorder tree) ≤ limit
  pub complete : uncovered_in tree ≡ 0
  pub covered : IsCovered heading
