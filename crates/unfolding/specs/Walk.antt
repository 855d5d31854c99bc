-- The corners of a word's triangles as they are seen from the centres. This is for what an `Unfolding` keeps; no public clause speaks of it.

use Rattle.std.specs.Prelude.{ℕ, Bool, false, not, List, [], ◌∷◌}
use Rattle.exp_sums.specs.declared.direction.Dir.{Dir}
use Rattle.exp_sums.specs.FormalPoint.{dir_sum, dir_neg}
use Rattle.unfolding.specs.Triangle.{next_corner, corner_dir}
use Rattle.unfolding.specs.declared.signed.Signed.{Signed}

-- an odd number of mirrors reverses the orientation of the triangle
abbrev pub is_reversed : List ℕ → Bool
is_reversed [] = false
is_reversed (d ∷ w) = not (is_reversed w)

-- the product of the two ends of edge d
abbrev pub edge_dir : ℕ → Dir
edge_dir d = dir_sum (corner_dir (next_corner d)) (corner_dir (next_corner (next_corner d)))

-- what the mirrors of a word make of a direction that is seen from the centre, but for its sign
abbrev pub mirrored_dir : List ℕ → Dir → Dir
mirrored_dir [] e = e
mirrored_dir (d ∷ w) e = dir_sum (edge_dir d) (dir_neg (mirrored_dir w e))

-- a corner as it is seen from the centre, after the mirrors of a word
abbrev pub seen_of : List ℕ → ℕ → Signed
seen_of w c = record { minus = is_reversed w; dir = mirrored_dir w (corner_dir c) }
