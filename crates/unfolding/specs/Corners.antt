-- What is said of the corners of a word's triangles: the mirror laws, and which end of a crossed edge is the upper one.

use Rattle.std.specs.Prelude.{◌≡◌, ℕ, ◌-◌, ◌%◌, ◌==◌, List, All, if◌then◌else◌}
use Rattle.edge_words.specs.Letters.{IsLetter, IsPlace, letter_at}
use Rattle.exp_sums.specs.FormalPoint.{FormalPoint, conj, ◌+ₚ◌, ◌-ₚ◌, ◌*ₚ◌}
use Rattle.unfolding.specs.Triangle.{IsCorner, next_corner, first_corner, mirror, corner_of, centre_of}

-- a mirror keeps the two ends of its edge
abbrev pub MirrorsKeepTheirEdges : Type 0
MirrorsKeepTheirEdges =
    (d c : ℕ) → IsLetter d → IsCorner c → (c ≡ d → ⊥) → mirror d (first_corner c) ≡ first_corner c

-- a mirror takes its images back
abbrev pub MirrorsUndoThemselves : Type 0
MirrorsUndoThemselves = (d : ℕ) → IsLetter d → (z : FormalPoint) → mirror d (mirror d z) ≡ z

-- the triangle q is the mirror image of p in p's edge from corner e to corner f, seen from e, and d is the third corner: e stands, and q's corner d is
-- the reflection of p's in the edge
pub record IsMirrored (p q : ℕ → FormalPoint) (d e f : ℕ) : Type 0 where
  pub stands : q e ≡ p e
  pub reflected : (q d -ₚ p e) *ₚ conj (p f -ₚ p e) ≡ conj (p d -ₚ p e) *ₚ (p f -ₚ p e)

-- each triangle is the mirror image of the one before it in the crossed edge, seen from either end of the edge
abbrev pub MirrorLaw : Type 0
MirrorLaw =
    (w : List ℕ) (k : ℕ) → All IsLetter w → IsPlace w k →
    let d = letter_at w k in
    let e = next_corner d in
    let f = next_corner e in
    IsMirrored (corner_of w (k - 1)) (corner_of w k) d e f × IsMirrored (corner_of w (k - 1)) (corner_of w k) d f e

-- the centre of the circle round a triangle is mirrored with it: the old centre and the new one add up to the two ends of the crossed edge
abbrev pub CentreLaw : Type 0
CentreLaw =
    (w : List ℕ) (k : ℕ) → IsPlace w k →
    let e = next_corner (letter_at w k) in
    centre_of w k ≡ corner_of w (k - 1) e +ₚ corner_of w (k - 1) (next_corner e) -ₚ centre_of w (k - 1)

-- The path leaves triangle k − 1 through its edge d, the k-th letter. Triangles of even number run counterclockwise, those of odd number clockwise;
-- so the left end of the edge is corner d + 2 of an even triangle, corner d + 1 of an odd one, counted cyclically.
-- the upper end of the k-th edge
abbrev pub upper_corner : List ℕ → ℕ → FormalPoint
upper_corner w k =
    let after = next_corner (letter_at w k) in
    corner_of w (k - 1) (if (k - 1) % 2 == 0 then next_corner after else after)

-- the lower end of the k-th edge
abbrev pub lower_corner : List ℕ → ℕ → FormalPoint
lower_corner w k =
    let after = next_corner (letter_at w k) in
    corner_of w (k - 1) (if (k - 1) % 2 == 0 then after else next_corner after)
