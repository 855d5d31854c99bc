-- The first triangle, its mirrors, and the triangles of a word.
-- The triangle is inscribed in the unit circle. Its angles at corners 1, 2 and 3 are πx, πy and π(1 − x − y), and its corners are the directions
-- below, counterclockwise. Edge d is opposite corner d.
-- A path that crosses the edges of a word goes on straight where the triangle is mirrored in each edge that it crosses. The k-th triangle is the
-- first one after k mirrors.
-- Source: the usual account of unfolding, as in Richard Evan Schwartz, Obtuse Triangular Billiards I: Near the (2, 3, 6) Triangle, Experimental
-- Mathematics 15 (2006). The numbering and the unit circle are this program's own.

use Rattle.std.specs.Prelude.{ℕ, pos, negsuc, ◌+◌, ◌==◌, ◌≤◌, List, [], ◌∷◌, take, if◌then◌else◌}
use Rattle.exp_sums.specs.declared.direction.Dir.{Dir}
use Rattle.exp_sums.specs.FormalPoint.{FormalPoint, monomial, zero_point, conj, ◌+ₚ◌, ◌-ₚ◌, ◌*ₚ◌}

-- corners are 1, 2 and 3
abbrev pub IsCorner : ℕ → Type 0
IsCorner c = (1 ≤ c) × (c ≤ 3)

-- the next corner, where 1 comes after 3
abbrev pub next_corner : ℕ → ℕ
next_corner c = if c == 3 then 1 else c + 1

-- the directions of the first triangle's corners: (1, 1), (−1, −1) and (1, −1)
abbrev pub corner_dir : ℕ → Dir
corner_dir c =
    if c == 1 then record { m = pos 1; n = pos 1 } else if c == 2 then record { m = negsuc 0; n = negsuc 0 } else record { m = pos 1; n = negsuc 0 }

-- a corner of the first triangle
unfoldable pub first_corner : ℕ → FormalPoint
first_corner c = monomial (pos 1) (corner_dir c)

-- the mirror image in edge d of the first triangle. The edge is the chord of the unit circle from p to q
unfoldable pub mirror : ℕ → FormalPoint → FormalPoint
mirror d z =
    let p = first_corner (next_corner d) in
    let q = first_corner (next_corner (next_corner d)) in
    p +ₚ q -ₚ p *ₚ q *ₚ conj z

-- the image under the mirrors of a word, of which the last letter's is the innermost
abbrev pub mirrors : List ℕ → FormalPoint → FormalPoint
mirrors [] z = z
mirrors (d ∷ w) z = mirror d (mirrors w z)

-- a corner of the k-th triangle of a word
abbrev pub corner_of : List ℕ → ℕ → ℕ → FormalPoint
corner_of w k c = mirrors (take k w) (first_corner c)

-- the centre of the circle round the k-th triangle of a word: that round the first is the origin
abbrev pub centre_of : List ℕ → ℕ → FormalPoint
centre_of w k = mirrors (take k w) zero_point
