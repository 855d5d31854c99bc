-- What an `Unfolding` keeps: its triangles.

use Rattle.std.specs.Prelude.{◌≡◌, ℕ, ◌+◌, ◌≤◌, List, [], ◌∷◌, length, take, All, slice_index_or}
use Rattle.edge_words.specs.Word.{IsWord}
use Rattle.exp_sums.specs.declared.direction.Dir.{Dir}
use Rattle.exp_sums.specs.FormalPoint.{zero_point}
use Rattle.exp_sums.specs.Limits.{weight, IsNear, IsWithin}
use Rattle.unfolding.specs.Triangle.{corner_dir, first_corner, mirrors}
use Rattle.unfolding.specs.Walk.{is_reversed, mirrored_dir}
use Rattle.unfolding.specs.declared.triangle.Triangle.{Triangle}

-- the directions of the corners, but for their sign, after the mirrors of a word
abbrev pub dirs_of : List ℕ → List Dir
dirs_of w = mirrored_dir w (corner_dir 1) ∷ mirrored_dir w (corner_dir 2) ∷ mirrored_dir w (corner_dir 3) ∷ []

-- the triangle after the mirrors of a word
abbrev pub triangle_of : List ℕ → Triangle
triangle_of w = record {
  centre = mirrors w zero_point;
  minus = is_reversed w;
  dirs = dirs_of w;
  corners = mirrors w (first_corner 1) ∷ mirrors w (first_corner 2) ∷ mirrors w (first_corner 3) ∷ [];
}

-- a triangle of a word is so small that its mirror images are within the limits of sums
pub record IsSmall (t : Triangle) : Type 0 where
  pub light : weight t.centre ≤ 128
  pub within : IsWithin 65 t.centre
  pub near : All (IsNear 65) t.dirs

-- triangles 0 to k of a word
pub record AreTrianglesOf (w : List ℕ) (k : ℕ) (ts : List Triangle) : Type 0 where
  pub count : length ts ≡ k + 1
  pub each : (j : ℕ) (t : Triangle) → j ≤ k → slice_index_or ts j t ≡ triangle_of (take j w)

-- what an `Unfolding` keeps: the triangles of its word, from the first to the last
pub record IsUnfolding (w : List ℕ) (ts : List Triangle) : Type 0 where
  pub word : IsWord w
  pub triangles : AreTrianglesOf w (length w) ts
