-- The picture of an unfolding: its triangles, a blue dot at the upper corner of each edge and a red one at the lower corner.
use Rattle.std.specs.Prelude.{◌≡◌, ℕ, ◌+◌, ◌-◌, ◌≤◌, ℤ, pos, ◌+ℤ◌, ◌-ℤ◌, ◌≤ℤ◌, List, [], ◌∷◌, ◌++◌, length, codes, slice_index_or}
use Rattle.std.specs.declared.option.Option.{Option}
use Rattle.std.specs.declared.result.Result.{Result}
use Rattle.std.specs.List.{All, Any, concat, flat_map}
use Rattle.std.specs.Fmt.{signed_decimal}
use Rattle.rat_core.specs.Fraction.{ℚ}
use Rattle.mcb_ends.specs.Bytes.{Writes}
use Rattle.edge_words.specs.Letters.{IsPlace}
use Rattle.exp_sums.specs.FormalPoint.{FormalPoint}
use Rattle.unfolding.specs.Triangle.{IsCorner, corner_of}
use Rattle.unfolding.specs.Corners.{upper_corner, lower_corner}
use Rattle.svg_pictures.specs.declared.picture_point.PicturePoint.{PicturePoint}
use Rattle.svg_pictures.specs.declared.drawn.DrawnTriangle.{DrawnTriangle}
use Rattle.svg_pictures.specs.declared.frame.Frame.{Frame}
use Rattle.svg_pictures.specs.Coordinates.{IsPictureOf}
use Rattle.svg_pictures.specs.Drawn.{point_at, points_of}
use Rattle.svg_pictures.specs.Svg.{first_line, last_line}

-- ---- what is drawn

-- each corner of the k-th triangle of a word, in the triangle (x, y)
abbrev pub IsPictureOfTriangle : List ℕ → ℕ → ℚ → ℚ → DrawnTriangle → Type 0
IsPictureOfTriangle w k x y t = (c : ℕ) → IsCorner c → IsPictureOf (corner_of w k c) x y (point_at t c)

-- triangles 0 to n of a word of n letters
pub record IsPictureOfWord (w : List ℕ) (x y : ℚ) (ts : List DrawnTriangle) : Type 0 where
  pub count : length ts ≡ length w + 1
  pub each : (k : ℕ) (t : DrawnTriangle) → k ≤ length w → IsPictureOfTriangle w k x y (slice_index_or ts k t)

-- the point of the picture is what triangle k − 1 has for this corner of it
abbrev pub IsPointOf : List ℕ → ℕ → FormalPoint → DrawnTriangle → PicturePoint → Type 0
IsPointOf w k corner t point = (c : ℕ) × IsCorner c × (corner_of w (k - 1) c ≡ corner) × (point ≡ point_at t c)

-- one end of each edge, as the triangle before the edge is drawn
pub record AreEnds (w : List ℕ) (end : ℕ → FormalPoint) (ts : List DrawnTriangle) (points : List PicturePoint) : Type 0 where
  pub count : length points ≡ length w
  pub each : (k : ℕ) (t : DrawnTriangle) (p : PicturePoint) → IsPlace w k
      → IsPointOf w k (end k) (slice_index_or ts (k - 1) t) (slice_index_or points (k - 1) p)

-- ---- what is seen

-- the least of the numbers that points have
pub record IsLeast (number : PicturePoint → ℤ) (points : List PicturePoint) (z : ℤ) : Type 0 where
  pub all : All (λ s. z ≤ℤ number s) points
  pub one : Any (λ s. number s ≡ z) points

-- and the greatest
pub record IsGreatest (number : PicturePoint → ℤ) (points : List PicturePoint) (z : ℤ) : Type 0 where
  pub all : All (λ s. number s ≤ℤ z) points
  pub one : Any (λ s. number s ≡ z) points

-- the least and the greatest numbers of the points, along both axes
pub record IsFrame (points : List PicturePoint) (frame : Frame) : Type 0 where
  pub left : IsLeast (λ s. s.across) points frame.left
  pub right : IsGreatest (λ s. s.across) points frame.right
  pub top : IsLeast (λ s. s.down) points frame.top
  pub bottom : IsGreatest (λ s. s.down) points frame.bottom

-- ---- the text

-- what lies in the frame, and 100 units more on each side
abbrev pub frame_line : Frame → List ℕ
frame_line f = first_line (f.left -ℤ pos 100) (f.top -ℤ pos 100) (f.right -ℤ f.left +ℤ pos 200) (f.bottom -ℤ f.top +ℤ pos 200)

abbrev pub polygon_line : DrawnTriangle → List ℕ
polygon_line t =
    concat (codes "<polygon points=\"" ∷ signed_decimal t.first.across ∷ codes "," ∷ signed_decimal t.first.down ∷ codes " "
    ∷ signed_decimal t.second.across ∷ codes "," ∷ signed_decimal t.second.down ∷ codes " " ∷ signed_decimal t.third.across ∷ codes ","
    ∷ signed_decimal t.third.down ∷ codes "\" fill=\"none\" stroke=\"black\"/>\n" ∷ [])

abbrev pub dot_line : List ℕ → PicturePoint → List ℕ
dot_line colour s =
    concat (codes "<circle cx=\"" ∷ signed_decimal s.across ∷ codes "\" cy=\"" ∷ signed_decimal s.down ∷ codes "\" r=\"40\" fill=\"" ∷ colour
    ∷ codes "\"/>\n" ∷ [])

-- what is seen, the triangles, the upper corners and the lower corners
abbrev pub unfolding_text : Frame → List DrawnTriangle → List PicturePoint → List PicturePoint → List ℕ
unfolding_text frame ts uppers lowers =
    frame_line frame ++ (flat_map polygon_line ts ++ (flat_map (dot_line (codes "blue")) uppers ++ (flat_map (dot_line (codes "red")) lowers ++ last_line)))

-- the text is a picture of the word's unfolding in the triangle (x, y)
pub record IsUnfoldingPicture (w : List ℕ) (x y : ℚ) (text : List ℕ) : Type 0 where
  pub triangles : List DrawnTriangle
  pub uppers : List PicturePoint
  pub lowers : List PicturePoint
  pub frame : Frame
  pub drawn : IsPictureOfWord w x y triangles
  pub are_uppers : AreEnds w (upper_corner w) triangles uppers
  pub are_lowers : AreEnds w (lower_corner w) triangles lowers
  pub seen : IsFrame (points_of triangles) frame
  pub text_is : text ≡ unfolding_text frame triangles uppers lowers

-- the whole of such a text was written, or a prefix of one
pub record WritesUnfolding {T E : Type 0} (w : List ℕ) (x y : ℚ) (old new : Option (List ℕ)) (result : Result T E) : Type 0 where
  pub text : List ℕ
  pub picture : IsUnfoldingPicture w x y text
  pub written : Writes old new result text
