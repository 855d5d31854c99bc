-- The picture of a path: its triangle, and the closed path through its bounce points.
use Rattle.std.specs.Prelude.{◌≡◌, ℕ, ◌+◌, ◌^◌, ◌<◌, ℤ, pos, List, [], ◌∷◌, ◌++◌, length, codes, slice_index_or}
use Rattle.std.specs.declared.option.Option.{Option}
use Rattle.std.specs.declared.result.Result.{Result}
use Rattle.std.specs.List.{concat, flat_map}
use Rattle.std.specs.Fmt.{signed_decimal}
use Rattle.rat_core.specs.Fraction.{ℚ, ◌÷◌, whole, ◌+ℚ◌, ◌-ℚ◌, ◌*ℚ◌, neg_ℚ, ◌≤ℚ◌, abs}
use Rattle.mcb_ends.specs.Bytes.{Writes}
use Rattle.trig_meaning.specs.FromSomeOn.{FromSomeOn}
use Rattle.trig_meaning.specs.Value.{first_coordinate, second_coordinate}
use Rattle.unfolding.specs.Triangle.{IsCorner, next_corner, first_corner}
use Rattle.bounce_path.specs.declared.bounce.Bounce.{Bounce}
use Rattle.svg_pictures.specs.declared.picture_point.PicturePoint.{PicturePoint}
use Rattle.svg_pictures.specs.declared.drawn.DrawnTriangle.{DrawnTriangle}
use Rattle.svg_pictures.specs.declared.frame.Frame.{Frame}
use Rattle.svg_pictures.specs.Coordinates.{IsPictureOf}
use Rattle.svg_pictures.specs.Drawn.{point_at, points_of}
use Rattle.svg_pictures.specs.Svg.{last_line}
use Rattle.svg_pictures.specs.UnfoldingPicture.{IsFrame, frame_line, polygon_line}

-- ---- what is drawn

-- the corners of the triangle (x, y) itself
abbrev pub IsFirstTriangle : ℚ → ℚ → DrawnTriangle → Type 0
IsFirstTriangle x y t = (c : ℕ) → IsCorner c → IsPictureOf (first_corner c) x y (point_at t c)

-- halfway from the low to the high place of a bounce, as a part of the edge
abbrev pub half_way : Bounce → ℚ
half_way b = pos (b.low + b.high) ÷ 2 ^ 41

-- the number that lies the part g of the way from a to b
abbrev pub part_way : ℚ → ℚ → ℚ → ℚ
part_way g a b = (whole 1 -ℚ g) *ℚ a +ℚ g *ℚ b

-- from some n on, the whole number differs from the n-th approximation by at most 2
abbrev pub IsWithinTwo : ℤ → (ℕ → ℚ) → Type 0
IsWithinTwo z v = FromSomeOn (λ n. abs (z ÷ 1 -ℚ v n) ≤ℚ whole 2)

-- The numbers printed for a bounce in the triangle (x, y): on edge d, the part half_way of the way from corner d + 1 to corner d + 2.
pub record IsPictureOfBounce (b : Bounce) (x y : ℚ) (point : PicturePoint) : Type 0 where
  pub across : let c = next_corner b.edge in IsWithinTwo point.across (λ n. whole 1000
      *ℚ part_way (half_way b) (first_coordinate n (first_corner c) x y) (first_coordinate n (first_corner (next_corner c)) x y))
  pub down : let c = next_corner b.edge in IsWithinTwo point.down (λ n. neg_ℚ (whole 1000
      *ℚ part_way (half_way b) (second_coordinate n (first_corner c) x y) (second_coordinate n (first_corner (next_corner c)) x y)))

-- a point for each bounce, in their order
pub record ArePicturesOfBounces (bs : List Bounce) (x y : ℚ) (points : List PicturePoint) : Type 0 where
  pub count : length points ≡ length bs
  pub each : (i : ℕ) (b : Bounce) (p : PicturePoint) → i < length bs → IsPictureOfBounce (slice_index_or bs i b) x y (slice_index_or points i p)

-- ---- the text

abbrev pub point_text : PicturePoint → List ℕ
point_text s = concat (signed_decimal s.across ∷ codes "," ∷ signed_decimal s.down ∷ [])

-- with a space between two
abbrev pub points_text : List PicturePoint → List ℕ
points_text [] = []
points_text (s ∷ ss) = point_text s ++ flat_map (λ t. codes " " ++ point_text t) ss

-- a closed path
abbrev pub points_line : List PicturePoint → List ℕ
points_line ss = codes "<polygon points=\"" ++ (points_text ss ++ codes "\" fill=\"none\" stroke=\"red\"/>\n")

-- what is seen, the triangle and the path
abbrev pub path_text : Frame → DrawnTriangle → List PicturePoint → List ℕ
path_text frame t ss = frame_line frame ++ (polygon_line t ++ (points_line ss ++ last_line))

-- the text is a picture of these bounces in the triangle (x, y)
pub record IsPathPicture (bs : List Bounce) (x y : ℚ) (text : List ℕ) : Type 0 where
  pub triangle : DrawnTriangle
  pub points : List PicturePoint
  pub frame : Frame
  pub drawn : IsFirstTriangle x y triangle
  pub bounces : ArePicturesOfBounces bs x y points
  pub seen : IsFrame (points_of (triangle ∷ [])) frame
  pub text_is : text ≡ path_text frame triangle points

-- the whole of such a text was written, or a prefix of one
pub record WritesPath {T E : Type 0} (bs : List Bounce) (x y : ℚ) (old new : Option (List ℕ)) (result : Result T E) : Type 0 where
  pub text : List ℕ
  pub picture : IsPathPicture bs x y text
  pub written : Writes old new result text
