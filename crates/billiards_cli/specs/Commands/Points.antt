-- The command `points`: the corners of a word's unfolding in a triangle, as numbers.
use Rattle.std.specs.Prelude.{◌≡◌, ◌⊎◌, ℕ, pos, ◌+◌, ◌*◌, List, [], ◌∷◌, ◌++◌, length, slice_get, codes, Some, None}
use Rattle.std.specs.Option.{option_map}
use Rattle.std.specs.declared.option.Option.{Option}
use Rattle.std.specs.List.{concat, flat_map}
use Rattle.std.specs.Fmt.{decimal, signed_decimal}
use Rattle.edge_words.specs.Reading.{Spells}
use Rattle.exp_sums.specs.FormalPoint.{FormalPoint}
use Rattle.unfolding.specs.Triangle.{IsCorner, corner_of}
use Rattle.unfolding.specs.Shift.{IsShift, HasShift}
use Rattle.plane_points.specs.Spots.{TriangleAngles, IsSpotOf, IsCrossProduct}
use Rattle.plane_points.specs.declared.spot.Spot.{Spot}
use Rattle.billiards_cli.specs.Arguments.{Angles, any_word, triangle_of}
use Rattle.billiards_cli.specs.EndLine.{end_text}
use Rattle.billiards_cli.specs.Refusals.{RefusesArgument, newline}
use Rattle.billiards_cli.specs.declared.commands.points.corner_spot.CornerSpot.{CornerSpot}
use Rattle.billiards_cli.specs.declared.request.Request.{Request}
use Rattle.billiards_cli.specs.declared.request.Request.TheVariants as request
use Rattle.billiards_cli.specs.declared.status.Status.{Status}
use Rattle.billiards_cli.specs.declared.status.Status.TheVariants.{Done, Malformed, OutOfMemory}

-- it takes a word and the three numbers of a triangle
abbrev pub points_request : List (List ℕ) → Option Request
points_request (word ∷ p ∷ q ∷ d ∷ []) = option_map (λ triangle. request.Points word triangle) (triangle_of p q d)
points_request arguments = None

-- ---- the rows

-- the angles p / d and q / d as they are written
abbrev pub angles_at : Angles → TriangleAngles
angles_at a = (record { num = pos a.p; den = a.d }, record { num = pos a.q; den = a.d })

-- a corner of a triangle of the word, with its place
pub record IsCornerSpot (w : List ℕ) (at : TriangleAngles) (row : CornerSpot) : Type 0 where
  pub corner : IsCorner row.corner
  pub spot : IsSpotOf at (corner_of w row.triangle row.corner) row.spot

-- so many corners: 1, 2 and 3 of the first triangle, of the second, and so on
pub record AreCornersUpTo (w : List ℕ) (at : TriangleAngles) (count : ℕ) (rows : List CornerSpot) : Type 0 where
  pub counted : length rows ≡ count
  pub in_order : (i : ℕ) (row : CornerSpot) → slice_get rows i ≡ Some row → row.triangle * 3 + row.corner ≡ i + 1
  pub spots : (i : ℕ) (row : CornerSpot) → slice_get rows i ≡ Some row → IsCornerSpot w at row

-- all corners of all triangles
abbrev pub AreCorners : List ℕ → TriangleAngles → List CornerSpot → Type 0
AreCorners w at rows = AreCornersUpTo w at (3 * (length w + 1)) rows

-- the place of the word's shift
abbrev pub IsShiftSpot : List ℕ → TriangleAngles → Spot → Type 0
IsShiftSpot w at s = (v : FormalPoint) × IsShift w v × IsSpotOf at v s

-- Of the numbers of the shift and of each corner, the cross product is the value of the sine form of the shift's conjugate times the corner.
abbrev pub CrossesCorners : List ℕ → TriangleAngles → List CornerSpot → Spot → Type 0
CrossesCorners w at rows s =
    (v : FormalPoint) → IsShift w v → (i : ℕ) (row : CornerSpot) → slice_get rows i ≡ Some row
    → IsCrossProduct at v (corner_of w row.triangle row.corner) s row.spot

-- the shift is told where there is one
abbrev pub IsShiftTold : List ℕ → TriangleAngles → List CornerSpot → Option Spot → Type 0
IsShiftTold w at rows (Some s) = IsShiftSpot w at s × CrossesCorners w at rows s
IsShiftTold w at rows None = ¬ (HasShift w)

-- what is told of a word's unfolding there
pub record AreRows (w : List ℕ) (at : TriangleAngles) (rows : List CornerSpot) (spot : Option Spot) : Type 0 where
  pub corners : AreCorners w at rows
  pub shift : IsShiftTold w at rows spot

-- ---- the text

-- the coordinates, as `X Y`
abbrev pub spot_line : Spot → List ℕ
spot_line s = concat (signed_decimal s.x ∷ codes " " ∷ signed_decimal s.y ∷ newline ∷ [])

-- as `K C X Y` for corner C of triangle K
abbrev pub corner_line : CornerSpot → List ℕ
corner_line row = concat (decimal row.triangle ∷ codes " " ∷ decimal row.corner ∷ codes " " ∷ []) ++ spot_line row.spot

-- as `shift X Y`, where there is a shift
abbrev pub shift_line : Option Spot → List ℕ
shift_line (Some s) = codes "shift " ++ spot_line s
shift_line None = []

-- a line for each corner, the shift, and how many corners there are
abbrev pub points_text : List CornerSpot → Option Spot → List ℕ
points_text rows shift = flat_map corner_line rows ++ (shift_line shift ++ end_text (length rows))

-- ---- the command

pub record ShowsPoints (argument : List ℕ) (triangle : Angles) (text : List ℕ) : Type 0 where
  pub word : List ℕ
  pub spells : Spells argument word
  pub rows : List CornerSpot
  pub shift : Option Spot
  pub told : AreRows word (angles_at triangle) rows shift
  pub text_is : text ≡ points_text rows shift

pub record PointsWantMemory (argument text : List ℕ) : Type 0 where
  pub word : List ℕ
  pub spells : Spells argument word
  pub text_is : text ≡ []

-- An argument is refused that spells no word; the word need not be stable. Memory is wanting only for a word.
abbrev pub IsPointsAnswer : List ℕ → Angles → Status → List ℕ → Type 0
IsPointsAnswer argument triangle Done text = ShowsPoints argument triangle text
IsPointsAnswer argument triangle Malformed text = RefusesArgument any_word argument text
IsPointsAnswer argument triangle OutOfMemory text = PointsWantMemory argument text
IsPointsAnswer argument triangle status text = ⊥

-- done for a word, unless memory is wanting; what is no word is refused
pub record IsPointsDue (argument : List ℕ) (status : Status) : Type 0 where
  pub done : (w : List ℕ) → Spells argument w → (status ≡ Done) ⊎ (status ≡ OutOfMemory)
  pub refused : ¬ ((w : List ℕ) × Spells argument w) → status ≡ Malformed
