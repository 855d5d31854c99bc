-- The corners of an unfolding, listed.
use Rattle.std.proofs.Common.{◌≡◌, ◌⊎◌, inl, inr, ℕ, ◌+◌, ◌*◌, ◌<◌, List, [], ◌∷◌, ◌++◌, length, get_or, slice_get}
use Rattle.std.proofs.Common.{Option, Some, None, IfSome, IfNone}
use Rattle.std.proofs.Common.{refl, sym, ap, subst, ◌∙◌, length-append, arith}
use Rattle.std.proofs.Math.ListN.{get_or-append}
use Rattle.std.proofs.Math.Seq.{get_or-append_seam}
use Rattle.std.proofs.lemmas.Bool.{cases_lt}
use Rattle.std.proofs.lemmas.Option.{slice_get_within, slice_get_past, get_or_from_slice_get, slice_get-get_or}
use Rattle.exp_sums.specs.FormalPoint.{FormalPoint}
use Rattle.unfolding.specs.Shift.{HasShift}
use Rattle.unfolding.specs.Triangle.{corner_of}
use Rattle.unfolding.proofs.Shifts.{same_shift}
use Rattle.plane_points.specs.Spots.{TriangleAngles, IsSpotOf}
use Rattle.plane_points.specs.declared.spot.Spot.{Spot}
use Rattle.plane_points.proofs.Crossing.{spots_cross_lem}
use Rattle.billiards_cli.specs.Commands.Points.{AreCorners, AreCornersUpTo, AreRows, CrossesCorners, IsCornerSpot, IsShiftSpot}
use Rattle.billiards_cli.specs.declared.commands.points.corner_spot.CornerSpot.{CornerSpot}

-- an element of a list with one more at its end is one of the list's, or that one
pushed : {A : Type 0} (xs : List A) (y x : A) (i : ℕ) → slice_get (xs ++ y ∷ []) i ≡ Some x
    → (slice_get xs i ≡ Some x) ⊎ ((i ≡ length xs) × (x ≡ y))
pushed {A} xs y x i is =
    let within : i < length xs + 1 = omega (arith, slice_get_within (xs ++ y ∷ []) i x is, length-append xs (y ∷ [])) in
    let here : get_or (xs ++ y ∷ []) i x ≡ x = get_or_from_slice_get (xs ++ y ∷ []) i x x is in
    elim (cases_lt i (length xs)) [
      | inl earlier ↦
          inl (slice_get-get_or xs i x earlier ∙ ap (λ (z : A). Some z) (sym (get_or-append xs (y ∷ []) x i earlier) ∙ here))
      | inr last ↦
          let at_end : i ≡ length xs = omega (arith, last, within) in
          inr (at_end, sym here ∙ ap (λ (j : ℕ). get_or (xs ++ y ∷ []) j x) at_end ∙ get_or-append_seam xs y [] x)
    ]

pub no_corners : (w : List ℕ) (at : TriangleAngles) → AreCornersUpTo w at 0 []
no_corners w at = record {
  counted = refl;
  in_order = λ i row is. let none : slice_get {X = CornerSpot} [] i ≡ None = slice_get_past [] i (omega arith) in absurd cc;
  spots = λ i row is. let none : slice_get {X = CornerSpot} [] i ≡ None = slice_get_past [] i (omega arith) in absurd cc;
}

-- one corner more
pub corners_more : (w : List ℕ) (at : TriangleAngles) (count : ℕ) (rows : List CornerSpot) (row : CornerSpot) → AreCornersUpTo w at count rows
    → row.triangle * 3 + row.corner ≡ count + 1 → IsCornerSpot w at row → AreCornersUpTo w at (count + 1) (rows ++ row ∷ [])
corners_more w at count rows row before place spot = record {
  counted = omega (arith, before.counted, length-append rows (row ∷ []));
  in_order = λ i other is. elim (pushed rows row other i is) [
    | inl earlier ↦ before.in_order i other earlier
    | inr last ↦
        let next : count + 1 ≡ i + 1 = omega (arith, last.0, before.counted) in
        subst (λ (r : CornerSpot). r.triangle * 3 + r.corner ≡ i + 1) (sym last.1) (place ∙ next)
  ];
  spots = λ i other is. elim (pushed rows row other i is) [
    | inl earlier ↦ before.spots i other earlier
    | inr last ↦ subst (λ (r : CornerSpot). IsCornerSpot w at r) (sym last.1) spot
  ];
}

-- the place of the one shift, and that of each corner
shift_crosses : (w : List ℕ) (at : TriangleAngles) (rows : List CornerSpot) (s : Spot) → AreCorners w at rows → IsShiftSpot w at s
    → CrossesCorners w at rows s
shift_crosses w at rows s corners shift = λ v is i row here.
    spots_cross_lem at v (corner_of w row.triangle row.corner) s row.spot
    (subst (λ (u : FormalPoint). IsSpotOf at u s) (same_shift w shift.0 v shift.1 is) shift.2) (corners.spots i row here).spot

pub rows_told : (w : List ℕ) (at : TriangleAngles) (rows : List CornerSpot) (shift : Option Spot) → AreCorners w at rows
    → IfSome shift (λ s. IsShiftSpot w at s) → IfNone shift (¬ (HasShift w)) → AreRows w at rows shift
rows_told w at rows (Some s) corners some none =
    record { corners = corners; shift = (some, shift_crosses w at rows s corners some) }
rows_told w at rows None corners some none = record { corners = corners; shift = none }
