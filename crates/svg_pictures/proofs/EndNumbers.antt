-- The corner that an end of an edge is, by its number.
use Rattle.std.proofs.Common.{◌≡◌, ℕ, ◌+◌, ◌-◌, ◌<◌, ◌≤◌, List, length, get_or, slice_index, take, subst, sym, ap, refl, ◌∙◌, arith}
use Rattle.std.proofs.lemmas.List.{get_or_default, length-take-le}
use Rattle.edge_words.specs.Letters.{letter_at}
use Rattle.unfolding.specs.Triangle.{IsCorner, corner_of}
use Rattle.svg_pictures.specs.declared.side.Side.{Side}
use Rattle.svg_pictures.specs.declared.side.Side.TheVariants.{Upper, Lower}
use Rattle.svg_pictures.specs.declared.picture_point.PicturePoint.{PicturePoint}
use Rattle.svg_pictures.specs.declared.drawn.DrawnTriangle.{DrawnTriangle}
use Rattle.svg_pictures.specs.Drawn.{point_at}
use Rattle.svg_pictures.specs.Ends.{end_of, end_number}
use Rattle.svg_pictures.specs.UnfoldingPicture.{IsPointOf, AreEnds}
use Rattle.svg_pictures.proofs.Filled.{IsFilled, filled_taken}

-- the corner of that number is the end
end_is : (side : Side) (w : List ℕ) (k : ℕ) → corner_of w (k - 1) (end_number side (letter_at w k) (k - 1)) ≡ end_of side w k
end_is Upper w k = refl
end_is Lower w k = refl

-- the point of the end of the edge after triangle j
abbrev pub IsPointOfEnd : Side → List ℕ → List DrawnTriangle → ℕ → PicturePoint → Type 0
IsPointOfEnd side w ts j point = (t : DrawnTriangle) → IsPointOf w (j + 1) (end_of side w (j + 1)) (get_or ts j t) point

pub point_of_end : (side : Side) (w : List ℕ) (ts : List DrawnTriangle) (j c : ℕ) (d : DrawnTriangle) (point : PicturePoint) → j < length ts → IsCorner c
    → c ≡ end_number side (slice_index w j) j → point ≡ point_at (get_or ts j d) c → IsPointOfEnd side w ts j point
point_of_end side w ts j c d point within corner number is = λ t.
    let back : j + 1 - 1 ≡ j = omega arith in
    let at : corner_of w (j + 1 - 1) c ≡ end_of side w (j + 1) =
    ap (corner_of w (j + 1 - 1)) (subst (λ i. c ≡ end_number side (slice_index w i) i) (sym back) number) ∙ end_is side w (j + 1)
    in
    (c, corner, at, is ∙ ap (λ (u : DrawnTriangle). point_at u c) (get_or_default ts j d t within))

-- where all are filled, they are the ends
pub ends_filled : (side : Side) (w : List ℕ) (ts : List DrawnTriangle) (points : List PicturePoint) → length w ≤ length points
    → IsFilled (IsPointOfEnd side w ts) points (length w) → AreEnds w (end_of side w) ts (take (length w) points)
ends_filled side w ts points room filled = record {
  count = length-take-le (length w) points room;
  each = λ k t s place.
      let back : k - 1 + 1 ≡ k = omega (arith, place.0) in
      let below : k - 1 < length w = omega (arith, place.0, place.1) in
      subst (λ i. IsPointOf w i (end_of side w i) (get_or ts (k - 1) t) (get_or (take (length w) points) (k - 1) s)) back
      (filled_taken (IsPointOfEnd side w ts) points (length w) filled (k - 1) below s t);
}
