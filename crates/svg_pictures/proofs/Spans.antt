-- Spans of one place more, and the span of a region.
use Rattle.std.proofs.Common.{◌≡◌, refl, ap, ◌∙◌, ℕ, ◌+◌, ◌-◌, ◌^◌, ◌<◌, ◌≤◌, min, max, List, [], ◌∷◌, ◌++◌, length, map, take, get_or, arith}
use Rattle.std.proofs.Math.Nat.{div-le_of_le-mul}
use Rattle.std.proofs.lemmas.List.{append-nil, map-append, take_more}
use Rattle.std.proofs.lemmas.List.Elements.{All-head}
use Rattle.std.proofs.lemmas.List.Sums.{fold-append}
use Rattle.std.proofs.lemmas.Grind.{flat_map-append}
use Rattle.std.specs.List.{All, fold}
use Rattle.rational_polygon.specs.Outline.{Outline, IsInside, IsPolygon}
use Rattle.rational_polygon.specs.Region.{IsRegion}
use Rattle.svg_pictures.specs.declared.place.Place.{Place}
use Rattle.svg_pictures.specs.declared.span.Span.{Span}
use Rattle.svg_pictures.specs.Places.{units_of, place_of, places_in, places_of}
use Rattle.svg_pictures.specs.Spans.{span_of}
use Rattle.svg_pictures.specs.Widened.{widened}

-- what is at most the grid is at most 1
pub units_within : (grid steps : ℕ) → steps ≤ grid → units_of grid steps ≤ 2 ^ 20
units_within grid steps within = div-le_of_le-mul grid (omega (arith, within))

-- with the place of one more corner
pub widened_next : {A : Type 0} (f : A → Place) (s : Span) (xs : List A) (k : ℕ) (d : A) → k < length xs
    → fold widened s (map f (take (k + 1) xs)) ≡ widened (fold widened s (map f (take k xs))) (f (get_or xs k d))
widened_next {A} f s xs k d within =
    ap (λ (ys : List A). fold widened s (map f ys)) (take_more xs k d within)
    ∙ ap (λ (ps : List Place). fold widened s ps) (map-append f (take k xs) (get_or xs k d ∷ []))
    ∙ fold-append widened s (map f (take k xs)) (f (get_or xs k d) ∷ [])

-- with those of one more polygon
pub widened_more : (s : Span) (region : List Outline) (k : ℕ) (d : Outline) → k < length region
    → fold widened s (places_of (take (k + 1) region)) ≡ fold widened (fold widened s (places_of (take k region))) (places_in (get_or region k d))
widened_more s region k d within =
    let o = get_or region k d in
    ap (λ (os : List Outline). fold widened s (places_of os)) (take_more region k d within)
    ∙ ap (λ (ps : List Place). fold widened s ps) (flat_map-append places_in (take k region) (o ∷ []))
    ∙ ap (λ (ps : List Place). fold widened s (places_of (take k region) ++ ps)) (append-nil (places_in o))
    ∙ fold-append widened s (places_of (take k region)) (places_in o)

-- ---- the span of a region

abbrev pub nowhere : Span
nowhere = record { left = 2 ^ 20; right = 0; top = 2 ^ 20; bottom = 0 }

-- each number by itself
widened_parts : (s : Span) (ps : List Place) → fold widened s ps ≡ record {
  left = fold min s.left (map (λ p. p.across) ps);
  right = fold max s.right (map (λ p. p.across) ps);
  top = fold min s.top (map (λ p. p.down) ps);
  bottom = fold max s.bottom (map (λ p. p.down) ps);
}
widened_parts s [] = refl
widened_parts s (p ∷ ps) = widened_parts (widened s p) ps

span_first : (p : Place) (ps : List Place) → p.across ≤ 2 ^ 20 → p.down ≤ 2 ^ 20 → fold widened nowhere (p ∷ ps) ≡ span_of (p ∷ ps)
span_first p ps across down =
    let least_across : min (2 ^ 20) p.across ≡ p.across = omega (arith, across) in
    let least_down : min (2 ^ 20) p.down ≡ p.down = omega (arith, down) in
    widened_parts nowhere (p ∷ ps)
    ∙ ap (λ (n : ℕ). let s : Span = record {
      left = fold min n (map (λ q. q.across) ps);
      right = fold max (max 0 p.across) (map (λ q. q.across) ps);
      top = fold min (min (2 ^ 20) p.down) (map (λ q. q.down) ps);
      bottom = fold max (max 0 p.down) (map (λ q. q.down) ps);
    } in s) least_across
    ∙ ap (λ (n : ℕ). let s : Span = record {
      left = fold min p.across (map (λ q. q.across) ps);
      right = fold max (max 0 p.across) (map (λ q. q.across) ps);
      top = fold min n (map (λ q. q.down) ps);
      bottom = fold max (max 0 p.down) (map (λ q. q.down) ps);
    } in s) least_down

span_corners : (grid : ℕ) (cs : List (ℕ × ℕ)) (more : List Place) → 1 ≤ length cs → All (IsInside grid) cs
    → fold widened nowhere (map (place_of grid) cs ++ more) ≡ span_of (map (place_of grid) cs ++ more)
span_corners grid [] more some inside = absurd (omega (arith, some))
span_corners grid (c ∷ cs) more some inside =
    let first = All-head (IsInside grid) c cs inside in
    let across = units_within grid c.0 (omega (arith, first.sum)) in
    let down : 2 ^ 20 - units_of grid c.1 ≤ 2 ^ 20 = omega arith in
    span_first (place_of grid c) (map (place_of grid) cs ++ more) across down

pub span_is : (region : List Outline) → IsRegion region → fold widened nowhere (places_of region) ≡ span_of (places_of region)
span_is [] is = absurd (omega (arith, is.count.0))
span_is (o ∷ os) is =
    let polygon = All-head IsPolygon o os is.polygons in
    span_corners o.grid o.corners (places_of os) (omega (arith, polygon.count.0)) polygon.inside
