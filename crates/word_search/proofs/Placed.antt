-- The places of a word's corners by a table of directions.
use Rattle.std.proofs.Common.{◌≡◌, sym, ap, ap₂, subst, ◌∙◌, ℕ, zero, suc, ◌+◌, ◌*◌, ◌-◌, ◌^◌, ◌<◌, ◌≤◌, Bool, List, [], ◌∷◌, ◌++◌, map, length, take}
use Rattle.std.proofs.Common.{ℤ, pos, ◌+ℤ◌, ◌-ℤ◌, ◌*ℤ◌, unsigned_abs, FitsSigned, slice_index, slice_index_or, inl, inr, arith}
use Rattle.std.specs.Int.{w128}
use Rattle.std.proofs.lemmas.Int.{ints, fits_signed_from_abs}
use Rattle.std.proofs.lemmas.Bool.{cases_lt}
use Rattle.std.proofs.lemmas.List.{get_or_append_left, get_or-append_right, get_or_default, get_or_past}
use Rattle.std.proofs.lemmas.List.Elements.{All-nil, All-cons, All-append, All-map, All-get_or}
use Rattle.ring_solver.proofs.Whole.{ℤ_ring, ℤ_image}
use Rattle.rat_core.specs.Written.{Written, value}
use Rattle.edge_words.specs.Word.{IsWord}
use Rattle.exp_sums.specs.declared.direction.Dir.{Dir}
use Rattle.exp_sums.specs.declared.terms.Term.{Term}
use Rattle.exp_sums.specs.FormalPoint.{FormalPoint, terms, term_of, term_neg, monomial, zero_point, ◌+ₚ◌, ◌-ₚ◌, negative}
use Rattle.exp_sums.specs.Limits.{terms_weight, weight}
use Rattle.exp_sums.specs.Weigh.{weigh_terms}
use Rattle.exp_sums.proofs.Kept.{none_is_zero}
use Rattle.exp_sums.proofs.Numbers.{weighing_linear}
use Rattle.exp_sums.proofs.Weights.{terms_weight-cons}
use Rattle.exp_sums.proofs.Within.{dirs-point_of}
use Rattle.directed_fixed.proofs.Rounding.{product_size}
use Rattle.unfolding.specs.Triangle.{corner_dir, next_corner, corner_of, centre_of}
use Rattle.unfolding.specs.Signed.{sign_of, signed_point}
use Rattle.unfolding.specs.Walk.{mirrored_dir, seen_of}
use Rattle.unfolding.proofs.Bounds.{centre-next, weight-centre, weight-corner}
use Rattle.unfolding.proofs.Seen.{corner_is_seen}
use Rattle.word_search.specs.declared.place.Place.{Place}
use Rattle.word_search.specs.Places.{IsUnit, IsSmallPlace, AreSmall, AreUnits, dir_at, number_of, unit_in, place_of, height_over}
use Rattle.word_search.proofs.Crossings.{IsKnown}
use Rattle.word_search.proofs.Numbered.{number_back, seen_numbered}

abbrev origin : Place
origin = record { x = pos 0; y = pos 0 }

-- ---- places add up

pub same_place : (p q : Place) → p.x ≡ q.x → p.y ≡ q.y → p ≡ q
same_place p q x y = λ i. record { x = x i; y = y i }

-- a place and a signed direction more
pub place_moved : (units : List Place) (p : FormalPoint) (b : Bool) (d : Dir) (s t : Place) → s ≡ place_of units p
    → t.x ≡ s.x +ℤ sign_of b *ℤ (unit_in units d).x → t.y ≡ s.y +ℤ sign_of b *ℤ (unit_in units d).y → t ≡ place_of units (p +ₚ monomial (sign_of b) d)
place_moved units p b d s t is x y =
    let sum = λ (f : Dir → ℤ). weighing_linear.of_sum f p (monomial (sign_of b) d) in
    let one = λ (f : Dir → ℤ). weighing_linear.of_term f (sign_of b) d in
    let f = λ (d : Dir). (unit_in units d).x in
    let g = λ (d : Dir). (unit_in units d).y in
    same_place t (place_of units (p +ₚ monomial (sign_of b) d))
    (x ∙ ap₂ ◌+ℤ◌ (ap (λ (s : Place). s.x) is) (sym (one f)) ∙ sym (sum f))
    (y ∙ ap₂ ◌+ℤ◌ (ap (λ (s : Place). s.y) is) (sym (one g)) ∙ sym (sum g))

-- the difference of two places
pub place_difference : (units : List Place) (p q : FormalPoint) → ((place_of units (p -ₚ q)).x ≡ (place_of units p).x -ℤ (place_of units q).x)
    × ((place_of units (p -ₚ q)).y ≡ (place_of units p).y -ℤ (place_of units q).y)
place_difference units p q = (weighing_linear.of_difference (λ d. (unit_in units d).x) p q, weighing_linear.of_difference (λ d. (unit_in units d).y) p q)

-- ---- places are small

-- the size of a direction's numbers at most
abbrev most : ℕ
most = 13 * 2 ^ 53

sum_size : (f : Dir → ℤ) → ((d : Dir) → unsigned_abs (f d) ≤ 1 * most) → (ts : List Term)
    → unsigned_abs (weigh_terms ℤ_ring ℤ_image f ts) ≤ terms_weight ts * most
sum_size f small [] = omega arith
sum_size f small (t ∷ ts) =
    added (t.c *ℤ f t.dir) (weigh_terms ℤ_ring ℤ_image f ts) (unsigned_abs t.c) (terms_weight ts) (terms_weight (t ∷ ts)) (terms_weight-cons t ts)
    (product_size t.c (f t.dir) (unsigned_abs t.c) most (omega arith) (small t.dir)) (sum_size f small ts)
  where
    added : (x y : ℤ) (m n k : ℕ) → k ≡ m + n → unsigned_abs x ≤ m * most → unsigned_abs y ≤ n * most → unsigned_abs (x +ℤ y) ≤ k * most
    added x y m n k e h l = omega (arith, ints, e, h, l)

unit_small : (units : List Place) → AreSmall units → (d : Dir) → IsSmallPlace 1 (unit_in units d)
unit_small units are d =
    elim (cases_lt (number_of d) (length units)) [
      | inl below ↦ All-get_or (IsSmallPlace 1) units (number_of d) origin below are.small
      | inr above ↦ subst (IsSmallPlace 1) (sym (get_or_past units (number_of d) origin above)) (record { x = omega arith; y = omega arith })
    ]

pub place_small : (units : List Place) (p : FormalPoint) (k : ℕ) → AreSmall units → weight p ≤ k → IsSmallPlace k (place_of units p)
place_small units p k are light =
    let x = sum_size (λ d. (unit_in units d).x) (λ d. (unit_small units are d).x) (terms p) in
    let y = sum_size (λ d. (unit_in units d).y) (λ d. (unit_small units are d).y) (terms p) in
    record { x = omega (arith, x, light); y = omega (arith, y, light) }

-- those of a word's triangles
pub centre_small : (units : List Place) (w : List ℕ) (k : ℕ) → AreSmall units → length w ≤ 24 → k ≤ length w → IsSmallPlace 48 (place_of units (centre_of w k))
centre_small units w k are few below = place_small units (centre_of w k) 48 are (omega (arith, weight-centre w k below, few, below))

pub corner_small : (units : List Place) (w : List ℕ) (k c : ℕ) → AreSmall units → length w ≤ 24 → k < length w
    → IsSmallPlace 48 (place_of units (corner_of w k c))
corner_small units w k c are few below = place_small units (corner_of w k c) 48 are (omega (arith, weight-corner w k c (omega (arith, below)), few, below))

-- ---- directions are known

-- the place of a direction that has a number
pub unit_at : (units : List Place) (i : ℕ) (d : Dir) (z : Place) → i < 676 → length units ≡ 676 → dir_at i ≡ d → slice_index_or units i z ≡ unit_in units d
unit_at units i d z below count is =
    get_or_default units i z origin (omega (arith, below, count)) ∙ ap (λ j. slice_index_or units j origin) (sym (number_back i below) ∙ ap number_of is)

module _ (at : Written × Written) (units : List Place) (are : AreUnits at units) (w : List ℕ) (word : IsWord w) (few : length w ≤ 24) where
  abbrev Known : Dir → Type 0
  Known d = IsUnit (value at.0) (value at.1) d (unit_in units d)

  abbrev Point : FormalPoint → Type 0
  Point p = IsKnown (value at.0) (value at.1) units p

  seen_known : (k c : ℕ) → k ≤ length w → Known (mirrored_dir (take k w) (corner_dir c))
  seen_known k c below =
      let d = mirrored_dir (take k w) (corner_dir c) in
      let number = seen_numbered w k c word few below in
      subst (λ e. IsUnit (value at.0) (value at.1) e (unit_in units d)) number.is (are.near.each (number_of d) origin number.below)

  known_signed : (k c : ℕ) → k ≤ length w → Point (signed_point (seen_of (take k w) c))
  unfolding monomial
  known_signed k c below =
      let s = seen_of (take k w) c in
      dirs-point_of Known (term_of (sign_of s.minus) s.dir ∷ [])
      (All-cons (λ (t : Term). Known t.dir) (term_of (sign_of s.minus) s.dir) [] (seen_known k c below) (All-nil (λ (t : Term). Known t.dir)))

  known_sum : (p q : FormalPoint) → Point p → Point q → Point (p +ₚ q)
  unfolding ◌+ₚ◌
  known_sum p q h k = dirs-point_of Known (terms p ++ terms q) (All-append (λ (t : Term). Known t.dir) (terms p) (terms q) h k)

  known_negative : (p : FormalPoint) → Point p → Point (negative p)
  unfolding negative
  known_negative p h = dirs-point_of Known (map term_neg (terms p)) (All-map (λ (t : Term). Known t.dir) term_neg (terms p) h)

  known_origin : Point zero_point
  known_origin = subst Point none_is_zero (dirs-point_of Known [] (All-nil (λ (t : Term). Known t.dir)))

  pub known_centre : (k : ℕ) → k ≤ length w → Point (centre_of w k)
  known_centre zero below = known_origin
  known_centre (suc k) below =
      let d = slice_index w k in
      subst Point (sym (centre-next w k (omega (arith, below))))
      (known_sum (centre_of w k +ₚ signed_point (seen_of (take k w) (next_corner d))) (signed_point (seen_of (take k w) (next_corner (next_corner d))))
      (known_sum (centre_of w k) (signed_point (seen_of (take k w) (next_corner d))) (known_centre k (omega (arith, below)))
      (known_signed k (next_corner d) (omega (arith, below))))
      (known_signed k (next_corner (next_corner d)) (omega (arith, below))))

  known_corner : (k c : ℕ) → k ≤ length w → Point (corner_of w k c)
  known_corner k c below =
      subst Point (sym (corner_is_seen (take k w) c))
      (known_sum (centre_of w k) (signed_point (seen_of (take k w) c)) (known_centre k below) (known_signed k c below))

  pub known_difference : (j k c e : ℕ) → j ≤ length w → k ≤ length w → Point (corner_of w j c -ₚ corner_of w k e)
  known_difference j k c e h l = known_sum (corner_of w j c) (negative (corner_of w k e)) (known_corner j c h) (known_negative (corner_of w k e)
      (known_corner k e l))

-- ---- a height fits the machine's numbers

pub record HeightFits (s p : Place) : Type 0 where
  pub first : FitsSigned w128 s.x
  pub second : FitsSigned w128 p.y
  pub third : FitsSigned w128 s.y
  pub fourth : FitsSigned w128 p.x
  pub one : FitsSigned w128 (s.x *ℤ p.y)
  pub other : FitsSigned w128 (s.y *ℤ p.x)
  pub difference : FitsSigned w128 (s.x *ℤ p.y -ℤ s.y *ℤ p.x)
  pub size : unsigned_abs (height_over s p) ≤ 2 ^ 126 - 1

pub heights_fit : (s p : Place) → IsSmallPlace 48 s → IsSmallPlace 48 p → HeightFits s p
heights_fit s p h k =
    let one = product_size s.x p.y (48 * most) (48 * most) h.x k.y in
    let other = product_size s.y p.x (48 * most) (48 * most) h.y k.x in
    let size = both (s.x *ℤ p.y) (s.y *ℤ p.x) one other in
    record {
      first = fits_signed_from_abs w128 s.x (omega (arith, h.x));
      second = fits_signed_from_abs w128 p.y (omega (arith, k.y));
      third = fits_signed_from_abs w128 s.y (omega (arith, h.y));
      fourth = fits_signed_from_abs w128 p.x (omega (arith, k.x));
      one = fits_signed_from_abs w128 (s.x *ℤ p.y) (omega (arith, one));
      other = fits_signed_from_abs w128 (s.y *ℤ p.x) (omega (arith, other));
      difference = fits_signed_from_abs w128 (s.x *ℤ p.y -ℤ s.y *ℤ p.x) (omega (arith, size));
      size = size;
    }
  where
    both : (a b : ℤ) → unsigned_abs a ≤ 48 * most * (48 * most) → unsigned_abs b ≤ 48 * most * (48 * most) → unsigned_abs (a -ℤ b) ≤ 2 ^ 126 - 1
    both a b h k = omega (arith, ints, h, k)

-- ---- one place more in a table

pub next_entry : (P : ℕ → Place → Type 0) (xs : List Place) (n : ℕ) (x : Place) → length xs ≡ n → ((i : ℕ) (p : Place) → i < n → P i (slice_index_or xs i p))
    → P n x → (i : ℕ) (p : Place) → i < n + 1 → P i (slice_index_or (xs ++ x ∷ []) i p)
next_entry P xs n x count before here i p h =
    elim (cases_lt i n) [
      | inl below ↦ subst (P i) (sym (get_or_append_left xs (x ∷ []) p i (omega (arith, below, count)))) (before i p below)
      | inr above ↦
          let same : i ≡ n = omega (arith, h, above) in
          let none : i - n ≡ 0 = omega (arith, h, above) in
          subst (P i) (sym (get_or-append_right xs (x ∷ []) n i p count above ∙ ap (λ j. slice_index_or (x ∷ []) j p) none)) (subst (λ j. P j x)
          (sym same) here)
    ]
