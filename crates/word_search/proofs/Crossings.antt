-- The cross product of two places that formal points have by numbers for directions.
use Rattle.std.proofs.Common.{◌≡◌, refl, sym, ap, ap₂, ◌∙◌, subst, ℕ, ◌^◌, List, [], ◌∷◌, ℤ, pos, ◌+ℤ◌, ◌*ℤ◌, unsigned_abs}
use Rattle.std.specs.List.{All}
use Rattle.std.proofs.lemmas.List.Elements.{All-head, All-tail, All-weaker}
use Rattle.ring_solver.specs.Expression.{var, num, ◌⊞◌, ◌⊟◌, ◌⊠◌}
use Rattle.ring_solver.specs.Ordered.{le, times}
use Rattle.ring_solver.proofs.Solver.{ring, ring₁, ring₂, ring₃, ring₄, ring₅}
use Rattle.ring_solver.proofs.Certificate.{le₄, le₅, moved, at_most_of_same, add_mono_both}
use Rattle.ring_solver.proofs.Whole.{ℤ_ring, ℤ_image}
use Rattle.rat_core.specs.Fraction.{ℚ, ◌÷◌, whole, ◌+ℚ◌, ◌-ℚ◌, ◌*ℚ◌, neg_ℚ, ◌≤ℚ◌, abs}
use Rattle.rat_core.specs.Ring.{ℚ_image}
use Rattle.rat_core.proofs.Laws.{ℚ_ring, ℚ_ordered, int-add, int-mul, int-sub, le_refl, le_trans, mul_nonneg}
use Rattle.rat_core.proofs.Order.{abs_of_nonneg, abs_add_le, abs-neg, over_nonneg, whole_nonneg}
use Rattle.rat_core.proofs.Sizes.{abs_add_three, abs_product_le}
use Rattle.exp_sums.specs.declared.direction.Dir.{Dir}
use Rattle.exp_sums.specs.declared.terms.Term.{Term}
use Rattle.exp_sums.specs.FormalPoint.{FormalPoint, terms, conj, ◌*ₚ◌}
use Rattle.exp_sums.specs.Limits.{terms_weight, weight}
use Rattle.exp_sums.specs.SineForm.{sine_form}
use Rattle.exp_sums.specs.Weigh.{weigh_terms}
use Rattle.exp_sums.proofs.Weights.{terms_weight-cons}
use Rattle.trig_meaning.specs.FromSomeOn.{FromSomeOn}
use Rattle.trig_meaning.specs.Turn.{sine_of_turn}
use Rattle.trig_meaning.specs.Value.{turn_of, value_at, first_coordinate, second_coordinate}
use Rattle.trig_meaning.proofs.Coordinates.{cross_product}
use Rattle.trig_meaning.proofs.FromSomeOnLaws.{always, onward_both}
use Rattle.trig_meaning.proofs.Gradient.{multiple_at_most}
use Rattle.trig_meaning.proofs.Values.{sine_forms_are_second_coordinates_lem}
use Rattle.word_search.specs.declared.place.Place.{Place}
use Rattle.word_search.specs.Places.{in_units, IsNearSine, IsUnit, unit_in, place_of, height_over}
use Rattle.word_search.proofs.UnitCircle.{sizes, circle}

-- the error of a direction's number
abbrev error : ℚ
error = pos 5 ÷ 2 ^ 55

-- ---- sums of numbers near sines

abbrev total : (Dir → ℚ) → List Term → ℚ
total f ts = weigh_terms ℚ_ring ℚ_image f ts

in_units-step : (c z Z : ℤ) → in_units (c *ℤ z +ℤ Z) ≡ (c ÷ 1) *ℚ in_units z +ℚ in_units Z
in_units-step c z Z =
    ap (λ q. q *ℚ (pos 1 ÷ 2 ^ 55)) (int-add (c *ℤ z) Z ∙ ap (λ q. q +ℚ Z ÷ 1) (int-mul c z))
    ∙ ring₄ ℚ_ring (λ c z Z u. (c ⊠ z ⊞ Z) ⊠ u) (λ c z Z u. c ⊠ (z ⊠ u) ⊞ Z ⊠ u) refl (c ÷ 1) (z ÷ 1) (Z ÷ 1) (pos 1 ÷ 2 ^ 55)

whole_weight : (t : Term) (ts : List Term) → whole (terms_weight (t ∷ ts)) ≡ whole (unsigned_abs t.c) +ℚ whole (terms_weight ts)
whole_weight t ts = ap whole (terms_weight-cons t ts) ∙ int-add (pos (unsigned_abs t.c)) (pos (terms_weight ts))

-- numbers near the values of directions add up to a number near the sum
abbrev IsSumNear : (ℕ → Dir → ℚ) → (Dir → ℤ) → List Term → ℕ → Type 0
IsSumNear g f ts n = abs (in_units (weigh_terms ℤ_ring ℤ_image f ts) -ℚ total (g n) ts) ≤ℚ whole (terms_weight ts) *ℚ error

sums_near : (g : ℕ → Dir → ℚ) (f : Dir → ℤ) (ts : List Term) → All (λ (t : Term). IsNearSine (f t.dir) (λ n. g n t.dir)) ts
    → FromSomeOn (IsSumNear g f ts)
sums_near g f [] h =
    always (λ n. at_most_of_same ℚ_ordered
    (ap abs (ring₁ ℚ_ring (λ u. num 0 ⊠ u ⊟ num 0) (λ u. num 0) refl (pos 1 ÷ 2 ^ 55)) ∙ abs_of_nonneg (whole 0) (le_refl (whole 0))
    ∙ ring₁ ℚ_ring (λ b. num 0) (λ b. num 0 ⊠ b) refl error))
sums_near g f (t ∷ ts) h =
    let P : Term → Type 0 = λ t. IsNearSine (f t.dir) (λ n. g n t.dir) in
    onward_both
    (λ n here rest.
    let d = in_units (f t.dir) -ℚ g n t.dir in
    let D = in_units (weigh_terms ℤ_ring ℤ_image f ts) -ℚ total (g n) ts in
    let c = t.c ÷ 1 in
    moved ℚ_ordered
    (ap abs (ring₅ ℚ_ring (λ c z g Z G. c ⊠ (z ⊟ g) ⊞ (Z ⊟ G)) (λ c z g Z G. c ⊠ z ⊞ Z ⊟ (c ⊠ g ⊞ G)) refl c (in_units (f t.dir)) (g n t.dir)
    (in_units (weigh_terms ℤ_ring ℤ_image f ts)) (total (g n) ts)
    ∙ ap (λ q. q -ℚ (c *ℚ g n t.dir +ℚ total (g n) ts)) (sym (in_units-step t.c (f t.dir) (weigh_terms ℤ_ring ℤ_image f ts)))))
    (ring₃ ℚ_ring (λ k r e. k ⊠ e ⊞ r ⊠ e) (λ k r e. (k ⊞ r) ⊠ e) refl (whole (unsigned_abs t.c)) (whole (terms_weight ts)) error
    ∙ ap (λ w. w *ℚ error) (sym (whole_weight t ts)))
    (le_trans (abs (c *ℚ d +ℚ D)) (abs (c *ℚ d) +ℚ abs D) _ (abs_add_le (c *ℚ d) D)
    (add_mono_both ℚ_ordered (abs (c *ℚ d)) (whole (unsigned_abs t.c) *ℚ error) (abs D) (whole (terms_weight ts) *ℚ error)
    (multiple_at_most t.c d error here) rest)))
    (All-head P t ts h) (sums_near g f ts (All-tail P t ts h))

-- ---- the sizes of both coordinates together

sizes_step : (c : ℤ) (f F : ℚ) → abs ((c ÷ 1) *ℚ f +ℚ F) ≤ℚ whole (unsigned_abs c) *ℚ abs f +ℚ abs F
sizes_step c f F =
    le_trans _ _ _ (abs_add_le ((c ÷ 1) *ℚ f) F)
    (add_mono_both ℚ_ordered (abs ((c ÷ 1) *ℚ f)) (whole (unsigned_abs c) *ℚ abs f) (abs F) (abs F) (multiple_at_most c f (abs f) (le_refl (abs f)))
    (le_refl (abs F)))

both_sizes : (f g : Dir → ℚ) (b : ℚ) → ((d : Dir) → abs (f d) +ℚ abs (g d) ≤ℚ b) → (ts : List Term)
    → abs (total f ts) +ℚ abs (total g ts) ≤ℚ whole (terms_weight ts) *ℚ b
both_sizes f g b h [] =
    at_most_of_same ℚ_ordered
    (ap₂ ◌+ℚ◌ (abs_of_nonneg (whole 0) (le_refl (whole 0))) (abs_of_nonneg (whole 0) (le_refl (whole 0)))
    ∙ ring₁ ℚ_ring (λ b. num 0 ⊞ num 0) (λ b. num 0 ⊠ b) refl b)
both_sizes f g b h (t ∷ ts) =
    let k = whole (unsigned_abs t.c) in
    let r = whole (terms_weight ts) in
    let F = abs (f t.dir) in
    let G = abs (g t.dir) in
    let P = abs (total f ts) in
    let Q = abs (total g ts) in
    subst (λ w. abs (total f (t ∷ ts)) +ℚ abs (total g (t ∷ ts)) ≤ℚ w *ℚ b) (sym (whole_weight t ts))
    (le_trans _ (k *ℚ (F +ℚ G) +ℚ (P +ℚ Q)) ((k +ℚ r) *ℚ b)
    (moved ℚ_ordered refl (ring₅ ℚ_ring (λ k F G P Q. k ⊠ F ⊞ P ⊞ (k ⊠ G ⊞ Q)) (λ k F G P Q. k ⊠ (F ⊞ G) ⊞ (P ⊞ Q)) refl k F G P Q)
    (add_mono_both ℚ_ordered (abs (total f (t ∷ ts))) (k *ℚ F +ℚ P) (abs (total g (t ∷ ts))) (k *ℚ G +ℚ Q)
    (sizes_step t.c (f t.dir) (total f ts)) (sizes_step t.c (g t.dir) (total g ts))))
    (le₅ ℚ_ordered (λ k X Y r b. k ⊠ X ⊞ Y) (λ k X Y r b. (k ⊞ r) ⊠ b) (λ k X Y r b. times k X b ∷ le Y (r ⊠ b) ∷ []) refl k (F +ℚ G) (P +ℚ Q) r b
    (whole_nonneg (unsigned_abs t.c), h t.dir, (both_sizes f g b h ts, tt))))

-- ---- cross products

-- a·s − b·r, where the sizes of a and b add up to at most A, and those of r and s are at most E
crossed_le : (a b r s A E : ℚ) → abs a +ℚ abs b ≤ℚ A → abs r ≤ℚ E → abs s ≤ℚ E → whole 0 ≤ℚ E → abs (a *ℚ s -ℚ b *ℚ r) ≤ℚ A *ℚ E
crossed_le a b r s A E h r_small s_small low =
    le_trans (abs (a *ℚ s -ℚ b *ℚ r)) (abs a *ℚ E +ℚ abs b *ℚ E) (A *ℚ E)
    (le_trans (abs (a *ℚ s -ℚ b *ℚ r)) (abs (a *ℚ s) +ℚ abs (neg_ℚ (b *ℚ r))) (abs a *ℚ E +ℚ abs b *ℚ E) (abs_add_le (a *ℚ s) (neg_ℚ (b *ℚ r)))
    (add_mono_both ℚ_ordered (abs (a *ℚ s)) (abs a *ℚ E) (abs (neg_ℚ (b *ℚ r))) (abs b *ℚ E) (abs_product_le a s (abs a) E (le_refl (abs a)) s_small)
    (moved ℚ_ordered (sym (abs-neg (b *ℚ r))) refl (abs_product_le b r (abs b) E (le_refl (abs b)) r_small))))
    (le₄ ℚ_ordered (λ a b A E. a ⊠ E ⊞ b ⊠ E) (λ a b A E. A ⊠ E) (λ a b A E. times E (a ⊞ b) A ∷ []) refl (abs a) (abs b) A E (low, h, tt))

-- what a cross product is off by, for each unit of both weights
abbrev pub apart : ℚ
apart = sizes *ℚ error +ℚ sizes *ℚ error +ℚ whole 2 *ℚ (error *ℚ error) +ℚ pos 1 ÷ 2 ^ 66

-- the numbers of a place, and the coordinates of a point at one n
pub record IsPlaceAt (w : ℕ) (s : Place) (a b : ℚ) : Type 0 where
  pub first : abs (in_units s.x -ℚ a) ≤ℚ whole w *ℚ error
  pub second : abs (in_units s.y -ℚ b) ≤ℚ whole w *ℚ error
  pub size : abs a +ℚ abs b ≤ℚ whole w *ℚ sizes

-- the cross product of two places in fractions
abbrev pub crossing : Place → Place → ℚ
crossing s t = in_units s.x *ℚ in_units t.y -ℚ in_units s.y *ℚ in_units t.x

error_nonneg : (w : ℕ) → whole 0 ≤ℚ whole w *ℚ error
error_nonneg w = mul_nonneg (whole w) error (whole_nonneg w) (over_nonneg 5 (2 ^ 55))

places_cross : (v w : ℕ) (s t : Place) (a b c d : ℚ) → IsPlaceAt v s a b → IsPlaceAt w t c d
    → abs (crossing s t -ℚ (a *ℚ d -ℚ b *ℚ c)) ≤ℚ whole v *ℚ (whole w *ℚ (sizes *ℚ error +ℚ sizes *ℚ error +ℚ whole 2 *ℚ (error *ℚ error)))
places_cross v w s t a b c d h k =
    let p = in_units s.x -ℚ a in
    let q = in_units s.y -ℚ b in
    let r = in_units t.x -ℚ c in
    let u = in_units t.y -ℚ d in
    let V = whole v *ℚ error in
    let W = whole w *ℚ error in
    let one = crossed_le a b r u (whole v *ℚ sizes) W h.size k.first k.second (error_nonneg w) in
    let two = crossed_le d c q p (whole w *ℚ sizes) V (moved ℚ_ordered (ring₂ ℚ_ring (λ c d. c ⊞ d) (λ c d. d ⊞ c) refl (abs c) (abs d)) refl k.size)
    h.second h.first (error_nonneg v) in
    let three = crossed_le p q r u (V +ℚ V) W (add_mono_both ℚ_ordered (abs p) V (abs q) V h.first h.second) k.first k.second (error_nonneg w) in
    moved ℚ_ordered
    (ap abs (ring ℚ_ring (in_units s.x ∷ in_units s.y ∷ in_units t.x ∷ in_units t.y ∷ a ∷ b ∷ c ∷ d ∷ [])
    (var 4 ⊠ (var 3 ⊟ var 7) ⊟ var 5 ⊠ (var 2 ⊟ var 6) ⊞ (var 7 ⊠ (var 0 ⊟ var 4) ⊟ var 6 ⊠ (var 1 ⊟ var 5))
    ⊞ ((var 0 ⊟ var 4) ⊠ (var 3 ⊟ var 7) ⊟ (var 1 ⊟ var 5) ⊠ (var 2 ⊟ var 6)))
    (var 0 ⊠ var 3 ⊟ var 1 ⊠ var 2 ⊟ (var 4 ⊠ var 7 ⊟ var 5 ⊠ var 6)) refl))
    (ring₄ ℚ_ring (λ v w e k. v ⊠ k ⊠ (w ⊠ e) ⊞ w ⊠ k ⊠ (v ⊠ e) ⊞ (v ⊠ e ⊞ v ⊠ e) ⊠ (w ⊠ e))
    (λ v w e k. v ⊠ (w ⊠ (k ⊠ e ⊞ k ⊠ e ⊞ num 2 ⊠ (e ⊠ e)))) refl (whole v) (whole w) error sizes)
    (le_trans _ _ _ (abs_add_three (a *ℚ u -ℚ b *ℚ r) (d *ℚ p -ℚ c *ℚ q) (p *ℚ u -ℚ q *ℚ r))
    (add_mono_both ℚ_ordered _ _ _ _ (add_mono_both ℚ_ordered _ _ _ _ one two) three))

-- the height in whole numbers
pub height_in_units : (s t : Place) → crossing s t ≡ in_units (height_over s t) *ℚ (pos 1 ÷ 2 ^ 55)
height_in_units s t =
    ring₅ ℚ_ring (λ a b c d u. a ⊠ u ⊠ (d ⊠ u) ⊟ b ⊠ u ⊠ (c ⊠ u)) (λ a b c d u. (a ⊠ d ⊟ b ⊠ c) ⊠ u ⊠ u) refl (s.x ÷ 1) (s.y ÷ 1) (t.x ÷ 1) (t.y ÷ 1)
    (pos 1 ÷ 2 ^ 55)
    ∙ ap (λ q. q *ℚ (pos 1 ÷ 2 ^ 55) *ℚ (pos 1 ÷ 2 ^ 55))
    (sym (int-sub (s.x *ℤ t.y) (s.y *ℤ t.x) ∙ ap₂ ◌-ℚ◌ (int-mul s.x t.y) (int-mul s.y t.x)))

-- ---- places of formal points

-- each direction of the point has its place in the table
abbrev pub IsKnown : ℚ → ℚ → List Place → FormalPoint → Type 0
IsKnown x y units p = All (λ (t : Term). IsUnit x y t.dir (unit_in units t.dir)) (terms p)

module _ (x y : ℚ) (units : List Place) where
  -- both sums are near
  abbrev IsSumsNear : FormalPoint → ℕ → Type 0
  IsSumsNear p n =
      (abs (in_units (place_of units p).x -ℚ first_coordinate n p x y) ≤ℚ whole (weight p) *ℚ error)
      × (abs (in_units (place_of units p).y -ℚ second_coordinate n p x y) ≤ℚ whole (weight p) *ℚ error)

  abbrev IsPlaceNear : FormalPoint → ℕ → Type 0
  IsPlaceNear p n = IsPlaceAt (weight p) (place_of units p) (first_coordinate n p x y) (second_coordinate n p x y)

  pub place_near : (p : FormalPoint) → IsKnown x y units p
      → FromSomeOn (IsPlaceNear p)
  place_near p h =
      let first = sums_near (λ n d. sine_of_turn n (turn_of d x y +ℚ pos 1 ÷ 2)) (λ d. (unit_in units d).x) (terms p)
      (All-weaker (λ (t : Term). IsUnit x y t.dir (unit_in units t.dir)) _ (λ t k. k.first) (terms p) h) in
      let second = sums_near (λ n d. sine_of_turn n (turn_of d x y)) (λ d. (unit_in units d).y) (terms p)
      (All-weaker (λ (t : Term). IsUnit x y t.dir (unit_in units t.dir)) _ (λ t k. k.second) (terms p) h) in
      onward_both {P = IsSumsNear p} (λ n k l. record {
        first = k.0;
        second = k.1;
        size = both_sizes (λ d. sine_of_turn n (turn_of d x y +ℚ pos 1 ÷ 2)) (λ d. sine_of_turn n (turn_of d x y)) sizes (λ d. l (turn_of d x y)) (terms p);
      })
      (onward_both (λ n k l. (k, l)) first second) circle

  -- the cross product of two points' places, and the value of the sine form
  pub height_near : (p q : FormalPoint) → IsKnown x y units p → IsKnown x y units q
      → FromSomeOn (λ n. abs (crossing (place_of units p) (place_of units q) -ℚ value_at n (sine_form (conj p *ₚ q)) x y)
      ≤ℚ whole (weight p) *ℚ (whole (weight q) *ℚ apart))
  height_near p q h k =
      onward_both {Q = λ n. IsPlaceNear p n × IsPlaceNear q n}
      (λ n late k.
      let a = first_coordinate n p x y in
      let b = second_coordinate n p x y in
      let c = first_coordinate n q x y in
      let d = second_coordinate n q x y in
      let form = second_coordinate n (conj p *ₚ q) x y in
      let s = place_of units p in
      let t = place_of units q in
      moved ℚ_ordered
      (ap abs (ring₃ ℚ_ring (λ z r f. z ⊟ r ⊞ (r ⊟ f)) (λ z r f. z ⊟ f) refl (crossing s t) (a *ℚ d -ℚ b *ℚ c) form
      ∙ ap (λ f. crossing s t -ℚ f) (sym (sine_forms_are_second_coordinates_lem n (conj p *ₚ q) x y))))
      (ring₄ ℚ_ring (λ v w e f. v ⊠ (w ⊠ e) ⊞ v ⊠ (w ⊠ f)) (λ v w e f. v ⊠ (w ⊠ (e ⊞ f))) refl (whole (weight p)) (whole (weight q))
      (sizes *ℚ error +ℚ sizes *ℚ error +ℚ whole 2 *ℚ (error *ℚ error)) (pos 1 ÷ 2 ^ 66))
      (le_trans _ _ _ (abs_add_le (crossing s t -ℚ (a *ℚ d -ℚ b *ℚ c)) (a *ℚ d -ℚ b *ℚ c -ℚ form))
      (add_mono_both ℚ_ordered _ _ _ _ (places_cross (weight p) (weight q) s t a b c d k.0 k.1) (cross_product n late x y p q))))
      (20, λ n late. late)
      (onward_both (λ n k l. (k, l)) (place_near p h) (place_near q k))
