-- The coordinates of a formal point: they add up, the conjugate mirrors them, and the cross product of two points is the second
-- coordinate of the conjugate of one times the other.
use Rattle.std.proofs.Common.{◌≡◌, refl, sym, ap, ap₂, ◌∙◌, subst, ℕ, List, [], ◌∷◌, ◌^◌, ◌≤◌, pos}
use Rattle.std.specs.Prelude.{unsigned_abs}
use Rattle.ring_solver.specs.Expression.{var, num, ◌⊞◌, ◌⊟◌, ◌⊠◌, opp}
use Rattle.ring_solver.specs.Ordered.{le}
use Rattle.ring_solver.proofs.Solver.{ring, ring₁, ring₂, ring₆, ring_by}
use Rattle.ring_solver.proofs.Certificate.{le₅, moved, at_most_of_same}
use Rattle.rat_core.specs.Fraction.{ℚ, ◌÷◌, whole, ◌+ℚ◌, ◌-ℚ◌, ◌*ℚ◌, neg_ℚ, ◌≤ℚ◌, abs}
use Rattle.rat_core.specs.Ring.{ℚ_ring, ℚ_image}
use Rattle.rat_core.proofs.Laws.{ℚ_ordered, int-add, le_refl, le_trans}
use Rattle.rat_core.proofs.Order.{abs_of_nonneg, abs_add_le}
use Rattle.exp_sums.specs.declared.direction.Dir.{Dir}
use Rattle.exp_sums.specs.declared.terms.Term.{Term}
use Rattle.exp_sums.specs.FormalPoint.{FormalPoint, terms, dir_sum, dir_neg, ◌*ₚ◌, conj}
use Rattle.exp_sums.specs.Limits.{terms_weight, weight}
use Rattle.exp_sums.specs.Weigh.{weigh_terms, weigh}
use Rattle.exp_sums.proofs.Weights.{terms_weight-cons}
use Rattle.exp_sums.proofs.Weigh.{weigh-monomial, weigh-+ₚ, weigh-*ₚ, weigh-conj, weigh_scaled, weigh_same}
use Rattle.trig_meaning.specs.Turn.{sine_of_turn}
use Rattle.trig_meaning.specs.Value.{turn_of, first_coordinate, second_coordinate}
use Rattle.trig_meaning.specs.Laws.{FirstCoordinatesAddUp, ConjugatesAreMirrored, CrossProducts}
use Rattle.trig_meaning.proofs.Gradient.{multiple_at_most}
use Rattle.trig_meaning.proofs.Pieces.{sine_is_odd_lem, half_turn_negates_lem}
use Rattle.trig_meaning.proofs.Quarters.{half_twice}
use Rattle.trig_meaning.proofs.Values.{turn_of-neg, sine_at-neg}
use Rattle.trig_meaning.proofs.Addition.{adds}

pub first_coordinates_add_up_lem : FirstCoordinatesAddUp
first_coordinates_add_up_lem =
    record {
      of_term = λ n c d x y. weigh-monomial ℚ_ring ℚ_image (λ d. sine_of_turn n (turn_of d x y +ℚ pos 1 ÷ 2)) c d;
      of_sum = λ n p q x y. weigh-+ₚ ℚ_ring ℚ_image (λ d. sine_of_turn n (turn_of d x y +ℚ pos 1 ÷ 2)) p q;
    }

-- ---- mirrored

-- the cosine is even, for every approximation
pub cosine_is_even : (n : ℕ) (t : ℚ) → sine_of_turn n (neg_ℚ t +ℚ pos 1 ÷ 2) ≡ sine_of_turn n (t +ℚ pos 1 ÷ 2)
cosine_is_even n t =
    let q = pos 1 ÷ 2 in
    ap (sine_of_turn n) (ring₂ ℚ_ring (λ t q. opp t ⊞ q) (λ t q. opp (t ⊟ q)) refl t q)
    ∙ sine_is_odd_lem n (t -ℚ q) ∙ sym (half_turn_negates_lem n (t -ℚ q))
    ∙ ap (sine_of_turn n) (ring_by ℚ_ring (t ∷ q ∷ []) (var 0 ⊟ var 1 ⊞ num 1) (var 0 ⊞ var 1) (num 1) (num 1) (var 1 ⊠ num 2) refl (sym half_twice))

pub conjugates_are_mirrored_lem : ConjugatesAreMirrored
conjugates_are_mirrored_lem =
    record {
      first = λ n p x y.
          let f : Dir → ℚ = λ d. sine_of_turn n (turn_of d x y +ℚ pos 1 ÷ 2) in
          weigh-conj ℚ_ring ℚ_image f p
          ∙ weigh_same ℚ_ring ℚ_image (λ d. f (dir_neg d)) f
          (λ d. ap (λ t. sine_of_turn n (t +ℚ pos 1 ÷ 2)) (turn_of-neg d x y) ∙ cosine_is_even n (turn_of d x y)) p;
      second = λ n p x y.
          let f : Dir → ℚ = λ d. sine_of_turn n (turn_of d x y) in
          let one = neg_ℚ (whole 1) in
          weigh-conj ℚ_ring ℚ_image f p
          ∙ weigh_same ℚ_ring ℚ_image (λ d. f (dir_neg d)) (λ d. one *ℚ f d)
          (λ d. sine_at-neg n x y d ∙ ring₁ ℚ_ring (λ s. opp s) (λ s. opp (num 1) ⊠ s) refl (f d)) p
          ∙ weigh_scaled ℚ_ring ℚ_image f one p
          ∙ ring₁ ℚ_ring (λ s. opp (num 1) ⊠ s) (λ s. opp s) refl (weigh ℚ_ring ℚ_image f p);
    }

-- ---- the cross product

-- the sum of c·f(direction) over a list of terms
abbrev total : (Dir → ℚ) → List Term → ℚ
total f ts = weigh_terms ℚ_ring ℚ_image f ts

-- where f is at most b in size, such a sum is at most b for each unit of weight
pub total_size : (f : Dir → ℚ) (b : ℚ) → ((d : Dir) → abs (f d) ≤ℚ b) → (ts : List Term) → abs (total f ts) ≤ℚ whole (terms_weight ts) *ℚ b
total_size f b h [] =
    at_most_of_same ℚ_ordered (abs_of_nonneg (whole 0) (le_refl (whole 0)) ∙ ring₁ ℚ_ring (λ b. num 0) (λ b. num 0 ⊠ b) refl b)
total_size f b h (t ∷ ts) =
    let here = (t.c ÷ 1) *ℚ f t.dir in
    let k = whole (unsigned_abs t.c) in
    let rest = whole (terms_weight ts) in
    let weights : whole (terms_weight (t ∷ ts)) ≡ k +ℚ rest = ap whole (terms_weight-cons t ts) ∙ int-add (pos (unsigned_abs t.c)) (pos (terms_weight ts)) in
    subst (λ w. abs (here +ℚ total f ts) ≤ℚ w *ℚ b) (sym weights)
    (le_trans (abs (here +ℚ total f ts)) (abs here +ℚ abs (total f ts)) ((k +ℚ rest) *ℚ b) (abs_add_le here (total f ts))
    (le₅ ℚ_ordered (λ u v k r b. u ⊞ v) (λ u v k r b. (k ⊞ r) ⊠ b) (λ u v k r b. le u (k ⊠ b) ∷ le v (r ⊠ b) ∷ []) refl
    (abs here) (abs (total f ts)) k rest b (multiple_at_most t.c (f t.dir) b (h t.dir), (total_size f b h ts, tt))))

-- three sums over the same terms under one sign
total-joined : (f g h : Dir → ℚ) (a b : ℚ) (ts : List Term) → a *ℚ total f ts -ℚ b *ℚ total g ts -ℚ total h ts ≡ total (λ d. a *ℚ f d -ℚ b *ℚ g d -ℚ h d) ts
total-joined f g h a b [] = ring₂ ℚ_ring (λ a b. a ⊠ num 0 ⊟ b ⊠ num 0 ⊟ num 0) (λ a b. num 0) refl a b
total-joined f g h a b (t ∷ ts) =
    let c = t.c ÷ 1 in
    ring ℚ_ring (a ∷ b ∷ c ∷ f t.dir ∷ g t.dir ∷ h t.dir ∷ total f ts ∷ total g ts ∷ total h ts ∷ [])
    (var 0 ⊠ (var 2 ⊠ var 3 ⊞ var 6) ⊟ var 1 ⊠ (var 2 ⊠ var 4 ⊞ var 7) ⊟ (var 2 ⊠ var 5 ⊞ var 8))
    (var 2 ⊠ (var 0 ⊠ var 3 ⊟ var 1 ⊠ var 4 ⊟ var 5) ⊞ (var 0 ⊠ var 6 ⊟ var 1 ⊠ var 7 ⊟ var 8)) refl
    ∙ ap (λ s. c *ℚ (a *ℚ f t.dir -ℚ b *ℚ g t.dir -ℚ h t.dir) +ℚ s) (total-joined f g h a b ts)

module _ (n : ℕ) (late : 20 ≤ n) (x y : ℚ) where
  abbrev sine_of : Dir → ℚ
  sine_of d = sine_of_turn n (turn_of d x y)

  abbrev cosine_of : Dir → ℚ
  cosine_of d = sine_of_turn n (turn_of d x y +ℚ pos 1 ÷ 2)

  abbrev near : ℚ
  near = pos 1 ÷ 2 ^ 66

  -- the turn of a conjugate times another direction
  turn_between : (d e : Dir) → turn_of (dir_sum (dir_neg d) e) x y ≡ turn_of e x y -ℚ turn_of d x y
  turn_between d e =
      ap₂ (λ s t. s *ℚ x +ℚ t *ℚ y) (int-add (dir_neg d).m e.m) (int-add (dir_neg d).n e.n)
      ∙ ring₆ ℚ_ring (λ a b c d x y. (a ⊞ c) ⊠ x ⊞ (b ⊞ d) ⊠ y) (λ a b c d x y. c ⊠ x ⊞ d ⊠ y ⊞ (a ⊠ x ⊞ b ⊠ y)) refl
      ((dir_neg d).m ÷ 1) ((dir_neg d).n ÷ 1) (e.m ÷ 1) (e.n ÷ 1) x y
      ∙ ap (λ t. turn_of e x y +ℚ t) (turn_of-neg d x y)

  one_pair : (d e : Dir) → abs (cosine_of d *ℚ sine_of e -ℚ sine_of d *ℚ cosine_of e -ℚ sine_of (dir_sum (dir_neg d) e)) ≤ℚ near
  one_pair d e =
      subst (λ t. abs (cosine_of d *ℚ sine_of e -ℚ sine_of d *ℚ cosine_of e -ℚ sine_of_turn n t) ≤ℚ near) (sym (turn_between d e))
      (adds n late (turn_of d x y) (turn_of e x y))

  -- one direction and a point
  one_row : (q : FormalPoint) (d : Dir)
      → abs (total sine_of (terms q) *ℚ cosine_of d -ℚ total cosine_of (terms q) *ℚ sine_of d
      -ℚ total (λ e. sine_of (dir_sum (dir_neg d) e)) (terms q)) ≤ℚ whole (weight q) *ℚ near
  one_row q d =
      let Y = total sine_of (terms q) in
      let X = total cosine_of (terms q) in
      let turned : Dir → ℚ = λ e. sine_of (dir_sum (dir_neg d) e) in
      moved ℚ_ordered
      (ap abs (sym (total-joined sine_of cosine_of turned (cosine_of d) (sine_of d) (terms q))
      ∙ ap (λ s. s -ℚ total turned (terms q)) (ring ℚ_ring (cosine_of d ∷ sine_of d ∷ Y ∷ X ∷ []) (var 0 ⊠ var 2 ⊟ var 1 ⊠ var 3)
      (var 2 ⊠ var 0 ⊟ var 3 ⊠ var 1) refl))) refl
      (total_size (λ e. cosine_of d *ℚ sine_of e -ℚ sine_of d *ℚ cosine_of e -ℚ turned e) near (one_pair d) (terms q))

  pub cross_product : (p q : FormalPoint)
      → abs (first_coordinate n p x y *ℚ second_coordinate n q x y -ℚ second_coordinate n p x y *ℚ first_coordinate n q x y
      -ℚ second_coordinate n (conj p *ₚ q) x y)
      ≤ℚ whole (weight p) *ℚ (whole (weight q) *ℚ near)
  cross_product p q =
      let Y = total sine_of (terms q) in
      let X = total cosine_of (terms q) in
      let row : Dir → ℚ = λ d. weigh ℚ_ring ℚ_image (λ e. sine_of (dir_sum (dir_neg d) e)) q in
      let product : second_coordinate n (conj p *ₚ q) x y ≡ total row (terms p) =
      weigh-*ₚ ℚ_ring ℚ_image sine_of (conj p) q ∙ weigh-conj ℚ_ring ℚ_image (λ d. weigh ℚ_ring ℚ_image (λ e. sine_of (dir_sum d e)) q) p in
      moved ℚ_ordered
      (ap abs (sym (total-joined cosine_of sine_of row Y X (terms p))
      ∙ ap₂ ◌-ℚ◌
      (ring ℚ_ring (Y ∷ X ∷ total cosine_of (terms p) ∷ total sine_of (terms p) ∷ []) (var 0 ⊠ var 2 ⊟ var 1 ⊠ var 3)
      (var 2 ⊠ var 0 ⊟ var 3 ⊠ var 1) refl) (sym product))) refl
      (total_size (λ d. Y *ℚ cosine_of d -ℚ X *ℚ sine_of d -ℚ row d) (whole (weight q) *ℚ near) (one_row q) (terms p))

pub cross_products_lem : CrossProducts
cross_products_lem = (20, λ n late p q x y. cross_product n late x y p q)
