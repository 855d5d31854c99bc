-- The value of a sine form in a square, from its values at the four corners.
use Rattle.std.proofs.Common.{◌≡◌, refl, sym, ap, ap₂, ◌∙◌, ℕ, ◌*◌, ◌^◌, ◌≤◌, List, [], ◌∷◌, slice_index_or, ℤ, pos, negsuc}
use Rattle.std.specs.Prelude.{unsigned_abs}
use Rattle.std.specs.List.{All}
use Rattle.std.proofs.lemmas.List.Elements.{All-head, All-tail}
use Rattle.ring_solver.specs.Expression.{var, num, ◌⊞◌, ◌⊟◌, ◌⊠◌, opp}
use Rattle.ring_solver.specs.Ordered.{le, times}
use Rattle.ring_solver.proofs.Solver.{ring, ring₃, ring₅}
use Rattle.ring_solver.proofs.Certificate.{le₄, certified, moved, at_most_of_same}
use Rattle.rat_core.specs.Fraction.{ℚ, ◌÷◌, whole, ◌+ℚ◌, ◌-ℚ◌, ◌*ℚ◌, ◌≤ℚ◌, abs}
use Rattle.rat_core.proofs.Laws.{ℚ_ring, ℚ_ordered, ℚ_image, int-add, int-mul, le_trans}
use Rattle.rat_core.proofs.Order.{whole_nonneg, whole_le, abs_of_nonneg, abs_add_le, neg_le_abs}
use Rattle.exp_sums.specs.declared.direction.Dir.{Dir}
use Rattle.exp_sums.specs.declared.terms.Term.{Term}
use Rattle.exp_sums.specs.FormalPoint.{FormalPoint, terms}
use Rattle.exp_sums.specs.Weigh.{weigh_terms}
use Rattle.exp_sums.specs.Limits.{IsNear, IsWithin, terms_weight, weight}
use Rattle.exp_sums.specs.Bend.{dir_bend, terms_bend, bend}
use Rattle.exp_sums.proofs.Bend.{terms_bend-cons}
use Rattle.exp_sums.proofs.Weights.{terms_weight-cons}
use Rattle.trig_meaning.specs.PartialSums.{pi_sum}
use Rattle.trig_meaning.specs.Turn.{sine_of_turn}
use Rattle.trig_meaning.specs.Value.{turn_of, value_at}
use Rattle.trig_meaning.proofs.Gradient.{multiple_at_most}
use Rattle.corner_bounds.proofs.Chords.{mix_four, mix_four_least, IsShare, bound, IsOfSecondOrder, between_corners}

-- ---- one direction

-- the square of a whole number
square_is : (m : ℤ) → (m ÷ 1) *ℚ (m ÷ 1) ≡ whole (unsigned_abs m * unsigned_abs m)
square_is (pos n) = sym (int-mul (pos n) (pos n))
square_is (negsuc n) = sym (int-mul (negsuc n) (negsuc n))

-- a step of a direction is small
step_small : (far : ℕ) (m : ℤ) (r : ℚ) → unsigned_abs m ≤ far → whole 0 ≤ℚ r → whole far *ℚ r ≤ℚ pos 1 ÷ 8 → abs ((m ÷ 1) *ℚ r) ≤ℚ pos 1 ÷ 8
step_small far m r near nonneg small =
    let one : abs r ≤ℚ r = at_most_of_same ℚ_ordered (abs_of_nonneg r nonneg) in
    le_trans (abs ((m ÷ 1) *ℚ r)) (whole (unsigned_abs m) *ℚ r) (pos 1 ÷ 8) (multiple_at_most m r r one)
    (le₄ ℚ_ordered (λ k f r e. k ⊠ r) (λ k f r e. e) (λ k f r e. times r k f ∷ le (f ⊠ r) e ∷ []) refl (whole (unsigned_abs m)) (whole far) r (pos 1 ÷ 8)
    (nonneg, whole_le (unsigned_abs m) far near, (small, tt)))

-- the square around (x, y) with half the side r, and a point in it
pub record IsIn (far : ℕ) (r a b : ℚ) : Type 0 where
  pub nonneg : whole 0 ≤ℚ r
  pub small : whole far *ℚ r ≤ℚ pos 1 ÷ 8
  pub across : IsShare a
  pub up : IsShare b

module _ (n far : ℕ) (law : IsOfSecondOrder n) (x y r a b : ℚ) (is_in : IsIn far r a b) where
  abbrev at : ℚ → ℚ → Dir → ℚ
  at u v d = sine_of_turn n (turn_of d u v)

  abbrev inner : Dir → ℚ
  inner = at (x +ℚ a *ℚ r) (y +ℚ b *ℚ r)

  -- 2·pi²·r²
  abbrev curve : ℚ
  curve = whole 2 *ℚ (pi_sum n *ℚ pi_sum n) *ℚ (r *ℚ r)

  abbrev rest : ℚ
  rest = pos 1 ÷ 2 ^ 50 +ℚ pos 1 ÷ 2 ^ 50

  abbrev Near : ℚ → ℚ → ℚ → ℚ → ℚ → ℚ → Type 0
  Near v p q s t e = abs (v -ℚ mix_four a b p q s t) ≤ℚ e

  -- the sine of one direction
  direction_near : (d : Dir) → IsNear far d
      → Near (inner d) (at (x -ℚ r) (y -ℚ r) d) (at (x +ℚ r) (y -ℚ r) d) (at (x -ℚ r) (y +ℚ r) d) (at (x +ℚ r) (y +ℚ r) d)
      (curve *ℚ whole (dir_bend d) +ℚ rest)
  direction_near d near =
      let m = d.m ÷ 1 in
      let k = d.n ÷ 1 in
      let t = m *ℚ x +ℚ k *ℚ y in
      let g = m *ℚ r in
      let h = k *ℚ r in
      let found = between_corners n law t g h a b (step_small far d.m r near.m is_in.nonneg is_in.small)
      (step_small far d.n r near.n is_in.nonneg is_in.small)
      is_in.across is_in.up in
      moved ℚ_ordered
      (ap₂ (λ v w. abs (v -ℚ w))
      (ap (sine_of_turn n) (ring ℚ_ring (m ∷ k ∷ x ∷ y ∷ r ∷ a ∷ b ∷ [])
      ((var 0 ⊠ var 2 ⊞ var 1 ⊠ var 3) ⊞ var 5 ⊠ (var 0 ⊠ var 4) ⊞ var 6 ⊠ (var 1 ⊠ var 4))
      (var 0 ⊠ (var 2 ⊞ var 5 ⊠ var 4) ⊞ var 1 ⊠ (var 3 ⊞ var 6 ⊠ var 4)) refl))
      (four
      (ap (sine_of_turn n) (ring₅ ℚ_ring (λ m k x y r. (m ⊠ x ⊞ k ⊠ y) ⊟ k ⊠ r ⊟ m ⊠ r) (λ m k x y r. m ⊠ (x ⊟ r) ⊞ k ⊠ (y ⊟ r)) refl m k x y r))
      (ap (sine_of_turn n) (ring₅ ℚ_ring (λ m k x y r. (m ⊠ x ⊞ k ⊠ y) ⊟ k ⊠ r ⊞ m ⊠ r) (λ m k x y r. m ⊠ (x ⊞ r) ⊞ k ⊠ (y ⊟ r)) refl m k x y r))
      (ap (sine_of_turn n) (ring₅ ℚ_ring (λ m k x y r. (m ⊠ x ⊞ k ⊠ y) ⊞ k ⊠ r ⊟ m ⊠ r) (λ m k x y r. m ⊠ (x ⊟ r) ⊞ k ⊠ (y ⊞ r)) refl m k x y r))
      (ap (sine_of_turn n) (ring₅ ℚ_ring (λ m k x y r. (m ⊠ x ⊞ k ⊠ y) ⊞ k ⊠ r ⊞ m ⊠ r) (λ m k x y r. m ⊠ (x ⊞ r) ⊞ k ⊠ (y ⊞ r)) refl m k x y r))))
      bounds found
    where
      four : {p p' q q' s s' t t' : ℚ} → p ≡ p' → q ≡ q' → s ≡ s' → t ≡ t' → mix_four a b p q s t ≡ mix_four a b p' q' s' t'
      four p q s t = λ i. mix_four a b (p i) (q i) (s i) (t i)

      squares : whole (dir_bend d) ≡ (d.m ÷ 1) *ℚ (d.m ÷ 1) +ℚ (d.n ÷ 1) *ℚ (d.n ÷ 1)
      squares = int-add (pos (unsigned_abs d.m * unsigned_abs d.m)) (pos (unsigned_abs d.n * unsigned_abs d.n))
          ∙ ap₂ ◌+ℚ◌ (sym (square_is d.m)) (sym (square_is d.n))

      bounds : bound n ((d.m ÷ 1) *ℚ r) +ℚ bound n ((d.n ÷ 1) *ℚ r) ≡ curve *ℚ whole (dir_bend d) +ℚ rest
      bounds = ring₅ ℚ_ring (λ m k r p e. (num 2 ⊠ p ⊠ ((m ⊠ r) ⊠ (m ⊠ r)) ⊞ e) ⊞ (num 2 ⊠ p ⊠ ((k ⊠ r) ⊠ (k ⊠ r)) ⊞ e))
          (λ m k r p e. num 2 ⊠ p ⊠ (r ⊠ r) ⊠ (m ⊠ m ⊞ k ⊠ k) ⊞ (e ⊞ e)) refl (d.m ÷ 1) (d.n ÷ 1) r (pi_sum n *ℚ pi_sum n) (pos 1 ÷ 2 ^ 50)
          ∙ ap (λ z. curve *ℚ z +ℚ rest) (sym squares)

-- ---- sums

-- such sums of sines are as near, for each unit of bend and of weight
module _ (a b B E : ℚ) (v p q s t : Dir → ℚ) where
  abbrev total : (Dir → ℚ) → List Term → ℚ
  total f ts = weigh_terms ℚ_ring ℚ_image f ts

  terms_near : (ts : List Term) → All (λ u. abs (v u.dir -ℚ mix_four a b (p u.dir) (q u.dir) (s u.dir) (t u.dir)) ≤ℚ B *ℚ whole (dir_bend u.dir) +ℚ E) ts
      → abs (total v ts -ℚ mix_four a b (total p ts) (total q ts) (total s ts) (total t ts)) ≤ℚ B *ℚ whole (terms_bend ts) +ℚ E *ℚ whole (terms_weight ts)
  terms_near [] near = at_most_of_same ℚ_ordered (ap abs nothing ∙ abs_of_nonneg (whole 0) (whole_nonneg 0)
      ∙ ring ℚ_ring (B ∷ E ∷ []) (num 0) (var 0 ⊠ num 0 ⊞ var 1 ⊠ num 0) refl)
    where
      nothing : whole 0 -ℚ mix_four a b (whole 0) (whole 0) (whole 0) (whole 0) ≡ whole 0
      nothing = ring₃ ℚ_ring
          (λ a b h. num 0 ⊟ (h ⊠ (num 1 ⊟ b) ⊠ (h ⊠ (num 1 ⊟ a) ⊠ num 0 ⊞ h ⊠ (num 1 ⊞ a) ⊠ num 0)
          ⊞ h ⊠ (num 1 ⊞ b) ⊠ (h ⊠ (num 1 ⊟ a) ⊠ num 0 ⊞ h ⊠ (num 1 ⊞ a) ⊠ num 0)))
          (λ a b h. num 0) refl a b (pos 1 ÷ 2)
  terms_near (u ∷ us) near =
      let P = λ (u : Term). abs (v u.dir -ℚ mix_four a b (p u.dir) (q u.dir) (s u.dir) (t u.dir)) ≤ℚ B *ℚ whole (dir_bend u.dir) +ℚ E in
      let c = u.c ÷ 1 in
      let d = u.dir in
      let k = whole (unsigned_abs u.c) in
      let m = whole (dir_bend d) in
      let bends = whole (terms_bend us) in
      let weights = whole (terms_weight us) in
      let here = v d -ℚ mix_four a b (p d) (q d) (s d) (t d) in
      let others = total v us -ℚ mix_four a b (total p us) (total q us) (total s us) (total t us) in
      let bend_is : whole (terms_bend (u ∷ us)) ≡ k *ℚ m +ℚ bends =
      ap whole (terms_bend-cons u us) ∙ int-add (pos (unsigned_abs u.c * dir_bend d)) (pos (terms_bend us))
      ∙ ap (λ z. z +ℚ bends) (int-mul (pos (unsigned_abs u.c)) (pos (dir_bend d))) in
      let weight_is : whole (terms_weight (u ∷ us)) ≡ k +ℚ weights = ap whole (terms_weight-cons u us) ∙ int-add (pos (unsigned_abs u.c))
      (pos (terms_weight us)) in
      let bound_is = ap₂ (λ x y. B *ℚ x +ℚ E *ℚ y) (sym bend_is) (sym weight_is) in
      let sum : abs (c *ℚ here +ℚ others) ≤ℚ B *ℚ (k *ℚ m +ℚ bends) +ℚ E *ℚ (k +ℚ weights) =
      le_trans (abs (c *ℚ here +ℚ others)) (abs (c *ℚ here) +ℚ abs others) (B *ℚ (k *ℚ m +ℚ bends) +ℚ E *ℚ (k +ℚ weights)) (abs_add_le (c *ℚ here) others)
      (certified ℚ_ordered (abs (c *ℚ here) ∷ abs others ∷ B ∷ E ∷ k ∷ m ∷ bends ∷ weights ∷ []) (var 0 ⊞ var 1)
      (var 2 ⊠ (var 4 ⊠ var 5 ⊞ var 6) ⊞ var 3 ⊠ (var 4 ⊞ var 7))
      (le (var 0) (var 4 ⊠ (var 2 ⊠ var 5 ⊞ var 3)) ∷ le (var 1) (var 2 ⊠ var 6 ⊞ var 3 ⊠ var 7) ∷ []) refl
      (multiple_at_most u.c here (B *ℚ m +ℚ E) (All-head P u us near), (terms_near us (All-tail P u us near), tt))) in
      moved ℚ_ordered (ap abs (parts c (v d) (p d) (q d) (s d) (t d) (total v us) (total p us) (total q us) (total s us) (total t us))) bound_is sum
    where
      parts : (c v p q s t V P Q S T : ℚ) → c *ℚ (v -ℚ mix_four a b p q s t) +ℚ (V -ℚ mix_four a b P Q S T)
          ≡ (c *ℚ v +ℚ V) -ℚ mix_four a b (c *ℚ p +ℚ P) (c *ℚ q +ℚ Q) (c *ℚ s +ℚ S) (c *ℚ t +ℚ T)
      parts c v p q s t V P Q S T =
          ring ℚ_ring (a ∷ b ∷ (pos 1 ÷ 2) ∷ c ∷ v ∷ p ∷ q ∷ s ∷ t ∷ V ∷ P ∷ Q ∷ S ∷ T ∷ [])
          (var 3 ⊠ (var 4 ⊟ (var 2 ⊠ (num 1 ⊟ var 1) ⊠ (var 2 ⊠ (num 1 ⊟ var 0) ⊠ var 5 ⊞ var 2 ⊠ (num 1 ⊞ var 0) ⊠ var 6)
          ⊞ var 2 ⊠ (num 1 ⊞ var 1) ⊠ (var 2 ⊠ (num 1 ⊟ var 0) ⊠ var 7 ⊞ var 2 ⊠ (num 1 ⊞ var 0) ⊠ var 8)))
          ⊞ (var 9 ⊟ (var 2 ⊠ (num 1 ⊟ var 1) ⊠ (var 2 ⊠ (num 1 ⊟ var 0) ⊠ var 10 ⊞ var 2 ⊠ (num 1 ⊞ var 0) ⊠ var 11)
          ⊞ var 2 ⊠ (num 1 ⊞ var 1) ⊠ (var 2 ⊠ (num 1 ⊟ var 0) ⊠ var 12 ⊞ var 2 ⊠ (num 1 ⊞ var 0) ⊠ var 13))))
          ((var 3 ⊠ var 4 ⊞ var 9) ⊟ (var 2 ⊠ (num 1 ⊟ var 1) ⊠ (var 2 ⊠ (num 1 ⊟ var 0) ⊠ (var 3 ⊠ var 5 ⊞ var 10)
          ⊞ var 2 ⊠ (num 1 ⊞ var 0) ⊠ (var 3 ⊠ var 6 ⊞ var 11))
          ⊞ var 2 ⊠ (num 1 ⊞ var 1) ⊠ (var 2 ⊠ (num 1 ⊟ var 0) ⊠ (var 3 ⊠ var 7 ⊞ var 12) ⊞ var 2 ⊠ (num 1 ⊞ var 0) ⊠ (var 3 ⊠ var 8 ⊞ var 13))))
          refl

-- the values at the four corners of the square around (x, y), each at least low
pub record Corners (n : ℕ) (f : FormalPoint) (x y r low : ℚ) : Type 0 where
  pub below_left : low ≤ℚ value_at n f (x -ℚ r) (y -ℚ r)
  pub below_right : low ≤ℚ value_at n f (x +ℚ r) (y -ℚ r)
  pub above_left : low ≤ℚ value_at n f (x -ℚ r) (y +ℚ r)
  pub above_right : low ≤ℚ value_at n f (x +ℚ r) (y +ℚ r)

-- the value in the square is at least as much, but for 2·pi²·r² for each unit of bend and 2^−49 for each unit of weight
pub value_in_square : (n far : ℕ) → IsOfSecondOrder n → (f : FormalPoint) → IsWithin far f → (x y r a b low : ℚ) → IsIn far r a b → Corners n f x y r low
    → low -ℚ (whole 2 *ℚ (pi_sum n *ℚ pi_sum n) *ℚ (r *ℚ r) *ℚ whole (bend f) +ℚ (pos 1 ÷ 2 ^ 50 +ℚ pos 1 ÷ 2 ^ 50) *ℚ whole (weight f))
    ≤ℚ value_at n f (x +ℚ a *ℚ r) (y +ℚ b *ℚ r)
value_in_square n far law f within x y r a b low is_in corners =
    let B = whole 2 *ℚ (pi_sum n *ℚ pi_sum n) *ℚ (r *ℚ r) in
    let E = pos 1 ÷ 2 ^ 50 +ℚ pos 1 ÷ 2 ^ 50 in
    let v = value_at n f (x +ℚ a *ℚ r) (y +ℚ b *ℚ r) in
    let between = mix_four a b (value_at n f (x -ℚ r) (y -ℚ r)) (value_at n f (x +ℚ r) (y -ℚ r)) (value_at n f (x -ℚ r) (y +ℚ r))
    (value_at n f (x +ℚ r) (y +ℚ r)) in
    let near : abs (v -ℚ between) ≤ℚ B *ℚ whole (bend f) +ℚ E *ℚ whole (weight f) =
    terms_near a b B E (λ d. sine_of_turn n (turn_of d (x +ℚ a *ℚ r) (y +ℚ b *ℚ r))) (λ d. sine_of_turn n (turn_of d (x -ℚ r) (y -ℚ r)))
    (λ d. sine_of_turn n (turn_of d (x +ℚ r) (y -ℚ r))) (λ d. sine_of_turn n (turn_of d (x -ℚ r) (y +ℚ r)))
    (λ d. sine_of_turn n (turn_of d (x +ℚ r) (y +ℚ r)))
    (terms f) (λ i u below. direction_near n far law x y r a b is_in (slice_index_or (terms f) i u).dir (within i u below)) in
    let least = mix_four_least a b (value_at n f (x -ℚ r) (y -ℚ r)) (value_at n f (x +ℚ r) (y -ℚ r)) (value_at n f (x -ℚ r) (y +ℚ r))
    (value_at n f (x +ℚ r) (y +ℚ r))
    low is_in.across is_in.up corners.below_left corners.below_right corners.above_left corners.above_right in
    certified ℚ_ordered (low ∷ (B *ℚ whole (bend f) +ℚ E *ℚ whole (weight f)) ∷ v ∷ between ∷ abs (v -ℚ between) ∷ []) (var 0 ⊟ var 1) (var 2)
    (le (var 0) (var 3) ∷ le (opp (var 2 ⊟ var 3)) (var 4) ∷ le (var 4) (var 1) ∷ []) refl (least, (neg_le_abs (v -ℚ between), (near, tt)))
