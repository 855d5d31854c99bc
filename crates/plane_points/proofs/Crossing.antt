-- The cross product of two spots.
use Rattle.std.proofs.Common.{refl, sym, ap, ◌^◌, ◌≤◌, ℕ, [], ◌∷◌, pos}
use Rattle.ring_solver.specs.Expression.{var, num, opp, ◌⊞◌, ◌⊟◌, ◌⊠◌}
use Rattle.ring_solver.specs.Ordered.{times}
use Rattle.ring_solver.proofs.Solver.{ring, ring₃, ring₄}
use Rattle.ring_solver.proofs.Certificate.{le₄, moved, add_mono_both}
use Rattle.rat_core.specs.Fraction.{ℚ, ◌÷◌, whole, ◌+ℚ◌, ◌-ℚ◌, ◌*ℚ◌, neg_ℚ, ◌≤ℚ◌, abs, at_most}
use Rattle.rat_core.specs.Written.{value}
use Rattle.rat_core.proofs.Laws.{ℚ_ring, ℚ_ordered, le_trans, mul_nonneg}
use Rattle.rat_core.proofs.Order.{abs-neg, whole_nonneg}
use Rattle.rat_core.proofs.Sizes.{abs_add_three, abs_product_le}
use Rattle.exp_sums.specs.FormalPoint.{FormalPoint, terms, conj, ◌*ₚ◌}
use Rattle.exp_sums.specs.Limits.{weight}
use Rattle.trig_meaning.specs.FromSomeOn.{FromSomeOn}
use Rattle.trig_meaning.specs.Turn.{sine_of_turn}
use Rattle.trig_meaning.specs.Value.{turn_of, first_coordinate, second_coordinate}
use Rattle.trig_meaning.proofs.Addition.{sine_bounded}
use Rattle.trig_meaning.proofs.Coordinates.{total_size, cross_product}
use Rattle.trig_meaning.proofs.FromSomeOnLaws.{onward_both}
use Rattle.trig_meaning.proofs.Quarters.{eight_fifths_at_most_two}
use Rattle.trig_meaning.proofs.Values.{sine_forms_are_second_coordinates_lem}
use Rattle.plane_points.specs.declared.spot.Spot.{Spot}
use Rattle.plane_points.specs.Laws.{SpotsCross}
use Rattle.plane_points.specs.Spots.{TriangleAngles, in_units}

-- what a product of two numbers is off by, for each unit of both weights
abbrev near : ℚ
near = pos 1 ÷ 2 ^ 52

abbrev apart : ℚ
apart = near *ℚ whole 2 +ℚ near *ℚ near +ℚ whole 2 *ℚ near

three_le : (x y z a b c : ℚ) → x ≤ℚ a → y ≤ℚ b → z ≤ℚ c → x +ℚ y +ℚ z ≤ℚ a +ℚ b +ℚ c
three_le x y z a b c h k l = add_mono_both ℚ_ordered (x +ℚ y) (a +ℚ b) z c (add_mono_both ℚ_ordered x a y b h k) l

-- two numbers near two others, which are at most 2 for each unit of weight
products_near : (X Y a b v w : ℚ) → abs (X -ℚ a) ≤ℚ v *ℚ near → abs (Y -ℚ b) ≤ℚ w *ℚ near → abs a ≤ℚ v *ℚ whole 2 → abs b ≤ℚ w *ℚ whole 2
    → abs (X *ℚ Y -ℚ a *ℚ b) ≤ℚ v *ℚ (w *ℚ apart)
products_near X Y a b v w x_near y_near a_size b_size =
    moved ℚ_ordered
    (ap abs (ring₄ ℚ_ring (λ X Y a b. (X ⊟ a) ⊠ b ⊞ (X ⊟ a) ⊠ (Y ⊟ b) ⊞ a ⊠ (Y ⊟ b)) (λ X Y a b. X ⊠ Y ⊟ a ⊠ b) refl X Y a b))
    (ring₃ ℚ_ring (λ v w e. v ⊠ e ⊠ (w ⊠ num 2) ⊞ v ⊠ e ⊠ (w ⊠ e) ⊞ v ⊠ num 2 ⊠ (w ⊠ e)) (λ v w e. v ⊠ (w ⊠ (e ⊠ num 2 ⊞ e ⊠ e ⊞ num 2 ⊠ e))) refl v w near)
    (le_trans (abs ((X -ℚ a) *ℚ b +ℚ (X -ℚ a) *ℚ (Y -ℚ b) +ℚ a *ℚ (Y -ℚ b))) _ _
    (abs_add_three ((X -ℚ a) *ℚ b) ((X -ℚ a) *ℚ (Y -ℚ b)) (a *ℚ (Y -ℚ b)))
    (three_le (abs ((X -ℚ a) *ℚ b)) (abs ((X -ℚ a) *ℚ (Y -ℚ b))) (abs (a *ℚ (Y -ℚ b))) (v *ℚ near *ℚ (w *ℚ whole 2)) (v *ℚ near *ℚ (w *ℚ near))
    (v *ℚ whole 2 *ℚ (w *ℚ near))
    (abs_product_le (X -ℚ a) b (v *ℚ near) (w *ℚ whole 2) x_near b_size)
    (abs_product_le (X -ℚ a) (Y -ℚ b) (v *ℚ near) (w *ℚ near) x_near y_near)
    (abs_product_le a (Y -ℚ b) (v *ℚ whole 2) (w *ℚ near) a_size y_near)))

-- twice that and the error of the law of cross products
room : apart +ℚ apart +ℚ pos 1 ÷ 2 ^ 66 ≤ℚ pos 1 ÷ 2 ^ 44
unfolding at_most ◌÷◌ ◌+ℚ◌ ◌*ℚ◌
room = record { le = tt }

-- each coordinate is at most 2 for each unit of weight
module _ (n : ℕ) (late : 20 ≤ n) (x y : ℚ) where
  at_most_two : (t : ℚ) → abs (sine_of_turn n t) ≤ℚ whole 2
  at_most_two t = le_trans (abs (sine_of_turn n t)) (pos 8 ÷ 5) (whole 2) (sine_bounded n late t) eight_fifths_at_most_two

  pub first_size : (p : FormalPoint) → abs (first_coordinate n p x y) ≤ℚ whole (weight p) *ℚ whole 2
  first_size p = total_size (λ d. sine_of_turn n (turn_of d x y +ℚ pos 1 ÷ 2)) (whole 2) (λ d. at_most_two (turn_of d x y +ℚ pos 1 ÷ 2)) (terms p)

  pub second_size : (p : FormalPoint) → abs (second_coordinate n p x y) ≤ℚ whole (weight p) *ℚ whole 2
  second_size p = total_size (λ d. sine_of_turn n (turn_of d x y)) (whole 2) (λ d. at_most_two (turn_of d x y)) (terms p)

-- what is said at one n of a number and a coordinate
abbrev IsNearAt : ℕ → ℚ → ℚ → Type 0
IsNearAt weight z v = abs (z -ℚ v) ≤ℚ whole weight *ℚ near

module _ (n : ℕ) (late : 20 ≤ n) (at : TriangleAngles) (p q : FormalPoint) (s t : Spot) where
  abbrev a : ℚ
  a = first_coordinate n p (value at.0) (value at.1)

  abbrev b : ℚ
  b = second_coordinate n p (value at.0) (value at.1)

  abbrev c : ℚ
  c = first_coordinate n q (value at.0) (value at.1)

  abbrev d : ℚ
  d = second_coordinate n q (value at.0) (value at.1)

  abbrev form : ℚ
  form = second_coordinate n (conj p *ₚ q) (value at.0) (value at.1)

  abbrev v : ℚ
  v = whole (weight p)

  abbrev w : ℚ
  w = whole (weight q)

  crossed : IsNearAt (weight p) (in_units s.x) a → IsNearAt (weight p) (in_units s.y) b → IsNearAt (weight q) (in_units t.x) c
      → IsNearAt (weight q) (in_units t.y) d → abs (in_units s.x *ℚ in_units t.y -ℚ in_units s.y *ℚ in_units t.x -ℚ form) ≤ℚ v *ℚ (w *ℚ (pos 1 ÷ 2 ^ 44))
  crossed x_near y_near x_near' y_near' =
      let X = in_units s.x in
      let Y = in_units s.y in
      let X' = in_units t.x in
      let Y' = in_units t.y in
      let first : abs (X *ℚ Y' -ℚ a *ℚ d) ≤ℚ v *ℚ (w *ℚ apart) =
      products_near X Y' a d v w x_near y_near' (first_size n late (value at.0) (value at.1) p) (second_size n late (value at.0) (value at.1) q) in
      let second : abs (neg_ℚ (Y *ℚ X' -ℚ b *ℚ c)) ≤ℚ v *ℚ (w *ℚ apart) =
      moved ℚ_ordered (sym (abs-neg (Y *ℚ X' -ℚ b *ℚ c))) refl
      (products_near Y X' b c v w y_near x_near' (second_size n late (value at.0) (value at.1) p) (first_size n late (value at.0) (value at.1) q)) in
      let exact : abs (a *ℚ d -ℚ b *ℚ c -ℚ form) ≤ℚ v *ℚ (w *ℚ (pos 1 ÷ 2 ^ 66)) = cross_product n late (value at.0) (value at.1) p q in
      le_trans (abs (X *ℚ Y' -ℚ Y *ℚ X' -ℚ form)) (v *ℚ (w *ℚ (apart +ℚ apart +ℚ pos 1 ÷ 2 ^ 66))) (v *ℚ (w *ℚ (pos 1 ÷ 2 ^ 44)))
      (moved ℚ_ordered
      (ap abs (ring ℚ_ring (X ∷ Y ∷ X' ∷ Y' ∷ a ∷ b ∷ c ∷ d ∷ form ∷ [])
      (var 0 ⊠ var 3 ⊟ var 4 ⊠ var 7 ⊞ opp (var 1 ⊠ var 2 ⊟ var 5 ⊠ var 6) ⊞ (var 4 ⊠ var 7 ⊟ var 5 ⊠ var 6 ⊟ var 8))
      (var 0 ⊠ var 3 ⊟ var 1 ⊠ var 2 ⊟ var 8) refl))
      (ring₄ ℚ_ring (λ v w e f. v ⊠ (w ⊠ e) ⊞ v ⊠ (w ⊠ e) ⊞ v ⊠ (w ⊠ f)) (λ v w e f. v ⊠ (w ⊠ (e ⊞ e ⊞ f))) refl v w apart (pos 1 ÷ 2 ^ 66))
      (le_trans _ _ _ (abs_add_three (X *ℚ Y' -ℚ a *ℚ d) (neg_ℚ (Y *ℚ X' -ℚ b *ℚ c)) (a *ℚ d -ℚ b *ℚ c -ℚ form))
      (three_le _ _ _ (v *ℚ (w *ℚ apart)) (v *ℚ (w *ℚ apart)) (v *ℚ (w *ℚ (pos 1 ÷ 2 ^ 66))) first second exact)))
      (le₄ ℚ_ordered (λ v w e f. v ⊠ (w ⊠ e)) (λ v w e f. v ⊠ (w ⊠ f)) (λ v w e f. times (v ⊠ w) e f ∷ []) refl v w (apart +ℚ apart +ℚ pos 1 ÷ 2 ^ 66)
      (pos 1 ÷ 2 ^ 44) (mul_nonneg v w (whole_nonneg (weight p)) (whole_nonneg (weight q)), room, tt))

-- four statements that hold from some n on
all_four : {P Q R S : ℕ → Type 0} → FromSomeOn P → FromSomeOn Q → FromSomeOn R → FromSomeOn S → FromSomeOn (λ n. P n × Q n × R n × S n)
all_four {Q = Q} {R = R} {S = S} p q r s =
    let last : FromSomeOn (λ n. R n × S n) = onward_both (λ n r s. (r, s)) r s in
    let three : FromSomeOn (λ n. Q n × R n × S n) = onward_both (λ n q rest. (q, rest.0, rest.1)) q last in
    onward_both (λ n p rest. (p, rest.0, rest.1, rest.2)) p three

pub spots_cross_lem : SpotsCross
spots_cross_lem at p q s t first second =
    onward_both
    (λ n late h.
    moved ℚ_ordered (ap (λ f. abs (in_units s.x *ℚ in_units t.y -ℚ in_units s.y *ℚ in_units t.x -ℚ f))
    (sym (sine_forms_are_second_coordinates_lem n (conj p *ₚ q) (value at.0) (value at.1)))) refl
    (crossed n late at p q s t h.0 h.1 h.2 h.3))
    (20, λ n late. late) (all_four first.first first.second second.first second.second)
