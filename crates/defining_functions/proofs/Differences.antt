-- Functions are differences of heights, and numbers are linear.
use Rattle.std.proofs.Common.{◌≡◌, ℕ, ◌-◌, List, [], ◌∷◌, ℤ, pos, ◌+ℤ◌, ◌-ℤ◌, ◌*ℤ◌, refl, sym, ap, ◌∙◌, arith}
use Rattle.std.proofs.lemmas.Int.{ints}
use Rattle.ring_solver.specs.Expression.{var, ◌⊞◌, ◌⊟◌, ◌⊠◌}
use Rattle.ring_solver.proofs.Solver.{ring}
use Rattle.ring_solver.proofs.Whole.{ℤ_ring, ℤ_image}
use Rattle.edge_words.specs.Letters.{IsPlace, letter_at}
use Rattle.exp_sums.specs.declared.direction.Dir.{Dir}
use Rattle.exp_sums.specs.FormalPoint.{FormalPoint, dir_sum, zero_dir, monomial, zero_point, conj, ◌+ₚ◌, ◌-ₚ◌, ◌*ₚ◌}
use Rattle.exp_sums.specs.SineForm.{sine_form}
use Rattle.exp_sums.specs.Weigh.{weigh_ints}
use Rattle.exp_sums.proofs.PointRing.{point_ring}
use Rattle.exp_sums.proofs.Weigh.{weigh-*ₚ, weigh-monomial, weigh_same, weigh_scaled}
use Rattle.exp_sums.proofs.SineForm.{on_half, weigh-sine_form, sine_forms_linear}
use Rattle.exp_sums.proofs.Numbers.{weighing_linear}
use Rattle.unfolding.specs.Triangle.{next_corner, corner_of, centre_of}
use Rattle.unfolding.specs.Corners.{upper_corner, lower_corner}
use Rattle.unfolding.proofs.Bounds.{centre_law}
use Rattle.defining_functions.specs.Functions.{defining_function}
use Rattle.defining_functions.specs.Heights.{height}
use Rattle.defining_functions.specs.Laws.{FunctionsAreDifferences, NumbersAddUp, WalkAddsUp, number}

pub function_difference : FunctionsAreDifferences
unfolding defining_function height
function_difference v w k l =
    let t = conj v in
    let p = upper_corner w k in
    let q = lower_corner w l in
    let o = lower_corner w 1 in
    ap sine_form (ring point_ring (t ∷ p ∷ q ∷ o ∷ []) (var 0 ⊠ (var 1 ⊟ var 2)) (var 0 ⊠ (var 1 ⊟ var 3) ⊟ var 0 ⊠ (var 2 ⊟ var 3)) refl)
    ∙ sine_forms_linear.of_difference (t *ₚ (p -ₚ o)) (t *ₚ (q -ₚ o))

module _ (f : Dir → ℤ) (v : FormalPoint) where
  number-+ₚ : (p q : FormalPoint) → number f v (p +ₚ q) ≡ number f v p +ℤ number f v q
  number-+ₚ p q =
      let t = conj v in
      ap (λ z. weigh_ints f (sine_form z)) (ring point_ring (t ∷ p ∷ q ∷ []) (var 0 ⊠ (var 1 ⊞ var 2)) (var 0 ⊠ var 1 ⊞ var 0 ⊠ var 2) refl)
      ∙ ap (weigh_ints f) (sine_forms_linear.of_sum (t *ₚ p) (t *ₚ q))
      ∙ weighing_linear.of_sum f (sine_form (t *ₚ p)) (sine_form (t *ₚ q))

  number_difference : (p q : FormalPoint) → number f v (p -ₚ q) ≡ number f v p -ℤ number f v q
  number_difference p q =
      let t = conj v in
      ap (λ z. weigh_ints f (sine_form z)) (ring point_ring (t ∷ p ∷ q ∷ []) (var 0 ⊠ (var 1 ⊟ var 2)) (var 0 ⊠ var 1 ⊟ var 0 ⊠ var 2) refl)
      ∙ ap (weigh_ints f) (sine_forms_linear.of_difference (t *ₚ p) (t *ₚ q))
      ∙ weighing_linear.of_difference f (sine_form (t *ₚ p)) (sine_form (t *ₚ q))

  -- what a direction counts: the sum over the conjugate's terms of what its products with them count
  counted : Dir → ℤ
  counted d = weigh_ints (λ e. on_half ℤ_ring ℤ_image f (dir_sum e d)) (conj v)

  number_counts : (c : ℤ) (d : Dir) → number f v (monomial c d) ≡ c *ℤ counted d
  unfolding counted
  number_counts c d =
      let half = on_half ℤ_ring ℤ_image f in
      weigh-sine_form ℤ_ring ℤ_image f (conj v *ₚ monomial c d)
      ∙ weigh-*ₚ ℤ_ring ℤ_image half (conj v) (monomial c d)
      ∙ weigh_same ℤ_ring ℤ_image (λ e. weigh_ints (λ u. half (dir_sum e u)) (monomial c d)) (λ e. c *ℤ half (dir_sum e d))
      (λ e. weigh-monomial ℤ_ring ℤ_image (λ u. half (dir_sum e u)) c d) (conj v)
      ∙ weigh_scaled ℤ_ring ℤ_image (λ e. half (dir_sum e d)) c (conj v)

  number-monomial : (c : ℤ) (d : Dir) → number f v (monomial c d) ≡ c *ℤ number f v (monomial (pos 1) d)
  number-monomial c d =
      let one : number f v (monomial (pos 1) d) ≡ counted d = number_counts (pos 1) d ∙ omega (arith, ints) in
      number_counts c d ∙ ap (λ z. c *ℤ z) (sym one)

  number-zero_point : number f v zero_point ≡ pos 0
  number-zero_point = number_counts (pos 0) zero_dir ∙ omega (arith, ints)

pub numbers_linear : NumbersAddUp
numbers_linear = record { of_sum = number-+ₚ; of_difference = number_difference; of_term = number-monomial }

next_number : (f : Dir → ℤ) (v : FormalPoint) (w : List ℕ) (k : ℕ) → IsPlace w k →
    let e = next_corner (letter_at w k) in
    number f v (centre_of w k) ≡ number f v (corner_of w (k - 1) e) +ℤ number f v (corner_of w (k - 1) (next_corner e)) -ℤ number f v (centre_of w (k - 1))
next_number f v w k place =
    let e = next_corner (letter_at w k) in
    let p = corner_of w (k - 1) e in
    let q = corner_of w (k - 1) (next_corner e) in
    let o = centre_of w (k - 1) in
    ap (number f v) (centre_law w k place)
    ∙ number_difference f v (p +ₚ q) o
    ∙ ap (λ z. z -ℤ number f v o) (number-+ₚ f v p q)

pub walk_linear : WalkAddsUp
walk_linear = record { first = λ f v w. number-zero_point f v; next = next_number }
