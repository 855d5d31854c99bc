-- The value of a sine form adds up over its terms, and is the second coordinate of the point whose sine form it is.
use Rattle.std.proofs.Common.{◌≡◌, Bool, true, false, refl, sym, ap, ap₂, ◌∙◌, ℕ, ℤ, zero, suc, pos, negsuc, neg_ℤ, if◌then◌else◌, arith, [], ◌∷◌, lit<}
use Rattle.std.specs.Prelude.{int_lt}
use Rattle.std.proofs.lemmas.Bool.{or_parts}
use Rattle.std.proofs.lemmas.Int.{ints}
use Rattle.ring_solver.specs.Expression.{var, num, ◌⊞◌, ◌⊠◌, opp}
use Rattle.ring_solver.proofs.Solver.{ring₁, ring₄, ring_by}
use Rattle.rat_core.specs.Fraction.{ℚ, ◌÷◌, whole, ◌+ℚ◌, ◌*ℚ◌, neg_ℚ}
use Rattle.rat_core.proofs.Laws.{ℚ_ring, ℚ_image, int-neg}
use Rattle.rat_core.proofs.Order.{cancel}
use Rattle.exp_sums.specs.declared.direction.Dir.{Dir}
use Rattle.exp_sums.specs.FormalPoint.{FormalPoint, zero_dir, dir_neg}
use Rattle.exp_sums.specs.SineForm.{is_upper, sine_form}
use Rattle.exp_sums.proofs.SineForm.{on_half, weigh-sine_form}
use Rattle.exp_sums.proofs.Weigh.{weigh-monomial, weigh-+ₚ, weigh_same}
use Rattle.trig_meaning.specs.Turn.{sine_of_turn}
use Rattle.trig_meaning.specs.Value.{turn_of, value_at, second_coordinate}
use Rattle.trig_meaning.specs.Laws.{ValuesAddUp, SineFormsAreSecondCoordinates}
use Rattle.trig_meaning.proofs.Pieces.{sine_is_odd_lem}

-- a direction that is neither upper nor turned round to an upper one is the origin
is_origin : (d : Dir) → is_upper d ≡ false → is_upper (dir_neg d) ≡ false → d ≡ zero_dir
is_origin d h k = by_numbers d.m d.n h k
  where
    by_numbers : (m n : ℤ) → is_upper (record { m = m; n = n }) ≡ false → is_upper (record { m = neg_ℤ m; n = neg_ℤ n }) ≡ false
        → ◌≡◌ {A = Dir} (record { m = m; n = n }) zero_dir
    by_numbers (pos zero) (pos zero) h k = refl
    by_numbers (pos zero) (pos (suc n)) h k = absurd (omega (arith, ints, h))
    by_numbers (pos zero) (negsuc n) h k = absurd (omega (arith, ints, k))
    by_numbers (pos (suc m)) n h k = let positive = (or_parts (int_lt (pos 0) (pos (suc m))) _ h).0 in absurd (omega (arith, ints, positive))
    by_numbers (negsuc m) n h k = let positive = (or_parts (int_lt (pos 0) (pos (suc m))) _ k).0 in absurd (omega (arith, ints, positive))

-- the turn of an opposite direction
pub turn_of-neg : (d : Dir) (x y : ℚ) → turn_of (dir_neg d) x y ≡ neg_ℚ (turn_of d x y)
turn_of-neg d x y =
    ap₂ (λ s t. s *ℚ x +ℚ t *ℚ y) (int-neg d.m) (int-neg d.n)
    ∙ ring₄ ℚ_ring (λ a b x y. opp a ⊠ x ⊞ opp b ⊠ y) (λ a b x y. opp (a ⊠ x ⊞ b ⊠ y)) refl (d.m ÷ 1) (d.n ÷ 1) x y

module _ (n : ℕ) (x y : ℚ) where
  abbrev sine_at : Dir → ℚ
  sine_at d = sine_of_turn n (turn_of d x y)

  -- the sine of an opposite direction
  pub sine_at-neg : (d : Dir) → sine_of_turn n (turn_of (dir_neg d) x y) ≡ neg_ℚ (sine_of_turn n (turn_of d x y))
  sine_at-neg d = ap (sine_of_turn n) (turn_of-neg d x y) ∙ sine_is_odd_lem n (turn_of d x y)

  -- the origin is opposite to itself, so its sine is 0
  at_origin : sine_of_turn n (turn_of zero_dir x y) ≡ whole 0
  at_origin =
      let s = sine_of_turn n (turn_of zero_dir x y) in
      cancel 2 (lit< tt) s (whole 0) (ring_by ℚ_ring (s ∷ []) (var 0 ⊠ num 2) (num 0 ⊠ num 2) (num 1) (var 0) (opp (var 0)) refl (sine_at-neg zero_dir))

  value_at-sine_form : (p : FormalPoint) → value_at n (sine_form p) x y ≡ second_coordinate n p x y
  value_at-sine_form p =
      weigh-sine_form ℚ_ring ℚ_image sine_at p ∙ weigh_same ℚ_ring ℚ_image (on_half ℚ_ring ℚ_image sine_at) sine_at (λ d. by_tests d (is_upper d)
      (is_upper (dir_neg d)) refl refl) p
    where
      by_tests : (d : Dir) (a b : Bool) → is_upper d ≡ a → is_upper (dir_neg d) ≡ b
          → (if a then sine_at d else (if b then neg_ℚ (sine_at (dir_neg d)) else whole 0)) ≡ sine_at d
      by_tests d true b h k = refl
      by_tests d false true h k = ap neg_ℚ (sine_at-neg d) ∙ ring₁ ℚ_ring (λ x. opp (opp x)) (λ x. x) refl (sine_at d)
      by_tests d false false h k = sym (ap sine_at (is_origin d h k) ∙ at_origin)

pub values_add_up_lem : ValuesAddUp
values_add_up_lem =
    record {
      of_term = λ n c d x y. weigh-monomial ℚ_ring ℚ_image (λ d. sine_of_turn n (turn_of d x y)) c d;
      of_sum = λ n p q x y. weigh-+ₚ ℚ_ring ℚ_image (λ d. sine_of_turn n (turn_of d x y)) p q;
    }

pub sine_forms_are_second_coordinates_lem : SineFormsAreSecondCoordinates
sine_forms_are_second_coordinates_lem n p x y = value_at-sine_form n x y p
