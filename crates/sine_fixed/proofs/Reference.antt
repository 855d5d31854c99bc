-- The four cases of the reference angle, for whole numbers: den half parts to a quarter turn, and rest parts of the turn.
use Rattle.std.proofs.Common.{◌≡◌, refl, sym, subst, ap, ap₂, ◌∙◌, ℕ, ◌*◌, ◌^◌, ◌<◌, ◌≤◌, Bool, true, false, cond, not, T, ℤ, pos, negsuc, ◌-ℤ◌, ◌*ℤ◌}
use Rattle.std.proofs.Common.{◌≤ℤ◌, ◌<ℤ◌, unsigned_abs, FitsSigned, arith}
use Rattle.std.specs.Int.{w128, int_rem_euclid}
use Rattle.std.proofs.lemmas.Int.{ints, fits_signed_from_abs}
use Rattle.std.specs.Int.Signed.{le_z_yes}
use Rattle.std.specs.Prelude.{int_le}
use borrow.Author.Differences.{below_in, le_not}
use Rattle.ring_solver.specs.Expression.{num, ◌⊟◌, ◌⊠◌}
use Rattle.ring_solver.proofs.Solver.{ring₂, ring₃}
use Rattle.ring_solver.proofs.Division.{rem_euclid_below}
use Rattle.rat_core.specs.Fraction.{ℚ, ◌÷◌, whole, ◌-ℚ◌, ◌*ℚ◌, neg_ℚ, at_most, ◌≤ℚ◌, ◌<ℚ◌, wrapped}
use Rattle.rat_core.proofs.Laws.{ℚ_ring, over-mul, over_le, over_lt, int-mul, int-sub, le_trans}
use Rattle.rat_core.proofs.Order.{cancel}
use Rattle.rat_core.proofs.Wrapped.{wrapped-over}
use Rattle.trig_meaning.specs.PartialSums.{pi_sum, sine_sum}
use Rattle.trig_meaning.specs.Turn.{sine_within_turn, sine_of_turn}
use Rattle.sine_fixed.specs.ReferenceAngle.{ReferenceAngle, IsReference, reference_of, is_negative, value, signed_value, sine_of}

-- what is promised of the reference angle of t
pub record IsReferenceOf (t : ℚ) (a : ReferenceAngle) : Type 0 where
  pub angle : value a ≡ reference_of t
  pub sign : a.negative ≡ is_negative t

is_true : (b : Bool) → T b → b ≡ true
is_true true h = refl
is_true false h = absurd h

is_false : (b : Bool) → T (not b) → b ≡ false
is_false true h = absurd h
is_false false h = refl

at_most_true : (x y : ℚ) → x ≤ℚ y → at_most x y ≡ true
at_most_true x y h = is_true (at_most x y) h.le

at_most_false : (x y : ℚ) → y <ℚ x → at_most x y ≡ false
at_most_false x y h = is_false (at_most x y) h.lt

-- x is n / d, if d times x is n
quotient_is : (n : ℤ) (d : ℕ) (x : ℚ) → 0 < d → x *ℚ whole d ≡ n ÷ 1 → n ÷ d ≡ x
quotient_is n d x p h = cancel d p (n ÷ d) x (over-mul n d p ∙ sym h)

-- whole numbers less a quotient, and a quotient less 1
less_quotient : (k : ℕ) (n : ℤ) (d : ℕ) → 0 < d → (pos k *ℤ pos d -ℤ n) ÷ d ≡ whole k -ℚ n ÷ d
less_quotient k n d p =
    quotient_is (pos k *ℤ pos d -ℤ n) d (whole k -ℚ n ÷ d) p
    (ring₃ ℚ_ring (λ k x d. (k ⊟ x) ⊠ d) (λ k x d. k ⊠ d ⊟ x ⊠ d) refl (whole k) (n ÷ d) (whole d)
    ∙ ap₂ ◌-ℚ◌ (sym (int-mul (pos k) (pos d))) (over-mul n d p) ∙ sym (int-sub (pos k *ℤ pos d) n))

quotient_less_one : (n : ℤ) (d : ℕ) → 0 < d → (n -ℤ pos d) ÷ d ≡ n ÷ d -ℚ whole 1
quotient_less_one n d p =
    quotient_is (n -ℤ pos d) d (n ÷ d -ℚ whole 1) p
    (ring₂ ℚ_ring (λ x d. (x ⊟ num 1) ⊠ d) (λ x d. x ⊠ d ⊟ d) refl (n ÷ d) (whole d)
    ∙ ap (λ t. t -ℚ whole d) (over-mul n d p) ∙ sym (int-sub n (pos d)))

-- the four cases
module _ (r d : ℕ) (positive : 0 < d) where
  pub in_first : 2 * r ≤ d → IsReferenceOf (pos r ÷ d) (record { negative = false; num = r; den = d })
  in_first h =
      let half = at_most_true (pos r ÷ d) (pos 1 ÷ 2) (over_le (pos r) (pos 1) d 2 positive (omega arith) (omega (arith, ints))) in
      let one = at_most_true (pos r ÷ d) (whole 1) (over_le (pos r) (pos 1) d 1 positive (omega arith) (omega (arith, ints))) in
      record { angle = rw half refl; sign = rw one refl }

  pub in_second : (n : ℕ) → d < 2 * r → r ≤ d → pos n ≡ pos d -ℤ pos r → IsReferenceOf (pos r ÷ d) (record { negative = false; num = n; den = d })
  in_second n l h e =
      let half = at_most_false (pos r ÷ d) (pos 1 ÷ 2) (over_lt (pos 1) (pos r) 2 d (omega arith) positive (omega (arith, ints))) in
      let one = at_most_true (pos r ÷ d) (whole 1) (over_le (pos r) (pos 1) d 1 positive (omega arith) (omega (arith, ints))) in
      let e' : pos n ≡ pos 1 *ℤ pos d -ℤ pos r = omega (arith, ints) in
      record { angle = rw (half, one) (ap (λ z. z ÷ d) e' ∙ less_quotient 1 (pos r) d positive); sign = rw one refl }

  pub in_third : (n : ℕ) → d < r → 2 * r ≤ 3 * d → pos n ≡ pos r -ℤ pos d → IsReferenceOf (pos r ÷ d) (record { negative = true; num = n; den = d })
  in_third n l h e =
      let half = at_most_false (pos r ÷ d) (pos 1 ÷ 2) (over_lt (pos 1) (pos r) 2 d (omega arith) positive (omega (arith, ints))) in
      let one = at_most_false (pos r ÷ d) (whole 1) (over_lt (pos 1) (pos r) 1 d (omega arith) positive (omega (arith, ints))) in
      let three = at_most_true (pos r ÷ d) (pos 3 ÷ 2) (over_le (pos r) (pos 3) d 2 positive (omega arith) (omega (arith, ints))) in
      record { angle = rw (half, one, three) (ap (λ z. z ÷ d) e ∙ quotient_less_one (pos r) d positive); sign = rw one refl }

  pub in_fourth : (n : ℕ) → 3 * d < 2 * r → pos n ≡ pos 2 *ℤ pos d -ℤ pos r → IsReferenceOf (pos r ÷ d) (record { negative = true; num = n; den = d })
  in_fourth n l e =
      let half = at_most_false (pos r ÷ d) (pos 1 ÷ 2) (over_lt (pos 1) (pos r) 2 d (omega arith) positive (omega (arith, ints))) in
      let one = at_most_false (pos r ÷ d) (whole 1) (over_lt (pos 1) (pos r) 1 d (omega arith) positive (omega (arith, ints))) in
      let three = at_most_false (pos r ÷ d) (pos 3 ÷ 2) (over_lt (pos 3) (pos r) 2 d (omega arith) positive (omega (arith, ints))) in
      record { angle = rw (half, one, three) (ap (λ z. z ÷ d) e ∙ less_quotient 2 (pos r) d positive); sign = rw one refl }

-- ---- the sine at the reference angle, with the sign, is the first piece that fits

pieces : (f : ℚ → ℚ) (x y z w : ℚ) (half one three : Bool) → (T half → T one)
    → cond half (f x) (cond one (f y) (cond three (neg_ℚ (f z)) (neg_ℚ (f w)))) ≡ signed_value (not one) (f (cond half x (cond one y (cond three z w))))
pieces f x y z w true true three h = refl
pieces f x y z w true false three h = absurd (h tt)
pieces f x y z w false true three h = refl
pieces f x y z w false false true h = refl
pieces f x y z w false false false h = refl

sine_by_reference : (n : ℕ) (t : ℚ) → sine_within_turn n t ≡ signed_value (is_negative t) (sine_sum n (pi_sum n *ℚ reference_of t))
sine_by_reference n t =
    pieces (λ x. sine_sum n (pi_sum n *ℚ x)) t (whole 1 -ℚ t) (t -ℚ whole 1) (whole 2 -ℚ t) (at_most t (pos 1 ÷ 2)) (at_most t (whole 1))
    (at_most t (pos 3 ÷ 2)) later
  where
    later : T (at_most t (pos 1 ÷ 2)) → T (at_most t (whole 1))
    later h = (le_trans t (pos 1 ÷ 2) (whole 1) (record { le = h }) (over_le (pos 1) (pos 1) 2 1 (omega arith) (omega arith) (omega (arith, ints)))).le

pub sine_at : (n : ℕ) (x : ℚ) (a : ReferenceAngle) → IsReferenceOf (wrapped x) a → sine_of_turn n x ≡ sine_of n a
unfolding sine_of_turn
sine_at n x a h = sine_by_reference n (wrapped x) ∙ ap₂ (λ s v. signed_value s (sine_sum n (pi_sum n *ℚ v))) (sym h.sign) (sym h.angle)

-- ---- what is left of whole turns

wrapped_is : (n : ℤ) (d r : ℕ) (a : ReferenceAngle) → 0 < d → int_rem_euclid n (pos (2 * d)) ≡ pos r → IsReferenceOf (pos r ÷ d) a
    → IsReferenceOf (wrapped (n ÷ d)) a
wrapped_is n d r a p e h = subst (λ x. IsReferenceOf x a) (sym (wrapped-over n d p ∙ ap (λ z. z ÷ d) e)) h

-- what is promised of the answer for n / den
pub record IsTurned (n den : ℤ) (a : ReferenceAngle) : Type 0 where
  pub denominator : pos a.den ≡ den
  pub wrapped_reference : IsReferenceOf (wrapped (n ÷ unsigned_abs den)) a
  pub reference : IsReference a

-- the rest of n, as a natural number
rest_of : (n rest : ℤ) (d : ℕ) → 0 < d → rest ≡ int_rem_euclid n (pos 2 *ℤ pos d) → (r : ℕ) × (rest ≡ pos r) × (r < 2 * d)
rest_of n rest d p e =
    let below = rem_euclid_below n (2 * d) (omega arith) in
    (below.0, e ∙ below.1, below.2)

-- the sizes of what is computed
pub rest_sizes : (n den rest : ℤ) → pos 1 ≤ℤ den → den ≤ℤ pos (2 ^ 42) → rest ≡ int_rem_euclid n (pos 2 *ℤ den) → (pos 0 ≤ℤ rest) × (rest <ℤ (pos 2 *ℤ den))
rest_sizes n (negsuc d) rest p s e = absurd p.le
rest_sizes n (pos d) rest p s e =
    let b = rest_of n rest d (omega (arith, ints)) e in
    at b.0 b.1 b.2
  where
    at : (r : ℕ) → rest ≡ pos r → r < 2 * d → (pos 0 ≤ℤ rest) × (rest <ℤ (pos 2 *ℤ pos d))
    at r is inside = (omega (arith, ints), omega (arith, ints))

-- what the machine computes fits its type
pub record Fits (den rest : ℤ) : Type 0 where
  pub twice_den : FitsSigned w128 (pos 2 *ℤ den)
  pub thrice_den : FitsSigned w128 (pos 3 *ℤ den)
  pub twice_rest : FitsSigned w128 (pos 2 *ℤ rest)
  pub second : FitsSigned w128 (den -ℤ rest)
  pub third : FitsSigned w128 (rest -ℤ den)
  pub fourth : FitsSigned w128 (pos 2 *ℤ den -ℤ rest)

pub twice_fits : (den : ℤ) → pos 1 ≤ℤ den → den ≤ℤ pos (2 ^ 42) → FitsSigned w128 (pos 2 *ℤ den)
twice_fits den p s = fits_signed_from_abs w128 (pos 2 *ℤ den) (omega (arith, ints))

pub all_fit : (n den rest : ℤ) → pos 1 ≤ℤ den → den ≤ℤ pos (2 ^ 42) → rest ≡ int_rem_euclid n (pos 2 *ℤ den) → Fits den rest
all_fit n den rest p s e =
    let sizes = rest_sizes n den rest p s e in
    at sizes.0 sizes.1
  where
    at : pos 0 ≤ℤ rest → rest <ℤ (pos 2 *ℤ den) → Fits den rest
    at nonneg inside =
        record {
          twice_den = fits_signed_from_abs w128 (pos 2 *ℤ den) (omega (arith, ints));
          thrice_den = fits_signed_from_abs w128 (pos 3 *ℤ den) (omega (arith, ints));
          twice_rest = fits_signed_from_abs w128 (pos 2 *ℤ rest) (omega (arith, ints));
          second = fits_signed_from_abs w128 (den -ℤ rest) (omega (arith, ints));
          third = fits_signed_from_abs w128 (rest -ℤ den) (omega (arith, ints));
          fourth = fits_signed_from_abs w128 (pos 2 *ℤ den -ℤ rest) (omega (arith, ints));
        }

pub second_nonneg : (den rest : ℤ) → rest ≤ℤ den → pos 0 ≤ℤ (den -ℤ rest)
second_nonneg den rest h = omega (arith, ints)

pub third_nonneg : (den rest : ℤ) → den <ℤ rest → pos 0 ≤ℤ (rest -ℤ den)
third_nonneg den rest h = omega (arith, ints)

pub fourth_nonneg : (den rest : ℤ) → rest <ℤ (pos 2 *ℤ den) → pos 0 ≤ℤ (pos 2 *ℤ den -ℤ rest)
fourth_nonneg den rest h = omega (arith, ints)

pub at_most_of : (a b : ℤ) → int_le a b ≡ true → a ≤ℤ b
at_most_of a b h = le_z_yes (subst T (sym h) tt)

pub below_of : (a b : ℤ) → int_le a b ≡ false → b <ℤ a
below_of a b h = below_in b a (omega (arith, le_not a b (subst (λ t. T (not t)) (sym h) tt)))

-- the four pieces, where `rest` is the remainder of n by 2·den
pub turned_first : (n den rest : ℤ) → pos 1 ≤ℤ den → den ≤ℤ pos (2 ^ 42) → rest ≡ int_rem_euclid n (pos 2 *ℤ den) → (pos 2 *ℤ rest) ≤ℤ den
    → IsTurned n den (record { negative = false; num = unsigned_abs rest; den = unsigned_abs den })
turned_first n (negsuc d) rest p s e h = absurd p.le
turned_first n (pos d) rest p s e h =
    let b = rest_of n rest d (omega (arith, ints)) e in
    at b.0 b.1
  where
    at : (r : ℕ) → rest ≡ pos r → IsTurned n (pos d) (record { negative = false; num = unsigned_abs rest; den = d })
    at r is =
        let positive : 0 < d = omega (arith, ints) in
        let quarter : 2 * r ≤ d = omega (arith, ints) in
        subst (λ z. IsTurned n (pos d) (record { negative = false; num = unsigned_abs z; den = d })) (sym is)
        (record {
          denominator = refl;
          wrapped_reference = wrapped_is n d r (record { negative = false; num = r; den = d }) positive (sym e ∙ is) (in_first r d positive quarter);
          reference = record { positive = positive; small = omega (arith, ints); quarter = quarter };
        })

pub turned_second : (n den rest : ℤ) → pos 1 ≤ℤ den → den ≤ℤ pos (2 ^ 42) → rest ≡ int_rem_euclid n (pos 2 *ℤ den) → den <ℤ (pos 2 *ℤ rest)
    → rest ≤ℤ den → IsTurned n den (record { negative = false; num = unsigned_abs (den -ℤ rest); den = unsigned_abs den })
turned_second n (negsuc d) rest p s e l h = absurd p.le
turned_second n (pos d) rest p s e l h =
    let b = rest_of n rest d (omega (arith, ints)) e in
    at b.0 b.1
  where
    at : (r : ℕ) → rest ≡ pos r → IsTurned n (pos d) (record { negative = false; num = unsigned_abs (pos d -ℤ rest); den = d })
    at r is =
        let positive : 0 < d = omega (arith, ints) in
        let below : d < 2 * r = omega (arith, ints) in
        let above : r ≤ d = omega (arith, ints) in
        let m = unsigned_abs (pos d -ℤ rest) in
        let m_is : pos (unsigned_abs (pos d -ℤ rest)) ≡ pos d -ℤ pos r = omega (arith, ints) in
        record {
          denominator = refl;
          wrapped_reference = wrapped_is n d r (record { negative = false; num = m; den = d }) positive (sym e ∙ is)
              (in_second r d positive m below above m_is);
          reference = record { positive = positive; small = omega (arith, ints); quarter = omega (arith, ints) };
        }

pub turned_third : (n den rest : ℤ) → pos 1 ≤ℤ den → den ≤ℤ pos (2 ^ 42) → rest ≡ int_rem_euclid n (pos 2 *ℤ den) → den <ℤ rest
    → (pos 2 *ℤ rest) ≤ℤ (pos 3 *ℤ den) → IsTurned n den (record { negative = true; num = unsigned_abs (rest -ℤ den); den = unsigned_abs den })
turned_third n (negsuc d) rest p s e l h = absurd p.le
turned_third n (pos d) rest p s e l h =
    let b = rest_of n rest d (omega (arith, ints)) e in
    at b.0 b.1
  where
    at : (r : ℕ) → rest ≡ pos r → IsTurned n (pos d) (record { negative = true; num = unsigned_abs (rest -ℤ pos d); den = d })
    at r is =
        let positive : 0 < d = omega (arith, ints) in
        let below : d < r = omega (arith, ints) in
        let above : 2 * r ≤ 3 * d = omega (arith, ints) in
        let m = unsigned_abs (rest -ℤ pos d) in
        let m_is : pos (unsigned_abs (rest -ℤ pos d)) ≡ pos r -ℤ pos d = omega (arith, ints) in
        record {
          denominator = refl;
          wrapped_reference = wrapped_is n d r (record { negative = true; num = m; den = d }) positive (sym e ∙ is) (in_third r d positive m below above m_is);
          reference = record { positive = positive; small = omega (arith, ints); quarter = omega (arith, ints) };
        }

pub turned_fourth : (n den rest : ℤ) → pos 1 ≤ℤ den → den ≤ℤ pos (2 ^ 42) → rest ≡ int_rem_euclid n (pos 2 *ℤ den)
    → (pos 3 *ℤ den) <ℤ (pos 2 *ℤ rest) → IsTurned n den (record { negative = true; num = unsigned_abs (pos 2 *ℤ den -ℤ rest); den = unsigned_abs den })
turned_fourth n (negsuc d) rest p s e l = absurd p.le
turned_fourth n (pos d) rest p s e l =
    let b = rest_of n rest d (omega (arith, ints)) e in
    at b.0 b.1 b.2
  where
    at : (r : ℕ) → rest ≡ pos r → r < 2 * d → IsTurned n (pos d) (record { negative = true; num = unsigned_abs (pos 2 *ℤ pos d -ℤ rest); den = d })
    at r is inside =
        let positive : 0 < d = omega (arith, ints) in
        let below : 3 * d < 2 * r = omega (arith, ints) in
        let m = unsigned_abs (pos 2 *ℤ pos d -ℤ rest) in
        let m_is : pos (unsigned_abs (pos 2 *ℤ pos d -ℤ rest)) ≡ pos 2 *ℤ pos d -ℤ pos r = omega (arith, ints) in
        record {
          denominator = refl;
          wrapped_reference = wrapped_is n d r (record { negative = true; num = m; den = d }) positive (sym e ∙ is) (in_fourth r d positive m below m_is);
          reference = record { positive = positive; small = omega (arith, ints); quarter = omega (arith, ints) };
        }

-- the sign and the numerator of an answer
pub record IsAnswer (n den : ℤ) (answer : Bool × ℤ) : Type 0 where
  pub nonneg : pos 0 ≤ℤ answer.1
  pub turned : IsTurned n den (record { negative = answer.0; num = unsigned_abs answer.1; den = unsigned_abs den })

pub answer_fits : (n den : ℤ) (answer : Bool × ℤ) → den ≤ℤ pos (2 ^ 42) → IsAnswer n den answer → FitsSigned w128 answer.1
answer_fits n den answer s h =
    let quarter = h.turned.reference.quarter in
    let small = h.turned.reference.small in
    fits_signed_from_abs w128 answer.1 (omega arith)
