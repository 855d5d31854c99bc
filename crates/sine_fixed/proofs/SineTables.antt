-- The sine of an angle by the tables of its two parts.
use Rattle.std.proofs.Common.{◌≡◌, refl, sym, ap, ap₂, ◌∙◌, subst, ℕ, ◌+◌, ◌-◌, ◌*◌, ◌%◌, ◌^◌, ◌<◌, ◌≤◌, List, [], ◌∷◌, ◌++◌, length, length-append}
use Rattle.std.proofs.Common.{slice_index_or, ℤ, pos, ◌+ℤ◌, ◌-ℤ◌, ◌*ℤ◌, ◌≤ℤ◌, unsigned_abs, FitsSigned, inl, inr, lit<, arith, zero, suc, mul-le-mul_left}
use Rattle.std.specs.Int.{w64, int_rem_euclid}
use Rattle.std.proofs.Math.ListN.{get_or-append}
use Rattle.std.proofs.Math.Pow.{pow_mono}
use Rattle.std.proofs.Math.Seq.{get_or-append_seam}
use Rattle.std.proofs.lemmas.Bool.{cases_lt}
use Rattle.std.proofs.lemmas.Int.{ints, fits_signed_from_abs}
use Rattle.ring_solver.specs.Expression.{var, num, ◌⊞◌, ◌⊟◌, ◌⊠◌, opp}
use Rattle.ring_solver.specs.Ordered.{le, times}
use Rattle.ring_solver.proofs.Solver.{ring, ring₂, ring₃}
use Rattle.ring_solver.proofs.Certificate.{certified, moved}
use Rattle.rat_core.specs.Fraction.{ℚ, ◌÷◌, whole, ◌+ℚ◌, ◌-ℚ◌, ◌*ℚ◌, neg_ℚ, ◌≤ℚ◌, abs}
use Rattle.rat_core.proofs.Laws.{ℚ_ring, ℚ_ordered, over-mul, int-add, int-mul, le_trans}
use Rattle.rat_core.proofs.Order.{int_le_back, whole_le, whole_nonneg, cancel, over_common, le_abs, neg_le_abs}
use Rattle.rat_core.proofs.Sizes.{abs_swap}
use Rattle.rat_core.proofs.Wrapped.{wrapped-over}
use Rattle.exp_sums.specs.declared.direction.Dir.{Dir}
use Rattle.exp_sums.specs.Limits.{IsNear}
use Rattle.trig_meaning.specs.FromSomeOn.{FromSomeOn}
use Rattle.trig_meaning.specs.Turn.{sine_within_turn, sine_of_turn}
use Rattle.trig_meaning.specs.Value.{turn_of}
use Rattle.trig_meaning.proofs.FromSomeOnLaws.{onward}
use Rattle.trig_meaning.proofs.Addition.{adds, sine_bounded}
use Rattle.trig_meaning.proofs.Coordinates.{cosine_is_even}
use Rattle.trig_meaning.proofs.Pieces.{sine_is_odd_lem}
use Rattle.trig_meaning.proofs.Quarters.{eight_fifths_at_most_two}
use Rattle.directed_fixed.proofs.Rounding.{product_size}
use Rattle.directed_fixed.specs.Rounding.{IsFloor}
use Rattle.directed_fixed.specs.Ends.{Encloses}
use Rattle.sine_fixed.specs.declared.sine_cosine.SineCosine.{SineCosine}
use Rattle.sine_fixed.specs.Near.{one}
use Rattle.sine_fixed.specs.ReferenceAngle.{ReferenceAngle, sine_of}
use Rattle.sine_fixed.specs.SineTables.{IsClose, IsCloseSine, IsSineCosine, AreMultiples, half_turn}
use Rattle.sine_fixed.proofs.Turning.{numerator_nonneg, numerator_within, numerator_over}
use Rattle.sine_fixed.proofs.Bounded.{at_most_one}
use Rattle.sine_fixed.proofs.TwoProducts.{two_products_close, shifted_low}

-- ---- tables

-- one entry more
pub one_multiple_more : (d n : ℕ) (entries : List SineCosine) (x : SineCosine) → AreMultiples d n entries → IsSineCosine (pos n ÷ d) x
    → AreMultiples d (n + 1) (entries ++ x ∷ [])
one_multiple_more d n entries x h is = record {
  count = omega (arith, h.count, length-append entries (x ∷ []));
  each = λ i z below. elim (cases_lt i n) [
    | inl earlier ↦
        subst (IsSineCosine (pos i ÷ d)) (sym (get_or-append entries (x ∷ []) z i (omega (arith, earlier, h.count)))) (h.each i z earlier)
    | inr last ↦
        let i_is : n ≡ i = omega (arith, last, below) in
        let i_is_end : i ≡ length entries = omega (arith, last, below, h.count) in
        let here : slice_index_or (entries ++ x ∷ []) i z ≡ x =
        ap (λ j. slice_index_or (entries ++ x ∷ []) j z) i_is_end ∙ get_or-append_seam entries x [] z
        in
        subst (IsSineCosine (pos i ÷ d)) (sym here) (subst (λ j. IsSineCosine (pos j ÷ d) x) i_is is)
  ];
}

-- the entry that was read
pub entry_read : (d : ℕ) (entries : List SineCosine) (e : SineCosine) (i j : ℕ) → AreMultiples d (2 ^ 11) entries → e ≡ slice_index_or entries i e
    → i ≡ j → j < 2 ^ 11 → IsSineCosine (pos j ÷ d) e
entry_read d entries e i j h read same below =
    subst (IsSineCosine (pos j ÷ d)) (sym (read ∙ ap (λ k. slice_index_or entries k e) same)) (h.each j e below)

-- a number for the sine of a reference angle is one for each angle that has it
pub close_turned : (t : ℚ) (a : ReferenceAngle) (x : ℤ) → ((n : ℕ) → sine_of_turn n t ≡ sine_of n a) → FromSomeOn (λ n. IsClose x (sine_of n a))
    → unsigned_abs x ≤ 2 ^ 61 → IsCloseSine t x
close_turned t a x same close size = record { close = onward (λ n h. subst (IsClose x) (sym (same n)) h) close; size = size }

-- ---- angles

-- a fraction in parts of half a turn
pub in_parts_of_half : (a den factor : ℕ) → 0 < den → factor * den ≡ half_turn → pos (factor * a) ÷ half_turn ≡ pos a ÷ den
in_parts_of_half a den factor positive is =
    let some : 0 < factor = some_factor factor is in
    let all : den * factor ≡ half_turn = mul_comm den factor ∙ is in
    ap (λ d. pos (factor * a) ÷ d) (sym all) ∙ ap (λ n. pos n ÷ (den * factor)) (mul_comm factor a) ∙ over_common (pos a) den factor positive some
  where
    some_factor : (f : ℕ) → f * den ≡ half_turn → 0 < f
    some_factor zero e = absurd (omega (arith, e))
    some_factor (suc f) e = omega arith

    mul_comm : (m n : ℕ) → m * n ≡ n * m
    mul_comm m n = omega arith

pub parts_within : (a den factor : ℕ) → factor * den ≡ half_turn → a ≤ den → factor * a ≤ half_turn
parts_within a den factor is within = let room : factor * a ≤ factor * den = mul-le-mul_left factor within in omega (arith, room, is)

-- a fraction from 0 to 1 as it is written
pub numerator_is : (X : ℤ) (d : ℕ) → 0 < d → whole 0 ≤ℚ X ÷ d → X ÷ d ≤ℚ whole 1 → (X ≡ pos (unsigned_abs X)) × (unsigned_abs X ≤ d)
numerator_is X d p least most =
    let nonneg = numerator_nonneg X d p least in
    let within = numerator_within X d p most in
    (omega (arith, ints), omega (arith, ints))

-- `mx + ny` in parts of half a turn
pub record IsPartsOfTurn (d : Dir) (x y : ℕ) (z : ℤ) : Type 0 where
  pub turn : z ÷ half_turn ≡ turn_of d (pos x ÷ half_turn) (pos y ÷ half_turn)
  pub size : unsigned_abs z ≤ 2 ^ 40

-- what the machine computes of it fits
pub record PartsFit (p q : ℤ) : Type 0 where
  pub first : FitsSigned w64 p
  pub second : FitsSigned w64 q
  pub sum : FitsSigned w64 (p +ℤ q)

pub parts_of_turn : (d : Dir) (x y : ℕ) → IsNear 4096 d → x ≤ half_turn → y ≤ half_turn
    → PartsFit (d.m *ℤ pos x) (d.n *ℤ pos y) × IsPartsOfTurn d x y (d.m *ℤ pos x +ℤ d.n *ℤ pos y)
parts_of_turn d x y near x_small y_small =
    let first : unsigned_abs (d.m *ℤ pos x) ≤ 4096 * 2 ^ 21 = product_size d.m (pos x) 4096 (2 ^ 21) near.m x_small in
    let second : unsigned_abs (d.n *ℤ pos y) ≤ 4096 * 2 ^ 21 = product_size d.n (pos y) 4096 (2 ^ 21) near.n y_small in
    let sum = sum_small (d.m *ℤ pos x) (d.n *ℤ pos y) first second in (
      record {
        first = fits_signed_from_abs w64 (d.m *ℤ pos x) (omega (arith, first));
        second = fits_signed_from_abs w64 (d.n *ℤ pos y) (omega (arith, second));
        sum = fits_signed_from_abs w64 (d.m *ℤ pos x +ℤ d.n *ℤ pos y) (omega (arith, sum));
      },
      record { turn = numerator_over d.m d.n (pos x) (pos y) half_turn (lit< tt); size = omega (arith, sum) },
    )
  where
    sum_small : (p q : ℤ) → unsigned_abs p ≤ 4096 * 2 ^ 21 → unsigned_abs q ≤ 4096 * 2 ^ 21 → unsigned_abs (p +ℤ q) ≤ 4096 * 2 ^ 22
    sum_small p q h k = omega (arith, ints, h, k)

-- a step and a part of it
sum_over : (i j place : ℕ) → place ≡ 2 ^ 11 * i + j → pos i ÷ 2 ^ 10 +ℚ pos j ÷ half_turn ≡ pos place ÷ half_turn
sum_over i j place is =
    let step : pos i ÷ 2 ^ 10 *ℚ whole half_turn ≡ whole (i * 2 ^ 11) =
    ap (λ t. pos i ÷ 2 ^ 10 *ℚ t) (int-mul (pos (2 ^ 10)) (pos (2 ^ 11)))
    ∙ ring₃ ℚ_ring (λ x a b. x ⊠ (a ⊠ b)) (λ x a b. x ⊠ a ⊠ b) refl (pos i ÷ 2 ^ 10) (whole (2 ^ 10)) (whole (2 ^ 11))
    ∙ ap (λ t. t *ℚ whole (2 ^ 11)) (over-mul (pos i) (2 ^ 10) (lit< tt)) ∙ sym (int-mul (pos i) (pos (2 ^ 11)))
    in
    let all : i * 2 ^ 11 + j ≡ place = omega (arith, is) in
    cancel half_turn (lit< tt) (pos i ÷ 2 ^ 10 +ℚ pos j ÷ half_turn) (pos place ÷ half_turn)
    (ring₃ ℚ_ring (λ x y d. (x ⊞ y) ⊠ d) (λ x y d. x ⊠ d ⊞ y ⊠ d) refl (pos i ÷ 2 ^ 10) (pos j ÷ half_turn) (whole half_turn)
    ∙ ap₂ ◌+ℚ◌ step (over-mul (pos j) half_turn (lit< tt)) ∙ sym (int-add (pos (i * 2 ^ 11)) (pos j)) ∙ ap whole all
    ∙ sym (over-mul (pos place) half_turn (lit< tt)))

-- whole turns do not count
sine_of_place : (n : ℕ) (parts : ℤ) (place : ℕ) → int_rem_euclid parts (pos (2 * half_turn)) ≡ pos place → place < 2 * half_turn
    → sine_of_turn n (parts ÷ half_turn) ≡ sine_of_turn n (pos place ÷ half_turn)
unfolding sine_of_turn
sine_of_place n parts place is below =
    let rest : place % (2 * half_turn) ≡ place = omega (arith, below) in
    ap (sine_within_turn n)
    (wrapped-over parts half_turn (lit< tt) ∙ ap (λ z. z ÷ half_turn) (is ∙ sym (ap pos rest)) ∙ sym (wrapped-over (pos place) half_turn (lit< tt)))

-- ---- the sine

-- the law of addition, for the sum of two angles
sum_of_angles : (n : ℕ) → 20 ≤ n → (a b : ℚ) → (let s = sine_of_turn n in let q = pos 1 ÷ 2 in
    abs (s (a +ℚ b) -ℚ (s a *ℚ s (b +ℚ q) +ℚ s (a +ℚ q) *ℚ s b)) ≤ℚ pos 1 ÷ 2 ^ 66)
sum_of_angles n late a b =
    let s = λ (t : ℚ). sine_of_turn n t in
    let q = pos 1 ÷ 2 in
    let t = neg_ℚ b in
    let sum : a -ℚ t ≡ a +ℚ b = ring₂ ℚ_ring (λ a b. a ⊟ opp b) (λ a b. a ⊞ b) refl a b in
    moved ℚ_ordered
    (ap₂ (λ c x. abs (c *ℚ s a -ℚ x *ℚ s (a +ℚ q) -ℚ s (a -ℚ t))) (cosine_is_even n b) (sine_is_odd_lem n b)
    ∙ ap (λ x. abs (s (b +ℚ q) *ℚ s a -ℚ neg_ℚ (s b) *ℚ s (a +ℚ q) -ℚ s x)) sum
    ∙ ap (λ x. abs (x -ℚ s (a +ℚ b)))
    (ring ℚ_ring (s a ∷ s (b +ℚ q) ∷ s (a +ℚ q) ∷ s b ∷ []) (var 1 ⊠ var 0 ⊟ opp (var 3) ⊠ var 2) (var 0 ⊠ var 1 ⊞ var 2 ⊠ var 3) refl)
    ∙ abs_swap (s a *ℚ s (b +ℚ q) +ℚ s (a +ℚ q) *ℚ s b) (s (a +ℚ b))) refl
    (adds n late t a)

-- The shifted sum of two products is a number for the sine of an angle of i steps and j parts.
pub tables_enclose : (bits : ℕ) (parts : ℤ) (i j place : ℕ) (step part : SineCosine) (low : ℤ) → bits ≤ 60
    → int_rem_euclid parts (pos (2 * half_turn)) ≡ pos place → place < 2 * half_turn → place ≡ 2 ^ 11 * i + j
    → IsSineCosine (pos i ÷ 2 ^ 10) step → IsSineCosine (pos j ÷ half_turn) part
    → IsFloor low (step.sine *ℤ part.cosine +ℤ step.cosine *ℤ part.sine -ℤ pos (121 * 2 ^ 60)) (pos (2 ^ (120 - bits)))
    → FromSomeOn (λ n. Encloses bits (record { lo = low; hi = low +ℤ pos 256 }) (sine_of_turn n (parts ÷ half_turn)))
tables_enclose bits parts i j place step part low room is below split h k floor = (start, from)
  where
    start : ℕ
    start = 20 + h.sine.close.0 + h.cosine.close.0 + k.sine.close.0 + k.cosine.close.0

    from : (n : ℕ) → start ≤ n → Encloses bits (record { lo = low; hi = low +ℤ pos 256 }) (sine_of_turn n (parts ÷ half_turn))
    from n l =
        let s = λ (t : ℚ). sine_of_turn n t in
        let q = pos 1 ÷ 2 in
        let a = pos i ÷ 2 ^ 10 in
        let b = pos j ÷ half_turn in
        let late : 20 ≤ n = omega (arith, l) in
        let value : s (parts ÷ half_turn) ≡ s (a +ℚ b) = sine_of_place n parts place is below ∙ ap s (sym (sum_over i j place split)) in
        subst (Encloses bits (record { lo = low; hi = low +ℤ pos 256 })) (sym value)
        (shifted_low bits (s (a +ℚ b)) (step.sine *ℤ part.cosine +ℤ step.cosine *ℤ part.sine) low room
        (two_products_close (s a) (s (b +ℚ q)) (s (a +ℚ q)) (s b) (s (a +ℚ b)) step.sine part.cosine step.cosine part.sine
        (at_most_one n late a) (at_most_one n late (b +ℚ q)) (at_most_one n late (a +ℚ q)) (at_most_one n late b)
        (h.sine.close.1 n (omega (arith, l))) (k.cosine.close.1 n (omega (arith, l))) (h.cosine.close.1 n (omega (arith, l)))
        (k.sine.close.1 n (omega (arith, l))) (sum_of_angles n late a b))
        floor)

-- so such a number is small
pub low_small : (bits : ℕ) (low : ℤ) (t : ℚ) → bits ≤ 60
    → FromSomeOn (λ n. Encloses bits (record { lo = low; hi = low +ℤ pos 256 }) (sine_of_turn n t)) → unsigned_abs low ≤ 2 ^ 62
low_small bits low t room h =
    let n = 20 + h.0 in
    let v = sine_of_turn n t in
    let unit = whole (2 ^ bits) in
    let L = low ÷ 1 in
    let size : abs v ≤ℚ whole 2 = le_trans (abs v) (pos 8 ÷ 5) (whole 2) (sine_bounded n (omega arith) t) eight_fifths_at_most_two in
    let encloses = h.1 n (omega arith) in
    let unit_small : unit ≤ℚ one = whole_le (2 ^ bits) (2 ^ 60) (pow_mono room) in
    let unit_nonneg : whole 0 ≤ℚ unit = whole_nonneg (2 ^ bits) in
    let twice : whole 2 *ℚ one ≡ whole (2 ^ 61) = sym (int-mul (pos 2) (pos (2 ^ 60))) in
    let above : low ≤ℤ pos (2 ^ 61) =
    int_le_back low (pos (2 ^ 61))
    (moved ℚ_ordered refl twice
    (certified ℚ_ordered (L ∷ v ∷ unit ∷ one ∷ abs v ∷ []) (var 0) (num 2 ⊠ var 3)
    (le (var 0) (var 1 ⊠ var 2) ∷ times (var 2) (var 1) (var 4) ∷ times (var 2) (var 4) (num 2) ∷ times (num 2) (var 2) (var 3) ∷ []) refl
    (encloses.low, (unit_nonneg, le_abs v, (unit_nonneg, size, (whole_nonneg 2, unit_small, tt))))))
    in
    let upper : v *ℚ unit ≤ℚ L +ℚ whole 256 = moved ℚ_ordered refl (int-add low (pos 256)) encloses.high in
    let below : pos 0 ≤ℤ (low +ℤ pos 256 +ℤ pos (2 ^ 61)) =
    int_le_back (pos 0) (low +ℤ pos 256 +ℤ pos (2 ^ 61))
    (moved ℚ_ordered refl (ap₂ ◌+ℚ◌ (sym (int-add low (pos 256))) twice ∙ sym (int-add (low +ℤ pos 256) (pos (2 ^ 61))))
    (certified ℚ_ordered (L ∷ v ∷ unit ∷ one ∷ abs v ∷ []) (num 0) (var 0 ⊞ num 256 ⊞ num 2 ⊠ var 3)
    (le (var 1 ⊠ var 2) (var 0 ⊞ num 256) ∷ times (var 2) (opp (var 1)) (var 4) ∷ times (var 2) (var 4) (num 2) ∷ times (num 2) (var 2) (var 3) ∷ []) refl
    (upper, (unit_nonneg, neg_le_abs v, (unit_nonneg, size, (whole_nonneg 2, unit_small, tt))))))
    in
    within low above below
  where
    within : (z : ℤ) → z ≤ℤ pos (2 ^ 61) → pos 0 ≤ℤ (z +ℤ pos 256 +ℤ pos (2 ^ 61)) → unsigned_abs z ≤ 2 ^ 62
    within z above below = omega (arith, ints)
