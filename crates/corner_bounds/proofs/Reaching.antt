-- What the bounds of a function's value say of it at a corner of a box.
use Rattle.std.proofs.Common.{◌≡◌, refl, sym, ap, ap₂, ◌∙◌, subst, subst₂, ℕ, ◌+◌, ◌-◌, ◌*◌, ◌^◌, ◌≤◌, ℤ, pos, ◌+ℤ◌, ◌≤ℤ◌, [], ◌∷◌, arith, mul-le-mul_right}
use Rattle.std.proofs.Math.Pow.{pow_mono}
use Rattle.std.proofs.lemmas.Nat.{pow-add, pow_pos}
use Rattle.ring_solver.specs.Expression.{var, num, ◌⊞◌, ◌⊠◌}
use Rattle.ring_solver.specs.Ordered.{le, times}
use Rattle.ring_solver.proofs.Solver.{ring₁, ring₂}
use Rattle.ring_solver.proofs.Certificate.{certified, at_most_of_same}
use Rattle.rat_core.specs.Fraction.{ℚ, ◌÷◌, whole, ◌+ℚ◌, ◌*ℚ◌, ◌≤ℚ◌}
use Rattle.rat_core.proofs.Laws.{ℚ_ring, ℚ_ordered, int-add, int-mul, over-mul}
use Rattle.rat_core.proofs.Order.{int_le, int_le_back, whole_nonneg, whole_le, cancel, cancel_le}
use Rattle.exp_sums.specs.FormalPoint.{FormalPoint}
use Rattle.exp_sums.specs.Limits.{weight}
use Rattle.exp_sums.specs.Bend.{bend}
use Rattle.trig_meaning.specs.FromSomeOn.{FromSomeOn}
use Rattle.trig_meaning.specs.PartialSums.{pi_sum}
use Rattle.trig_meaning.specs.Value.{value_at}
use Rattle.trig_meaning.proofs.FromSomeOnLaws.{onward_both, somewhere}
use Rattle.trig_meaning.proofs.PiSums.{five_pi_at_most_sixteen, pi_sum_nonneg}
use Rattle.rational_polygon.specs.Square.{Square}
use Rattle.directed_fixed.specs.Ends.{Ends, Encloses}
use Rattle.gradient_bounds.specs.Clear.{slack, margin}
use Rattle.gradient_bounds.specs.CornerClear.{sag}
use Rattle.gradient_bounds.specs.Decision.{margin_units}
use Rattle.gradient_bounds.proofs.Margins.{slack_units}
use Rattle.corner_bounds.proofs.Sags.{IsPiAt, IsSag, sag_above, sag_below}

-- the square of half the side
half_square : (level : ℕ) → (pos 1 ÷ 2 ^ (level + 1)) *ℚ (pos 1 ÷ 2 ^ (level + 1)) ≡ pos 1 ÷ 2 ^ (2 * level + 2)
half_square level =
    let h = pos 1 ÷ 2 ^ (level + 1) in
    let k = whole (2 ^ (level + 1)) in
    let exponent : 2 * level + 2 ≡ (level + 1) + (level + 1) = omega arith in
    let parts : whole (2 ^ (2 * level + 2)) ≡ k *ℚ k = ap (λ e. whole (2 ^ e)) exponent ∙ ap whole (pow-add 2 (level + 1) (level + 1))
    ∙ int-mul (pos (2 ^ (level + 1))) (pos (2 ^ (level + 1))) in
    let one : h *ℚ k ≡ whole 1 = over-mul (pos 1) (2 ^ (level + 1)) (pow_pos (level + 1)) in
    cancel (2 ^ (2 * level + 2)) (pow_pos (2 * level + 2)) (h *ℚ h) (pos 1 ÷ 2 ^ (2 * level + 2))
    (ap (λ z. h *ℚ h *ℚ z) parts ∙ ring₂ ℚ_ring (λ h k. (h ⊠ h) ⊠ (k ⊠ k)) (λ h k. (h ⊠ k) ⊠ (h ⊠ k)) refl h k ∙ ap₂ ◌*ℚ◌ one one
    ∙ ring₁ ℚ_ring (λ x. num 1 ⊠ num 1) (λ x. num 1) refl h ∙ sym (over-mul (pos 1) (2 ^ (2 * level + 2)) (pow_pos (2 * level + 2))))

-- a margin in units
margin_is : (bits low w : ℕ) → low ≤ bits → slack low *ℚ whole (1 + w) *ℚ whole (2 ^ bits) ≡ whole (2 ^ (bits - low) * (1 + w))
margin_is bits low w h = slack_units bits low (whole (1 + w)) h ∙ sym (int-mul (pos (2 ^ (bits - low))) (pos (1 + w)))

-- what is known of a function at a corner: its sag D and its margin M in units, and an interval for its value
pub record IsSeen (bits low : ℕ) (L H : ℤ) (box : Square) (f : FormalPoint) (x y : ℚ) (D M : ℤ) (r : Ends) : Type 0 where
  pub one_unit : H ≡ L +ℤ pos 1
  pub pi : FromSomeOn (λ n. Encloses bits (record { lo = L; hi = H }) (pi_sum n))
  pub room : low + 8 ≤ bits
  pub deep : 10 ≤ box.level
  pub bent : bend f ≤ 33800 * weight f
  pub is_sag : IsSag bits H box.level (bend f) D
  pub is_margin : M ≡ margin_units bits low (weight f)
  pub encloses : FromSomeOn (λ n. Encloses bits r (value_at n f x y))
  pub narrow : r.hi ≤ℤ (r.lo +ℤ pos (512 * weight f))

module _ (bits low : ℕ) (L H : ℤ) (box : Square) (f : FormalPoint) (x y : ℚ) (D M : ℤ) (r : Ends) (seen : IsSeen bits low L H box f x y D M r) where
  abbrev u : ℚ
  u = whole (2 ^ bits)

  abbrev w : ℕ
  w = weight f

  pi_at : FromSomeOn (λ n. IsPiAt bits L H (pi_sum n))
  pi_at = onward_both (λ n e small. record { low = e.low; high = e.high; one_unit = seen.one_unit; nonneg = small.0; small = small.1 }) seen.pi sizes
    where
      sizes : FromSomeOn (λ n. (whole 0 ≤ℚ pi_sum n) × (whole 5 *ℚ pi_sum n ≤ℚ whole 16))
      sizes = (16, λ n h. (pi_sum_nonneg n h, five_pi_at_most_sixteen n h))

  sag_is : (n : ℕ) → whole 2 *ℚ (pi_sum n *ℚ pi_sum n) *ℚ (whole (bend f) *ℚ (pos 1 ÷ 2 ^ (2 * box.level + 2))) ≡ sag n box f
  sag_is n = ap (λ z. whole 2 *ℚ (pi_sum n *ℚ pi_sum n) *ℚ (whole (bend f) *ℚ z)) (sym (half_square box.level))

  -- bounds that reach both say that the value does ..
  pub seen_reaches : (D +ℤ M) ≤ℤ r.lo → FromSomeOn (λ n. sag n box f +ℚ margin (slack low) f ≤ℚ value_at n f x y)
  seen_reaches reach = onward_both at pi_at seen.encloses
    where
      at : (n : ℕ) → IsPiAt bits L H (pi_sum n) → Encloses bits r (value_at n f x y) → sag n box f +ℚ margin (slack low) f ≤ℚ value_at n f x y
      at n pi e =
          let v = value_at n f x y in
          let m = margin (slack low) f in
          let narrow : low ≤ bits = omega (arith, seen.room) in
          let above : sag n box f *ℚ u ≤ℚ D ÷ 1 = subst (λ z. z *ℚ u ≤ℚ D ÷ 1) (sag_is n)
          (sag_above bits L H D (pi_sum n) box.level (bend f) pi seen.is_sag) in
          let margin_at : m *ℚ u ≤ℚ M ÷ 1 = at_most_of_same ℚ_ordered (margin_is bits low w narrow ∙ ap (λ z. z ÷ 1) (sym seen.is_margin)) in
          let sum : D ÷ 1 +ℚ M ÷ 1 ≤ℚ r.lo ÷ 1 = subst (λ z. z ≤ℚ r.lo ÷ 1) (int-add D M) (int_le (D +ℤ M) r.lo reach) in
          cancel_le (2 ^ bits) (pow_pos bits) (sag n box f +ℚ m) v
          (certified ℚ_ordered (sag n box f ∷ m ∷ u ∷ (D ÷ 1) ∷ (M ÷ 1) ∷ (r.lo ÷ 1) ∷ v ∷ []) ((var 0 ⊞ var 1) ⊠ var 2) (var 6 ⊠ var 2)
          (le (var 0 ⊠ var 2) (var 3) ∷ le (var 1 ⊠ var 2) (var 4) ∷ le (var 3 ⊞ var 4) (var 5) ∷ le (var 5) (var 6 ⊠ var 2) ∷ []) refl
          (above, (margin_at, (sum, (e.low, tt)))))

  -- .. and those of a value that reaches them with a slack sixteen times as wide do
  pub reaches_seen : 4 ≤ low → FromSomeOn (λ n. sag n box f +ℚ margin (slack (low - 4)) f ≤ℚ value_at n f x y) → (D +ℤ M) ≤ℤ r.lo
  reaches_seen some clear = found (somewhere (onward_both (λ n pi k. (pi, k)) pi_at (onward_both (λ n e k. (e, k)) seen.encloses clear)))
    where
      wide : (bits low w : ℕ) → low + 8 ≤ bits → 4 ≤ low → 2 ^ (bits - low) * (1 + w) + (513 * w + 1) ≤ 2 ^ (bits - (low - 4)) * (1 + w)
      wide bits low w room some =
          let exponent : bits - (low - 4) ≡ bits - low + 4 = omega arith in
          let split : 2 ^ (bits - (low - 4)) ≡ 2 ^ (bits - low) * 2 ^ 4 = ap (λ e. 2 ^ e) exponent ∙ pow-add 2 (bits - low) 4 in
          let least : 8 ≤ bits - low = omega arith in
          let many : 2 ^ 8 ≤ 2 ^ (bits - low) = pow_mono least in
          let unit : 2 ^ 8 * (1 + w) ≤ 2 ^ (bits - low) * (1 + w) = mul-le-mul_right (1 + w) many in
          let same : 2 ^ (bits - low) * 2 ^ 4 * (1 + w) ≡ 16 * (2 ^ (bits - low) * (1 + w)) = grind arith in
          let all : 2 ^ (bits - (low - 4)) * (1 + w) ≡ 16 * (2 ^ (bits - low) * (1 + w)) = ap (λ z. z * (1 + w)) split ∙ same in
          omega (arith, unit, all)

      found : (n : ℕ) × (IsPiAt bits L H (pi_sum n) × (Encloses bits r (value_at n f x y) × (sag n box f +ℚ margin (slack (low - 4)) f ≤ℚ value_at n f x y)))
          → (D +ℤ M) ≤ℤ r.lo
      found (n, (pi, (e, k))) =
          let v = value_at n f x y in
          let m = margin (slack (low - 4)) f in
          let W = whole w in
          let narrow : low - 4 ≤ bits = omega (arith, seen.room) in
          let below : D ÷ 1 ≤ℚ sag n box f *ℚ u +ℚ (W +ℚ whole 1) = subst (λ z. D ÷ 1 ≤ℚ z *ℚ u +ℚ (W +ℚ whole 1)) (sag_is n)
          (sag_below bits L H D (pi_sum n) box.level (bend f) pi seen.is_sag w seen.bent seen.deep) in
          let room : M ÷ 1 +ℚ (whole 513 *ℚ W +ℚ whole 1) ≤ℚ m *ℚ u =
          subst₂ ◌≤ℚ◌ (int-add (pos (2 ^ (bits - low) * (1 + w))) (pos (513 * w + 1)) ∙ ap₂ ◌+ℚ◌ (ap (λ z. z ÷ 1) (sym seen.is_margin))
          (int-add (pos (513 * w)) (pos 1) ∙ ap (λ z. z +ℚ whole 1) (int-mul (pos 513) (pos w)))) (sym (margin_is bits (low - 4) w narrow))
          (whole_le (2 ^ (bits - low) * (1 + w) + (513 * w + 1)) (2 ^ (bits - (low - 4)) * (1 + w)) (wide bits low w seen.room some)) in
          let width : r.hi ÷ 1 ≤ℚ r.lo ÷ 1 +ℚ whole 512 *ℚ W = subst (λ z. r.hi ÷ 1 ≤ℚ z) (int-add r.lo (pos (512 * w)) ∙ ap (λ z. r.lo ÷ 1 +ℚ z)
          (int-mul (pos 512) (pos w))) (int_le r.hi (r.lo +ℤ pos (512 * w)) seen.narrow) in
          int_le_back (D +ℤ M) r.lo (subst (λ z. z ≤ℚ r.lo ÷ 1) (sym (int-add D M))
          (certified ℚ_ordered (sag n box f ∷ m ∷ u ∷ (D ÷ 1) ∷ (M ÷ 1) ∷ (r.lo ÷ 1) ∷ v ∷ (r.hi ÷ 1) ∷ W ∷ []) (var 3 ⊞ var 4) (var 5)
          (le (var 3) (var 0 ⊠ var 2 ⊞ (var 8 ⊞ num 1)) ∷ le (var 4 ⊞ (num 513 ⊠ var 8 ⊞ num 1)) (var 1 ⊠ var 2) ∷ times (var 2) (var 0 ⊞ var 1) (var 6)
          ∷ le (var 6 ⊠ var 2) (var 7) ∷ le (var 7) (var 5 ⊞ num 512 ⊠ var 8) ∷ [])
          refl (below, (room, (whole_nonneg (2 ^ bits), k, (e.high, (width, tt)))))))
