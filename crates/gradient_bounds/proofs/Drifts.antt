-- Thresholds in units: the drift of a function in a neighbourhood, rounded up, and its margin.
use Rattle.std.proofs.Common.{◌≡◌, refl, sym, ap, ◌∙◌, subst, subst₂, ℕ, ◌+◌, ◌-◌, ◌*◌, ◌^◌, ◌<◌, ◌≤◌, ℤ, pos, negsuc, ◌+ℤ◌, ◌*ℤ◌, ◌≤ℤ◌, ◌<ℤ◌}
use Rattle.std.proofs.Common.{unsigned_abs, [], ◌∷◌, arith, mul-le-mul_right}
use Rattle.std.proofs.Math.Pow.{pow_mono}
use Rattle.std.proofs.lemmas.Int.{ints}
use Rattle.std.proofs.lemmas.Nat.{pow-add, pow_pos}
use Rattle.ring_solver.specs.Expression.{num, ◌⊞◌, ◌⊠◌}
use Rattle.ring_solver.specs.Ordered.{le, times}
use Rattle.ring_solver.proofs.Solver.{ring₃, ring₄}
use Rattle.ring_solver.proofs.Certificate.{le₃, le₅, le₆, moved, at_most_of_same}
use Rattle.rat_core.specs.Fraction.{ℚ, ◌÷◌, whole, ◌+ℚ◌, ◌*ℚ◌, ◌≤ℚ◌}
use Rattle.rat_core.proofs.Laws.{ℚ_ring, ℚ_ordered, add_assoc, add_mono, le_trans, over-mul, over_le, int-add, int-mul, mul_nonneg}
use Rattle.rat_core.proofs.Order.{int_le, whole_le, whole_nonneg, over_nonneg, cancel_le}
use Rattle.exp_sums.specs.FormalPoint.{FormalPoint}
use Rattle.exp_sums.specs.Limits.{weight}
use Rattle.exp_sums.specs.Reach.{reach}
use Rattle.trig_meaning.specs.PartialSums.{pi_sum}
use Rattle.trig_meaning.specs.FromSomeOn.{FromSomeOn}
use Rattle.trig_meaning.proofs.FromSomeOnLaws.{onward}
use Rattle.directed_fixed.specs.Rounding.{IsCeiling}
use Rattle.directed_fixed.specs.Ends.{Encloses}
use Rattle.gradient_bounds.specs.Clear.{slack}
use Rattle.gradient_bounds.specs.Neighbourhood.{threshold_of}
use Rattle.gradient_bounds.proofs.Margins.{slack_units}

-- ---- radii

-- a radius is from 0 to 1
radius_between : (p : ℤ) (d : ℕ) → 0 < d → pos 0 ≤ℤ p → p ≤ℤ pos 1 → (whole 0 ≤ℚ p ÷ d) × (p ÷ d ≤ℚ whole 1)
radius_between (pos k) d h low high = (over_nonneg k d, over_le (pos k) (pos 1) d 1 h (omega arith) (below k d h high))
  where
    below : (k d : ℕ) → 0 < d → pos k ≤ℤ pos 1 → (pos k *ℤ pos 1) ≤ℤ (pos 1 *ℤ pos d)
    below k d h l = omega (arith, ints)
radius_between (negsuc k) d h low high = absurd low.le

-- ---- the drift

-- what is rounded, as fractions
product_over : (h : ℤ) (r : ℕ) (p : ℤ) (d : ℕ) → 0 < d → ((h ÷ 1) *ℚ (whole r *ℚ (p ÷ d))) *ℚ whole d ≡ (h *ℤ (pos r *ℤ p)) ÷ 1
product_over h r p d positive =
    ring₄ ℚ_ring (λ h r q d. (h ⊠ (r ⊠ q)) ⊠ d) (λ h r q d. h ⊠ (r ⊠ (q ⊠ d))) refl (h ÷ 1) (whole r) (p ÷ d) (whole d)
    ∙ ap (λ t. (h ÷ 1) *ℚ (whole r *ℚ t)) (over-mul p d positive)
    ∙ ap (λ t. (h ÷ 1) *ℚ t) (sym (int-mul (pos r) p))
    ∙ sym (int-mul h (pos r *ℤ p))

-- the drift rounded up is at least h·r·p/d ..
rounded_above : (h : ℤ) (r : ℕ) (p D : ℤ) (d : ℕ) → 0 < d → IsCeiling D (h *ℤ (pos r *ℤ p)) (pos d) → (h ÷ 1) *ℚ (whole r *ℚ (p ÷ d)) ≤ℚ D ÷ 1
rounded_above h r p D d positive ceiling =
    cancel_le d positive ((h ÷ 1) *ℚ (whole r *ℚ (p ÷ d))) (D ÷ 1)
    (subst₂ ◌≤ℚ◌ (sym (product_over h r p d positive)) (int-mul D (pos d)) (int_le (h *ℤ (pos r *ℤ p)) (D *ℤ pos d) ceiling.at_least))

-- .. and at most one unit more
rounded_below : (h : ℤ) (r : ℕ) (p D : ℤ) (d : ℕ) → 0 < d → IsCeiling D (h *ℤ (pos r *ℤ p)) (pos d) → D ÷ 1 ≤ℚ (h ÷ 1) *ℚ (whole r *ℚ (p ÷ d)) +ℚ whole 1
rounded_below h r p D d positive ceiling =
    let exact = (h ÷ 1) *ℚ (whole r *ℚ (p ÷ d)) in
    let product = h *ℤ (pos r *ℤ p) in
    let near : (D *ℤ pos d) ÷ 1 ≤ℚ (product +ℤ pos d) ÷ 1 = int_le (D *ℤ pos d) (product +ℤ pos d) (weaker (D *ℤ pos d) (product +ℤ pos d) ceiling.near) in
    let parts : (product +ℤ pos d) ÷ 1 ≡ exact *ℚ whole d +ℚ whole d = int-add product (pos d)
    ∙ ap (λ t. t +ℚ whole d) (sym (product_over h r p d positive)) in
    let scaled : (D ÷ 1) *ℚ whole d ≤ℚ exact *ℚ whole d +ℚ whole d = subst₂ ◌≤ℚ◌ (int-mul D (pos d)) parts near in
    cancel_le d positive (D ÷ 1) (exact +ℚ whole 1) (le₃ ℚ_ordered (λ D e d. D ⊠ d) (λ D e d. (e ⊞ num 1) ⊠ d) (λ D e d. le (D ⊠ d) (e ⊠ d ⊞ d) ∷
    []) refl (D ÷ 1) exact (whole d) (scaled, tt))
  where
    weaker : (a b : ℤ) → a <ℤ b → a ≤ℤ b
    weaker a b h = omega (arith, ints)

-- what is known of a drift D, for pi between the units L and H
pub record IsDrift (L H D : ℤ) (r w : ℕ) (p : ℤ) (d : ℕ) : Type 0 where
  pub positive : 0 < d
  pub at_least : pos 0 ≤ℤ p
  pub at_most : p ≤ℤ pos 1
  pub slow : r ≤ 260 * w
  pub one_unit : H ≡ L +ℤ pos 1
  pub ceiling : IsCeiling D (H *ℤ (pos r *ℤ p)) (pos d)

pub drift_of : (L H D : ℤ) (r w : ℕ) (p den : ℤ) → pos 1 ≤ℤ den → pos 0 ≤ℤ p → p ≤ℤ pos 1 → r ≤ 260 * w → H ≡ L +ℤ pos 1
    → IsCeiling D (H *ℤ (pos r *ℤ p)) den → IsDrift L H D r w p (unsigned_abs den)
drift_of L H D r w p (pos d) positive low high slow unit ceiling = record
    { positive = omega (arith, ints); at_least = low; at_most = high; slow = slow; one_unit = unit; ceiling = ceiling }
drift_of L H D r w p (negsuc d) positive low high slow unit ceiling = absurd positive.le

-- reach times radius is at least 0, and at most 260 for each unit of weight
spread_between : (L H D : ℤ) (r w : ℕ) (p : ℤ) (d : ℕ) → IsDrift L H D r w p d → (whole 0 ≤ℚ whole r *ℚ (p ÷ d)) × (whole r *ℚ (p ÷ d) ≤ℚ whole (260 * w))
spread_between L H D r w p d h =
    let radius = radius_between p d h.positive h.at_least h.at_most in (
      mul_nonneg (whole r) (p ÷ d) (whole_nonneg r) radius.0,
      le₃ ℚ_ordered (λ r q m. r ⊠ q) (λ r q m. m) (λ r q m. times r q (num 1) ∷ le r m ∷ []) refl (whole r) (p ÷ d) (whole (260 * w))
          (whole_nonneg r, radius.1, (whole_le r (260 * w) h.slow, tt)),
    )

-- the exact drift is at most the rounded one ..
drift_at_most : (bits : ℕ) (L H D : ℤ) (r w : ℕ) (p : ℤ) (d : ℕ) (s : ℚ) → IsDrift L H D r w p d → Encloses bits (record { lo = L; hi = H }) s
    → (s *ℚ (whole r *ℚ (p ÷ d))) *ℚ whole (2 ^ bits) ≤ℚ D ÷ 1
drift_at_most bits L H D r w p d s h pi =
    let t = whole r *ℚ (p ÷ d) in
    le₅ ℚ_ordered (λ s t u H D. (s ⊠ t) ⊠ u) (λ s t u H D. D) (λ s t u H D. times t (s ⊠ u) H ∷ le (H ⊠ t) D ∷ []) refl s t (whole (2 ^ bits)) (H ÷ 1) (D ÷ 1)
    ((spread_between L H D r w p d h).0, pi.high, (rounded_above H r p D d h.positive h.ceiling, tt))

-- .. which is at most 260 units and one more above it, for each unit of weight
drift_near : (bits : ℕ) (L H D : ℤ) (r w : ℕ) (p : ℤ) (d : ℕ) (s : ℚ) → IsDrift L H D r w p d → Encloses bits (record { lo = L; hi = H }) s
    → D ÷ 1 ≤ℚ (s *ℚ (whole r *ℚ (p ÷ d))) *ℚ whole (2 ^ bits) +ℚ whole (260 * w + 1)
drift_near bits L H D r w p d s h pi =
    let t = whole r *ℚ (p ÷ d) in
    let spread = spread_between L H D r w p d h in
    let upper : H ÷ 1 ≡ L ÷ 1 +ℚ whole 1 = ap (λ z. z ÷ 1) h.one_unit ∙ int-add L (pos 1) in
    let rounded : D ÷ 1 ≤ℚ (L ÷ 1 +ℚ whole 1) *ℚ t +ℚ whole 1 = subst (λ z. D ÷ 1 ≤ℚ z *ℚ t +ℚ whole 1) upper
    (rounded_below H r p D d h.positive h.ceiling) in
    let room : whole (260 * w) +ℚ whole 1 ≤ℚ whole (260 * w + 1) = at_most_of_same ℚ_ordered (sym (int-add (pos (260 * w)) (pos 1))) in
    le_trans (D ÷ 1) ((s *ℚ t) *ℚ whole (2 ^ bits) +ℚ (whole (260 * w) +ℚ whole 1)) ((s *ℚ t) *ℚ whole (2 ^ bits) +ℚ whole (260 * w + 1))
    (le₆ ℚ_ordered (λ s t u L D m. D) (λ s t u L D m. (s ⊠ t) ⊠ u ⊞ (m ⊞ num 1))
    (λ s t u L D m. le D ((L ⊞ num 1) ⊠ t ⊞ num 1) ∷ times t L (s ⊠ u) ∷ le t m ∷ []) refl
    s t (whole (2 ^ bits)) (L ÷ 1) (D ÷ 1) (whole (260 * w)) (rounded, (spread.0, pi.low, (spread.1, tt))))
    (add_mono ((s *ℚ t) *ℚ whole (2 ^ bits)) (whole (260 * w) +ℚ whole 1) (whole (260 * w + 1)) room)

-- ---- sizes

-- ---- thresholds

-- one unit of the wider slack is 4,096 of the narrower: more than the room for rounding, and twice the error of a number
wide_slack_exceeds : (bits low high w : ℕ) → high + 12 ≤ low → low ≤ bits → 260 * w + 1 + 2 ^ (bits - low) * (1 + w) + 512 * w ≤ 2 ^ (bits - high) * (1 + w)
wide_slack_exceeds bits low high w h k =
    let more : 2 ^ (bits - low + 12) ≤ 2 ^ (bits - high) = pow_mono (omega arith) in
    let split : 2 ^ (bits - low + 12) ≡ 2 ^ (bits - low) * 2 ^ 12 = pow-add 2 (bits - low) 12 in
    let unit : 1 ≤ 2 ^ (bits - low) = pow_pos (bits - low) in
    let wide : 2 ^ (bits - low) * 4096 * (1 + w) ≤ 2 ^ (bits - high) * (1 + w) = mul-le-mul_right (1 + w) (omega arith) in
    let one : 1 * (1 + w) ≤ 2 ^ (bits - low) * (1 + w) = mul-le-mul_right (1 + w) unit in
    omega arith

-- a margin in units
margin_in_units : (bits low w : ℕ) → low ≤ bits → slack low *ℚ whole (1 + w) *ℚ whole (2 ^ bits) ≡ whole (2 ^ (bits - low) * (1 + w))
margin_in_units bits low w h = slack_units bits low (whole (1 + w)) h ∙ sym (int-mul (pos (2 ^ (bits - low))) (pos (1 + w)))

-- the drift and the margin together are enough ..
pub threshold_enough : (bits low : ℕ) (L H D M : ℤ) (f : FormalPoint) (p : ℤ) (d : ℕ) → low ≤ bits → M ≡ pos (2 ^ (bits - low) * (1 + weight f))
    → IsDrift L H D (reach f) (weight f) p d → FromSomeOn (λ n. Encloses bits (record { lo = L; hi = H }) (pi_sum n))
    → FromSomeOn (λ n. threshold_of n (p ÷ d) (slack low) f *ℚ whole (2 ^ bits) ≤ℚ (D +ℤ M) ÷ 1)
threshold_enough bits low L H D M f p d room M_is h pi = onward at pi
  where
    at : (n : ℕ) → Encloses bits (record { lo = L; hi = H }) (pi_sum n) → threshold_of n (p ÷ d) (slack low) f *ℚ whole (2 ^ bits) ≤ℚ (D +ℤ M) ÷ 1
    at n e =
        let u = whole (2 ^ bits) in
        let a = pi_sum n *ℚ (whole (reach f) *ℚ (p ÷ d)) in
        let m = slack low *ℚ whole (1 + weight f) in
        let drift : a *ℚ u ≤ℚ D ÷ 1 = drift_at_most bits L H D (reach f) (weight f) p d (pi_sum n) h e in
        let margin : m *ℚ u ≤ℚ M ÷ 1 = at_most_of_same ℚ_ordered (margin_in_units bits low (weight f) room ∙ ap (λ z. z ÷ 1) (sym M_is)) in
        subst (λ t. (a +ℚ m) *ℚ u ≤ℚ t) (sym (int-add D M))
        (le₅ ℚ_ordered (λ a m u D M. (a ⊞ m) ⊠ u) (λ a m u D M. D ⊞ M) (λ a m u D M. le (a ⊠ u) D ∷ le (m ⊠ u) M ∷ []) refl a m u (D ÷ 1) (M ÷ 1)
        (drift, (margin, tt)))

-- .. and so little that what the wider slack asks for exceeds them by twice the error of a number
pub threshold_little : (bits low high : ℕ) (L H D M : ℤ) (f : FormalPoint) (p : ℤ) (d : ℕ) → high + 12 ≤ low → low ≤ bits
    → M ≡ pos (2 ^ (bits - low) * (1 + weight f)) → IsDrift L H D (reach f) (weight f) p d
    → FromSomeOn (λ n. Encloses bits (record { lo = L; hi = H }) (pi_sum n))
    → FromSomeOn (λ n. (D +ℤ M +ℤ pos (512 * weight f)) ÷ 1 ≤ℚ threshold_of n (p ÷ d) (slack high) f *ℚ whole (2 ^ bits))
threshold_little bits low high L H D M f p d apart room M_is h pi = onward at pi
  where
    at : (n : ℕ) → Encloses bits (record { lo = L; hi = H }) (pi_sum n)
        → (D +ℤ M +ℤ pos (512 * weight f)) ÷ 1 ≤ℚ threshold_of n (p ÷ d) (slack high) f *ℚ whole (2 ^ bits)
    at n e =
        let w = weight f in
        let u = whole (2 ^ bits) in
        let a = pi_sum n *ℚ (whole (reach f) *ℚ (p ÷ d)) in
        let m = slack high *ℚ whole (1 + w) in
        let near : D ÷ 1 ≤ℚ a *ℚ u +ℚ whole (260 * w + 1) = drift_near bits L H D (reach f) w p d (pi_sum n) h e in
        let wide : whole (260 * w + 1) +ℚ (M ÷ 1 +ℚ whole (512 * w)) ≤ℚ m *ℚ u =
        subst₂ ◌≤ℚ◌ (added (260 * w + 1) (2 ^ (bits - low) * (1 + w)) (512 * w)
        ∙ ap (λ z. whole (260 * w + 1) +ℚ (z ÷ 1 +ℚ whole (512 * w))) (sym M_is)) (sym (margin_in_units bits high w (omega arith)))
        (whole_le (260 * w + 1 + 2 ^ (bits - low) * (1 + w) + 512 * w) (2 ^ (bits - high) * (1 + w)) (wide_slack_exceeds bits low high w apart room))
        in
        subst (λ t. t ≤ℚ (a +ℚ m) *ℚ u) (sym (int-add (D +ℤ M) (pos (512 * w)) ∙ ap (λ t. t +ℚ whole (512 * w)) (int-add D M)))
        (sum_below (D ÷ 1) (M ÷ 1) (whole (512 * w)) (whole (260 * w + 1)) a m u near wide)
      where
        added : (x y z : ℕ) → whole (x + y + z) ≡ whole x +ℚ (whole y +ℚ whole z)
        added x y z = int-add (pos (x + y)) (pos z) ∙ ap (λ t. t +ℚ whole z) (int-add (pos x) (pos y)) ∙ add_assoc (whole x) (whole y) (whole z)

        sum_below : (D M v k a m u : ℚ) → D ≤ℚ a *ℚ u +ℚ k → k +ℚ (M +ℚ v) ≤ℚ m *ℚ u → D +ℚ M +ℚ v ≤ℚ (a +ℚ m) *ℚ u
        sum_below D M v k a m u near wide =
            moved ℚ_ordered (sym (add_assoc D M v)) (mul-add' a m u)
            (le₅ ℚ_ordered (λ D s k x y. D ⊞ s) (λ D s k x y. x ⊞ y) (λ D s k x y. le D (x ⊞ k) ∷ le (k ⊞ s) y ∷ []) refl D (M +ℚ v) k (a *ℚ u)
            (m *ℚ u) (near, (wide, tt)))
          where
            mul-add' : (a m u : ℚ) → a *ℚ u +ℚ m *ℚ u ≡ (a +ℚ m) *ℚ u
            mul-add' = ring₃ ℚ_ring (λ a m u. a ⊠ u ⊞ m ⊠ u) (λ a m u. (a ⊞ m) ⊠ u) refl
