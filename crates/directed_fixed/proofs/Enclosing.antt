-- What an interval encloses, after each operation.
use Rattle.std.proofs.Common.{◌≡◌, refl, sym, subst, subst₂, ◌∙◌, ℕ, ◌<◌, ◌^◌, ℤ, pos, negsuc, ◌*ℤ◌, ◌≤ℤ◌, [], ◌∷◌, arith}
use Rattle.std.proofs.lemmas.Int.{ints, clamps}
use Rattle.std.proofs.lemmas.Nat.{pow_pos}
use Rattle.std.specs.Int.{int_min, int_max}
use Rattle.ring_solver.specs.Expression.{◌⊞◌, ◌⊟◌, ◌⊠◌, opp}
use Rattle.ring_solver.specs.Ordered.{le, times}
use Rattle.ring_solver.proofs.Solver.{ring₃}
use Rattle.ring_solver.proofs.Certificate.{le₄, le₅, mul_mono}
use Rattle.ring_solver.proofs.Whole.{≤ℤ_trans}
use Rattle.rat_core.specs.Fraction.{ℚ, ◌÷◌, ◌+ℚ◌, ◌-ℚ◌, ◌*ℚ◌, ◌≤ℚ◌, whole}
use Rattle.rat_core.proofs.Laws.{ℚ_ring, ℚ_ordered, int-add, int-mul, int-sub, le_trans, lt_le, le_or_lt, mul_assoc, mul_comm}
use Rattle.rat_core.proofs.Order.{int_le, int_le_back, cancel_le, neg_nonneg}
use Rattle.directed_fixed.specs.Rounding.{IsFloor, IsCeiling}
use Rattle.directed_fixed.specs.Ends.{Ends, Encloses, sum_of, difference_of, multiple_of, least_product, greatest_product}

-- m is at most k·x for x between a and b, if it is so at both ends ..
below_between : (m k a b x : ℚ) → a ≤ℚ x → x ≤ℚ b → m ≤ℚ k *ℚ a → m ≤ℚ k *ℚ b → m ≤ℚ k *ℚ x
below_between m k a b x p q h h' =
    le_or_lt (whole 0) k
    (λ s. le_trans m (k *ℚ a) (k *ℚ x) h (mul_mono ℚ_ordered k a x s p))
    (λ s. le₄ ℚ_ordered (λ m k b x. m) (λ m k b x. k ⊠ x) (λ m k b x. le m (k ⊠ b) ∷ times (opp k) x b ∷ []) refl m k b x
    (h', (neg_nonneg k (lt_le k (whole 0) s), q, tt)))

-- .. and at least
above_between : (m k a b x : ℚ) → a ≤ℚ x → x ≤ℚ b → k *ℚ a ≤ℚ m → k *ℚ b ≤ℚ m → k *ℚ x ≤ℚ m
above_between m k a b x p q h h' =
    le_or_lt (whole 0) k
    (λ s. le_trans (k *ℚ x) (k *ℚ b) m (mul_mono ℚ_ordered k x b s q) h')
    (λ s. le₄ ℚ_ordered (λ m k a x. k ⊠ x) (λ m k a x. m) (λ m k a x. le (k ⊠ a) m ∷ times (opp k) a x ∷ []) refl m k a x
    (h, (neg_nonneg k (lt_le k (whole 0) s), p, tt)))

int_min_left : (a b : ℤ) → int_min a b ≤ℤ a
int_min_left a b = omega (arith, ints, clamps)

int_min_right : (a b : ℤ) → int_min a b ≤ℤ b
int_min_right a b = omega (arith, ints, clamps)

int_max_left : (a b : ℤ) → a ≤ℤ int_max a b
int_max_left a b = omega (arith, ints, clamps)

int_max_right : (a b : ℤ) → b ≤ℤ int_max a b
int_max_right a b = omega (arith, ints, clamps)

-- the least product is at most each product, and the greatest at least
pub products_between : (x y : Ends) →
    ((least_product x y ≤ℤ (x.lo *ℤ y.lo)) × (least_product x y ≤ℤ (x.lo *ℤ y.hi)) × (least_product x y ≤ℤ (x.hi *ℤ y.lo))
    × (least_product x y ≤ℤ (x.hi *ℤ y.hi)))
    × (((x.lo *ℤ y.lo) ≤ℤ greatest_product x y) × ((x.lo *ℤ y.hi) ≤ℤ greatest_product x y) × ((x.hi *ℤ y.lo) ≤ℤ greatest_product x y)
    × ((x.hi *ℤ y.hi) ≤ℤ greatest_product x y))
products_between x y =
    let a = x.lo *ℤ y.lo in
    let b = x.lo *ℤ y.hi in
    let c = x.hi *ℤ y.lo in
    let d = x.hi *ℤ y.hi in
    let low = int_min_left (int_min a b) (int_min c d) in
    let low' = int_min_right (int_min a b) (int_min c d) in
    let high = int_max_left (int_max a b) (int_max c d) in
    let high' = int_max_right (int_max a b) (int_max c d) in (
      (
        ≤ℤ_trans _ _ _ low (int_min_left a b),
        ≤ℤ_trans _ _ _ low (int_min_right a b),
        ≤ℤ_trans _ _ _ low' (int_min_left c d),
        ≤ℤ_trans _ _ _ low'
            (int_min_right c d),
      ),
      (
        ≤ℤ_trans _ _ _ (int_max_left a b) high,
        ≤ℤ_trans _ _ _ (int_max_right a b) high,
        ≤ℤ_trans _ _ _ (int_max_left c d) high',
        ≤ℤ_trans _ _ _
            (int_max_right c d) high',
      ),
    )

-- a whole number below a product of whole numbers, as fractions, and one above
below_product : (m a b : ℤ) → m ≤ℤ (a *ℤ b) → m ÷ 1 ≤ℚ (a ÷ 1) *ℚ (b ÷ 1)
below_product m a b h = subst (λ t. m ÷ 1 ≤ℚ t) (int-mul a b) (int_le m (a *ℤ b) h)

above_product : (m a b : ℤ) → (a *ℤ b) ≤ℤ m → (a ÷ 1) *ℚ (b ÷ 1) ≤ℚ m ÷ 1
above_product m a b h = subst (λ t. t ≤ℚ m ÷ 1) (int-mul a b) (int_le (a *ℤ b) m h)

module _ (bits : ℕ) where
  pub sum_encloses : (x y : Ends) (u v : ℚ) → Encloses bits x u → Encloses bits y v → Encloses bits (sum_of x y) (u +ℚ v)
  sum_encloses x y u v h k =
      record {
        low = subst (λ t. t ≤ℚ (u +ℚ v) *ℚ whole (2 ^ bits)) (sym (int-add x.lo y.lo))
            (le₅ ℚ_ordered (λ a b u v p. a ⊞ b) (λ a b u v p. (u ⊞ v) ⊠ p) (λ a b u v p. le a (u ⊠ p) ∷ le b (v ⊠ p) ∷ []) refl (x.lo ÷ 1)
            (y.lo ÷ 1) u v (whole (2 ^ bits)) (h.low, (k.low, tt)));
        high = subst (λ t. (u +ℚ v) *ℚ whole (2 ^ bits) ≤ℚ t) (sym (int-add x.hi y.hi))
            (le₅ ℚ_ordered (λ a b u v p. (u ⊞ v) ⊠ p) (λ a b u v p. a ⊞ b) (λ a b u v p. le (u ⊠ p) a ∷ le (v ⊠ p) b ∷ []) refl (x.hi ÷ 1)
            (y.hi ÷ 1) u v (whole (2 ^ bits)) (h.high, (k.high, tt)));
      }

  pub difference_encloses : (x y : Ends) (u v : ℚ) → Encloses bits x u → Encloses bits y v → Encloses bits (difference_of x y) (u -ℚ v)
  difference_encloses x y u v h k =
      record {
        low = subst (λ t. t ≤ℚ (u -ℚ v) *ℚ whole (2 ^ bits)) (sym (int-sub x.lo y.hi))
            (le₅ ℚ_ordered (λ a b u v p. a ⊟ b) (λ a b u v p. (u ⊟ v) ⊠ p) (λ a b u v p. le a (u ⊠ p) ∷ le (v ⊠ p) b ∷ []) refl (x.lo ÷ 1)
            (y.hi ÷ 1) u v (whole (2 ^ bits)) (h.low, (k.high, tt)));
        high = subst (λ t. (u -ℚ v) *ℚ whole (2 ^ bits) ≤ℚ t) (sym (int-sub x.hi y.lo))
            (le₅ ℚ_ordered (λ a b u v p. (u ⊟ v) ⊠ p) (λ a b u v p. a ⊟ b) (λ a b u v p. le (u ⊠ p) a ∷ le b (v ⊠ p) ∷ []) refl (x.hi ÷ 1)
            (y.lo ÷ 1) u v (whole (2 ^ bits)) (h.high, (k.low, tt)));
      }

  pub multiple_encloses : (c : ℤ) (x : Ends) (u : ℚ) → Encloses bits x u → Encloses bits (multiple_of c x) (c ÷ 1 *ℚ u)
  multiple_encloses c x u h =
      let least = int_min (c *ℤ x.lo) (c *ℤ x.hi) in
      let greatest = int_max (c *ℤ x.lo) (c *ℤ x.hi) in
      let scaled = mul_assoc (c ÷ 1) u (whole (2 ^ bits)) in
      record {
        low = subst (λ t. least ÷ 1 ≤ℚ t) (sym scaled)
            (below_between (least ÷ 1) (c ÷ 1) (x.lo ÷ 1) (x.hi ÷ 1) (u *ℚ whole (2 ^ bits)) h.low h.high
            (below_product least c x.lo (int_min_left (c *ℤ x.lo) (c *ℤ x.hi))) (below_product least c x.hi (int_min_right (c *ℤ x.lo) (c *ℤ x.hi))));
        high = subst (λ t. t ≤ℚ greatest ÷ 1) (sym scaled)
            (above_between (greatest ÷ 1) (c ÷ 1) (x.lo ÷ 1) (x.hi ÷ 1) (u *ℚ whole (2 ^ bits)) h.low h.high
            (above_product greatest c x.lo (int_max_left (c *ℤ x.lo) (c *ℤ x.hi))) (above_product greatest c x.hi (int_max_right (c *ℤ x.lo) (c *ℤ x.hi))));
      }

  pub quotient_encloses : (x r : Ends) (d : ℤ) (v : ℚ) → pos 1 ≤ℤ d → IsFloor r.lo x.lo d → IsCeiling r.hi x.hi d → Encloses bits x (v *ℚ (d ÷ 1))
      → Encloses bits r v
  quotient_encloses x r (pos d) v p low high h =
      let moved : (v *ℚ whole d) *ℚ whole (2 ^ bits) ≡ (v *ℚ whole (2 ^ bits)) *ℚ whole d = ring₃ ℚ_ring (λ v d p. (v ⊠ d) ⊠ p) (λ v d p.
      (v ⊠ p) ⊠ d) refl v (whole d) (whole (2 ^ bits)) in
      let positive : 0 < d = omega (arith, ints) in
      record {
        low = cancel_le d positive (r.lo ÷ 1) (v *ℚ whole (2 ^ bits))
            (subst₂ ◌≤ℚ◌ (int-mul r.lo (pos d)) moved (le_trans ((r.lo *ℤ pos d) ÷ 1) (x.lo ÷ 1) ((v *ℚ whole d) *ℚ whole (2 ^ bits))
            (int_le (r.lo *ℤ pos d) x.lo low.at_most) h.low));
        high = cancel_le d positive (v *ℚ whole (2 ^ bits)) (r.hi ÷ 1)
            (subst₂ ◌≤ℚ◌ moved (int-mul r.hi (pos d)) (le_trans ((v *ℚ whole d) *ℚ whole (2 ^ bits)) (x.hi ÷ 1) ((r.hi *ℤ pos d) ÷ 1) h.high
            (int_le x.hi (r.hi *ℤ pos d) high.at_least)));
      }
  quotient_encloses x r (negsuc d) v p low high h = absurd p.le

  pub product_encloses : (x y r : Ends) (u v : ℚ) → IsFloor r.lo (least_product x y) (pos (2 ^ bits))
      → IsCeiling r.hi (greatest_product x y) (pos (2 ^ bits)) → Encloses bits x u → Encloses bits y v → Encloses bits r (u *ℚ v)
  product_encloses x y r u v low high h k =
      let p = whole (2 ^ bits) in
      let m = least_product x y in
      let n = greatest_product x y in
      let between = products_between x y in
      let moved : (u *ℚ p) *ℚ (v *ℚ p) ≡ ((u *ℚ v) *ℚ p) *ℚ p = ring₃ ℚ_ring (λ u v p. (u ⊠ p) ⊠ (v ⊠ p)) (λ u v p. ((u ⊠ v) ⊠ p) ⊠ p) refl u v p in
      let turned = λ (a : ℤ). mul_comm (a ÷ 1) (v *ℚ p) in
      let at_least : m ÷ 1 ≤ℚ (v *ℚ p) *ℚ (u *ℚ p) =
      below_between (m ÷ 1) (v *ℚ p) (x.lo ÷ 1) (x.hi ÷ 1) (u *ℚ p) h.low h.high
      (subst (λ t. m ÷ 1 ≤ℚ t) (turned x.lo) (below_between (m ÷ 1) (x.lo ÷ 1) (y.lo ÷ 1) (y.hi ÷ 1) (v *ℚ p) k.low k.high
      (below_product m x.lo y.lo between.0.0) (below_product m x.lo y.hi between.0.1)))
      (subst (λ t. m ÷ 1 ≤ℚ t) (turned x.hi) (below_between (m ÷ 1) (x.hi ÷ 1) (y.lo ÷ 1) (y.hi ÷ 1) (v *ℚ p) k.low k.high
      (below_product m x.hi y.lo between.0.2) (below_product m x.hi y.hi between.0.3)))
      in
      let at_most : (v *ℚ p) *ℚ (u *ℚ p) ≤ℚ n ÷ 1 =
      above_between (n ÷ 1) (v *ℚ p) (x.lo ÷ 1) (x.hi ÷ 1) (u *ℚ p) h.low h.high
      (subst (λ t. t ≤ℚ n ÷ 1) (turned x.lo) (above_between (n ÷ 1) (x.lo ÷ 1) (y.lo ÷ 1) (y.hi ÷ 1) (v *ℚ p) k.low k.high
      (above_product n x.lo y.lo between.1.0) (above_product n x.lo y.hi between.1.1)))
      (subst (λ t. t ≤ℚ n ÷ 1) (turned x.hi) (above_between (n ÷ 1) (x.hi ÷ 1) (y.lo ÷ 1) (y.hi ÷ 1) (v *ℚ p) k.low k.high
      (above_product n x.hi y.lo between.1.2) (above_product n x.hi y.hi between.1.3)))
      in
      let all : (v *ℚ p) *ℚ (u *ℚ p) ≡ ((u *ℚ v) *ℚ p) *ℚ p = mul_comm (v *ℚ p) (u *ℚ p) ∙ moved in
      record {
        low = cancel_le (2 ^ bits) (pow_pos bits) (r.lo ÷ 1) ((u *ℚ v) *ℚ p)
            (subst₂ ◌≤ℚ◌ (int-mul r.lo (pos (2 ^ bits))) all
            (le_trans ((r.lo *ℤ pos (2 ^ bits)) ÷ 1) (m ÷ 1) ((v *ℚ p) *ℚ (u *ℚ p)) (int_le (r.lo *ℤ pos (2 ^ bits)) m low.at_most) at_least));
        high = cancel_le (2 ^ bits) (pow_pos bits) ((u *ℚ v) *ℚ p) (r.hi ÷ 1)
            (subst₂ ◌≤ℚ◌ all (int-mul r.hi (pos (2 ^ bits)))
            (le_trans ((v *ℚ p) *ℚ (u *ℚ p)) (n ÷ 1) ((r.hi *ℤ pos (2 ^ bits)) ÷ 1) at_most (int_le n (r.hi *ℤ pos (2 ^ bits)) high.at_least)));
      }

  -- an interval that encloses a fraction has its ends in order
  pub in_order : (x : Ends) (v : ℚ) → Encloses bits x v → x.lo ≤ℤ x.hi
  in_order x v h = int_le_back x.lo x.hi (le_trans (x.lo ÷ 1) (v *ℚ whole (2 ^ bits)) (x.hi ÷ 1) h.low h.high)
