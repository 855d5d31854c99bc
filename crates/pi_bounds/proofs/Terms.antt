-- The loop over the terms of an arctangent series, which is kept 1024 times as large.
use Rattle.std.proofs.Common.{◌≡◌, refl, sym, subst, subst₂, ap, ◌∙◌, ℕ, zero, suc, ◌+◌, ◌*◌, ◌^◌, ◌%◌, ◌<◌, ◌≤◌, cond, pos, ◌+ℤ◌, ◌≤ℤ◌, eqb, arith}
use Rattle.std.proofs.Common.{lit<, lit≤, mul-pos}
use Rattle.std.proofs.Math.Nat.{pow-suc, pow-zero, one-le-pow, mod-lt, mod-eq_of_lt}
use Rattle.std.proofs.Math.Pow.{pow_mono}
use Rattle.std.proofs.lemmas.Int.{ints, to_z_pos}
use Rattle.std.specs.Int.{w128, cast_signed}
use Rattle.ring_solver.specs.Expression.{num, ◌⊞◌, ◌⊟◌, ◌⊠◌, opp}
use Rattle.ring_solver.proofs.Solver.{ring₁, ring₂, ring₃}
use Rattle.rat_core.specs.Fraction.{ℚ, ◌÷◌, whole, ◌+ℚ◌, ◌-ℚ◌, ◌*ℚ◌, neg_ℚ, ◌≤ℚ◌}
use Rattle.rat_core.proofs.Laws.{ℚ_ring, over-mul, mul-one, int-mul, le_refl}
use Rattle.rat_core.proofs.Order.{over_part}
use Rattle.trig_meaning.specs.PartialSums.{sign, arctan_sum, pi_sum}
use Rattle.directed_fixed.specs.Rounding.{IsFloor, IsCeiling}
use Rattle.directed_fixed.specs.Ends.{Ends, Encloses, IsWithin, difference_of, multiple_of}
use Rattle.directed_fixed.proofs.Sizes.{quotient_width, quotient_within, multiple_within, difference_within, multiple_width, difference_width, within_more}
use Rattle.pi_bounds.specs.Narrow.{IsNarrow}

-- what holds after the term j: the power is 1/k^(2j + 1), and the sum is the series cut after j
pub record SoFar (bits k j : ℕ) (power sum : Ends) : Type 0 where
  pub power_encloses : Encloses bits power (whole 1024 *ℚ (pos 1 ÷ k ^ (2 * j + 1)))
  pub power_narrow : IsNarrow power
  pub sum_encloses : Encloses bits sum (whole 1024 *ℚ arctan_sum k j)
  pub sum_width : sum.hi ≤ℤ (sum.lo +ℤ pos (2 * (j + 1)))
  pub sum_size : IsWithin (2 ^ 70 * (j + 1)) sum

-- 1/(a·b), times a, is 1/b, also with a factor before
part_of : (c : ℚ) (a b : ℕ) → 0 < a → 0 < b → c *ℚ (pos 1 ÷ (a * b)) *ℚ whole a ≡ c *ℚ (pos 1 ÷ b)
part_of c a b p q =
    ring₃ ℚ_ring (λ c x a. (c ⊠ x) ⊠ a) (λ c x a. c ⊠ (x ⊠ a)) refl c (pos 1 ÷ (a * b)) (whole a) ∙ ap (λ t. c *ℚ t) (over_part (pos 1) a b p q)

-- odd powers
first_power : (k : ℕ) → k ^ 1 ≡ k
first_power k =
    let power : k ^ 1 ≡ k ^ 0 * k = pow-suc k zero in
    let unit : k ^ 0 ≡ 1 = pow-zero k in
    let plain : k ^ 0 * k ≡ 1 * k = ap (λ t. t * k) unit in
    power ∙ plain ∙ (omega arith)

next_power : (k j : ℕ) → k ^ (2 * suc j + 1) ≡ k * k * k ^ (2 * j + 1)
next_power k j =
    let odd : 2 * suc j + 1 ≡ suc (suc (2 * j + 1)) = omega arith in
    let twice : k ^ suc (suc (2 * j + 1)) ≡ k ^ suc (2 * j + 1) * k = pow-suc k (suc (2 * j + 1)) in
    let once : k ^ suc (2 * j + 1) * k ≡ k ^ (2 * j + 1) * k * k = ap (λ t. t * k) (pow-suc k (2 * j + 1)) in
    ap (λ t. k ^ t) odd ∙ twice ∙ once ∙ (omega arith)

-- the sign of the term after j
sign_next : (j : ℕ) → (j % 2 ≡ 0 → sign (suc j) ≡ neg_ℚ (whole 1)) × (j % 2 ≡ 1 → sign (suc j) ≡ whole 1)
sign_next zero = (λ h. refl, λ h. absurd (omega arith))
sign_next (suc j) =
    let before = sign_next j in (
      λ h. ap neg_ℚ (before.1 (omega arith)),
      λ h. ap neg_ℚ (before.0 (omega arith)) ∙ ring₁ ℚ_ring (λ x. opp (opp x)) (λ x. x) refl (whole 1),
    )

-- the first sum and the next one
first_sum : (k : ℕ) → arctan_sum k 0 ≡ pos 1 ÷ k ^ 1
unfolding arctan_sum
first_sum k =
    let plain : 1 * k ^ 1 ≡ k ^ 1 = omega arith in
    ring₁ ℚ_ring (λ x. num 1 ⊠ x) (λ x. x) refl (pos 1 ÷ (1 * k ^ 1)) ∙ ap (λ d. pos 1 ÷ d) plain

next_sum : (k j : ℕ) → arctan_sum k (suc j) ≡ arctan_sum k j +ℚ sign (suc j) *ℚ (pos 1 ÷ ((2 * suc j + 1) * k ^ (2 * suc j + 1)))
unfolding arctan_sum
next_sum k j = refl

-- a term with its sign, as it is added or taken away
signed : (j : ℕ) (c s t : ℚ) → cond (eqb (j % 2) 1) (c *ℚ s +ℚ c *ℚ t) (c *ℚ s -ℚ c *ℚ t) ≡ c *ℚ (s +ℚ sign (suc j) *ℚ t)
signed j c s t = by_parity (j % 2) (sign (suc j)) (sign_next j) (mod-lt j (lit< tt))
  where
    by_parity : (r : ℕ) (x : ℚ) → (r ≡ 0 → x ≡ neg_ℚ (whole 1)) × (r ≡ 1 → x ≡ whole 1) → r < 2
        → cond (eqb r 1) (c *ℚ s +ℚ c *ℚ t) (c *ℚ s -ℚ c *ℚ t) ≡ c *ℚ (s +ℚ x *ℚ t)
    by_parity zero x h l =
        subst (λ y. c *ℚ s -ℚ c *ℚ t ≡ c *ℚ (s +ℚ y *ℚ t)) (sym (h.0 refl))
        (ring₃ ℚ_ring (λ c s t. c ⊠ s ⊟ c ⊠ t) (λ c s t. c ⊠ (s ⊞ opp (num 1) ⊠ t)) refl c s t)
    by_parity (suc zero) x h l =
        subst (λ y. c *ℚ s +ℚ c *ℚ t ≡ c *ℚ (s +ℚ y *ℚ t)) (sym (h.1 refl)) (ring₃ ℚ_ring (λ c s t. c ⊠ s ⊞ c ⊠ t) (λ c s t. c ⊠ (s ⊞ num 1 ⊠ t)) refl c s t)
    by_parity (suc (suc r)) x h l = absurd (omega arith)

-- the units of 1024, as the machine has them
pub guarded_units : (bits : ℕ) → bits ≤ 60 → cast_signed w128 (1024 * 2 ^ bits % 2 ^ 128) ≡ pos (1024 * 2 ^ bits)
guarded_units bits h =
    let room : 2 ^ bits ≤ 2 ^ 60 = pow_mono h in
    let small : 1024 * 2 ^ bits < 2 ^ 128 = omega arith in
    ap (cast_signed w128) (mod-eq_of_lt small) ∙ to_z_pos w128 (1024 * 2 ^ bits) (omega arith)

pub guarded_encloses : (bits : ℕ) → Encloses bits (record { lo = pos (1024 * 2 ^ bits); hi = pos (1024 * 2 ^ bits) }) (whole 1024)
guarded_encloses bits =
    let e : pos (1024 * 2 ^ bits) ÷ 1 ≡ whole 1024 *ℚ whole (2 ^ bits) = int-mul (pos 1024) (pos (2 ^ bits)) in
    record {
      low = subst (λ t. t ≤ℚ whole 1024 *ℚ whole (2 ^ bits)) (sym e) (le_refl (whole 1024 *ℚ whole (2 ^ bits)));
      high = subst (λ t. whole 1024 *ℚ whole (2 ^ bits) ≤ℚ t) (sym e) (le_refl (whole 1024 *ℚ whole (2 ^ bits)));
    }

pub guarded_narrow : (bits : ℕ) → bits ≤ 60 → IsNarrow (record { lo = pos (1024 * 2 ^ bits); hi = pos (1024 * 2 ^ bits) })
guarded_narrow bits h =
    let room : 2 ^ bits ≤ 2 ^ 60 = pow_mono h in
    let size : 1024 * 2 ^ bits ≤ 2 ^ 70 = omega arith in
    record { width = omega (arith, ints); size = record { low = size; high = size } }

-- a part of a narrow interval is narrow
pub part_narrow : (x r : Ends) (d : ℕ) → 2 ≤ d → IsFloor r.lo x.lo (pos d) → IsCeiling r.hi x.hi (pos d) → IsNarrow x → IsNarrow r
part_narrow x r d h low high n =
    record {
      width = quotient_width x r d 2 1 (omega arith) low high n.width (omega arith);
      size = quotient_within x r d (2 ^ 70) (2 ^ 70)
          (omega arith) low high n.size (omega arith);
    }

-- the first power and the first sum
pub first : (bits k : ℕ) (one power : Ends) → 2 ≤ k → Encloses bits one (whole 1024)
    → ((v : ℚ) → Encloses bits one (v *ℚ whole k) → Encloses bits power v) → IsNarrow power → SoFar bits k 0 power power
first bits k one power h is_one part narrow =
    let inverse : pos 1 ÷ k *ℚ whole k ≡ whole 1 = over-mul (pos 1) k (omega arith) in
    let whole_part : whole 1024 *ℚ (pos 1 ÷ k ^ 1) *ℚ whole k ≡ whole 1024 =
    ap (λ d. whole 1024 *ℚ (pos 1 ÷ d) *ℚ whole k) (first_power k)
    ∙ ring₃ ℚ_ring (λ c x k. (c ⊠ x) ⊠ k) (λ c x k. c ⊠ (x ⊠ k)) refl (whole 1024) (pos 1 ÷ k) (whole k)
    ∙ ap (λ t. whole 1024 *ℚ t) inverse ∙ mul-one (whole 1024)
    in
    let power_is : Encloses bits power (whole 1024 *ℚ (pos 1 ÷ k ^ 1)) = part (whole 1024 *ℚ (pos 1 ÷ k ^ 1))
    (subst (Encloses bits one) (sym whole_part) is_one) in
    record {
      power_encloses = power_is;
      power_narrow = narrow;
      sum_encloses = subst (λ t. Encloses bits power (whole 1024 *ℚ t)) (sym (first_sum k)) power_is;
      sum_width = narrow.width;
      sum_size = narrow.size;
    }

-- and the next ones
pub next : (bits k j : ℕ) (power sum power' term sum' : Ends) → 2 ≤ k → SoFar bits k j power sum
    → ((v : ℚ) → Encloses bits power (v *ℚ whole (k * k)) → Encloses bits power' v) → IsNarrow power'
    → ((v : ℚ) → Encloses bits power' (v *ℚ whole (2 * j + 3)) → Encloses bits term v)
    → ((u v : ℚ) → Encloses bits sum u → Encloses bits term v → Encloses bits sum' (cond (eqb (j % 2) 1) (u +ℚ v) (u -ℚ v)))
    → ((w : ℕ) → sum.hi ≤ℤ (sum.lo +ℤ pos w) → sum'.hi ≤ℤ (sum'.lo +ℤ pos (w + 2)))
    → ((m : ℕ) → IsWithin m sum → IsWithin (m + 2 ^ 70) sum')
    → SoFar bits k (suc j) power' sum'
next bits k j power sum power' term sum' h before power_part narrow term_part longer width size =
    let positive : 0 < k = omega arith in
    let old = k ^ (2 * j + 1) in
    let new = k ^ (2 * suc j + 1) in
    let power_value = whole 1024 *ℚ (pos 1 ÷ new) in
    let divided : power_value *ℚ whole (k * k) ≡ whole 1024 *ℚ (pos 1 ÷ old) =
    ap (λ d. whole 1024 *ℚ (pos 1 ÷ d) *ℚ whole (k * k)) (next_power k j)
    ∙ part_of (whole 1024) (k * k) old (mul-pos positive positive) (one-le-pow (2 * j + 1) k positive)
    in
    let power_is : Encloses bits power' power_value = power_part power_value (subst (Encloses bits power) (sym divided) before.power_encloses) in
    let term_value = whole 1024 *ℚ (pos 1 ÷ ((2 * suc j + 1) * new)) in
    let turned : (2 * suc j + 1) * new ≡ (2 * j + 3) * new = omega arith in
    let divided_again : term_value *ℚ whole (2 * j + 3) ≡ power_value =
    ap (λ d. whole 1024 *ℚ (pos 1 ÷ d) *ℚ whole (2 * j + 3)) turned ∙ part_of (whole 1024) (2 * j + 3) new (omega arith) (one-le-pow (2 * suc j + 1) k positive)
    in
    let term_is : Encloses bits term term_value = term_part term_value (subst (Encloses bits power') (sym divided_again) power_is) in
    let sum_is = signed j (whole 1024) (arctan_sum k j) (pos 1 ÷ ((2 * suc j + 1) * new)) ∙ ap (λ t. whole 1024 *ℚ t) (sym (next_sum k j)) in
    let wider : 2 * (j + 1) + 2 ≡ 2 * (suc j + 1) = omega arith in
    let larger : 2 ^ 70 * (j + 1) + 2 ^ 70 ≡ 2 ^ 70 * (suc j + 1) = omega arith in
    record {
      power_encloses = power_is;
      power_narrow = narrow;
      sum_encloses = subst (Encloses bits sum') sum_is (longer (whole 1024 *ℚ arctan_sum k j) term_value before.sum_encloses term_is);
      sum_width = subst (λ w. sum'.hi ≤ℤ (sum'.lo +ℤ pos w)) wider (width (2 * (j + 1)) before.sum_width);
      sum_size = subst (λ m. IsWithin m sum') larger (size (2 ^ 70 * (j + 1)) before.sum_size);
    }

-- Machin's formula from the two series
pub machin_value : (n : ℕ) → pos 16 ÷ 1 *ℚ (whole 1024 *ℚ arctan_sum 5 n) -ℚ pos 4 ÷ 1 *ℚ (whole 1024 *ℚ arctan_sum 239 n) ≡ pi_sum n *ℚ (pos 1024 ÷ 1)
unfolding pi_sum
machin_value n =
    ring₂ ℚ_ring (λ a b. num 16 ⊠ (num 1024 ⊠ a) ⊟ num 4 ⊠ (num 1024 ⊠ b)) (λ a b. (num 16 ⊠ a ⊟ num 4 ⊠ b) ⊠ num 1024) refl (arctan_sum 5 n) (arctan_sum 239 n)

-- a series of at most 41 terms leaves room for its multiples
pub series_within : (n : ℕ) (x : Ends) → n ≤ 40 → IsWithin (2 ^ 70 * (n + 1)) x → IsWithin (2 ^ 76) x
series_within n x h k = within_more (2 ^ 70 * (n + 1)) (2 ^ 76) x (omega arith) k

-- the difference of the multiples stays in range
pub machin_room : (n : ℕ) (x y s t : Ends) → n ≤ 40 → IsWithin (2 ^ 70 * (n + 1)) x → IsWithin (2 ^ 70 * (n + 1)) y → s ≡ multiple_of (pos 16) x
    → t ≡ multiple_of (pos 4) y → IsWithin (2 ^ 100) (difference_of s t)
machin_room n x y s t h k l s_is t_is =
    subst₂ (λ s t. IsWithin (2 ^ 100) (difference_of s t)) (sym s_is) (sym t_is)
    (within_more (16 * 2 ^ 76 + 4 * 2 ^ 76) (2 ^ 100) (difference_of (multiple_of (pos 16) x) (multiple_of (pos 4) y)) (lit≤ tt)
    (difference_within (multiple_of (pos 16) x) (multiple_of (pos 4) y) (16 * 2 ^ 76) (4 * 2 ^ 76)
    (multiple_within (pos 16) x 16 (2 ^ 76) (lit≤ tt) (series_within n x h k)) (multiple_within (pos 4) y 4 (2 ^ 76) (lit≤ tt) (series_within n y h l))))

pub multiple_room : (n : ℕ) (x : Ends) → n ≤ 40 → IsWithin (2 ^ 70 * (n + 1)) x → IsWithin (2 ^ 100) (multiple_of (pos 4) x)
multiple_room n x h k = within_more (4 * 2 ^ 76) (2 ^ 100) (multiple_of (pos 4) x) (lit≤ tt)
    (multiple_within (pos 4) x 4 (2 ^ 76) (lit≤ tt) (series_within n x h k))

-- the width of the answer: at most 82 units for each series, of which 1024 are one
pub machin_width : (n : ℕ) (x y s t u r : Ends) → n ≤ 40 → x.lo ≤ℤ x.hi → y.lo ≤ℤ y.hi → x.hi ≤ℤ (x.lo +ℤ pos (2 * (n + 1)))
    → y.hi ≤ℤ (y.lo +ℤ pos (2 * (n + 1)))
    → s ≡ multiple_of (pos 16) x → t ≡ multiple_of (pos 4) y → u ≡ difference_of s t → IsFloor r.lo u.lo (pos 1024) → IsCeiling r.hi u.hi (pos 1024)
    → r.hi ≤ℤ (r.lo +ℤ pos 64)
machin_width n x y s t u r h x_order y_order x_width y_width s_is t_is u_is low high =
    let w = 2 * (n + 1) in
    let s_width : s.hi ≤ℤ (s.lo +ℤ pos (16 * w)) = subst (λ (e : Ends). e.hi ≤ℤ (e.lo +ℤ pos (16 * w))) (sym s_is) (multiple_width 16 x w x_order x_width) in
    let t_width : t.hi ≤ℤ (t.lo +ℤ pos (4 * w)) = subst (λ (e : Ends). e.hi ≤ℤ (e.lo +ℤ pos (4 * w))) (sym t_is) (multiple_width 4 y w y_order y_width) in
    let u_width : u.hi ≤ℤ (u.lo +ℤ pos (16 * w + 4 * w)) = subst (λ (e : Ends). e.hi ≤ℤ (e.lo +ℤ pos (16 * w + 4 * w))) (sym u_is)
    (difference_width s t (16 * w) (4 * w) s_width t_width) in
    let narrow : r.hi ≤ℤ (r.lo +ℤ pos 3) = quotient_width u r 1024 (16 * w + 4 * w) 2 (lit< tt) low high u_width (omega arith) in
    omega (arith, ints)
