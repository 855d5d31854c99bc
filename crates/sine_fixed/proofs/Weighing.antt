-- Sums over the terms of a formal point, of numbers near the values of the directions.
use Rattle.std.proofs.Common.{◌≡◌, refl, sym, ap, ◌∙◌, subst, ℕ, ◌+◌, ◌*◌, ◌^◌, ◌<◌, ◌≤◌, List, [], ◌∷◌, ◌++◌, length, get_or, take}
use Rattle.std.proofs.Common.{ℤ, pos, ◌+ℤ◌, ◌-ℤ◌, ◌*ℤ◌, ◌≤ℤ◌, unsigned_abs, FitsSigned, arith}
use Rattle.std.specs.Int.{w128, int_min, int_max}
use Rattle.std.specs.List.{All}
use Rattle.std.proofs.Math.Pow.{pow_mono}
use Rattle.std.proofs.lemmas.Int.{ints, clamps}
use Rattle.std.proofs.lemmas.List.{take_more}
use Rattle.std.proofs.lemmas.List.Sums.{sum_by-take-le, sum_by_more_le}
use Rattle.std.proofs.lemmas.List.Elements.{All-head, All-tail}
use Rattle.ring_solver.specs.Expression.{num, ◌⊞◌, ◌⊠◌}
use Rattle.ring_solver.proofs.Solver.{ring₁, ring₂}
use Rattle.ring_solver.proofs.Whole.{ℤ_ring, ℤ_image}
use Rattle.rat_core.specs.Fraction.{ℚ, ◌÷◌, whole, ◌+ℚ◌, ◌*ℚ◌, ◌≤ℚ◌}
use Rattle.rat_core.specs.Ring.{ℚ_image}
use Rattle.rat_core.proofs.Laws.{ℚ_ring, le_refl, le_trans}
use Rattle.rat_core.proofs.Order.{int_le}
use Rattle.exp_sums.specs.declared.direction.Dir.{Dir}
use Rattle.exp_sums.specs.declared.terms.Term.{Term}
use Rattle.exp_sums.specs.Limits.{terms_weight}
use Rattle.exp_sums.specs.Weigh.{weigh_terms}
use Rattle.exp_sums.proofs.Weigh.{weigh_terms-append}
use Rattle.exp_sums.proofs.Weights.{terms_weight-cons, terms_weight-append}
use Rattle.trig_meaning.specs.FromSomeOn.{FromSomeOn}
use Rattle.trig_meaning.proofs.FromSomeOnLaws.{always, onward, onward_both}
use Rattle.directed_fixed.specs.Ends.{Ends, Encloses, IsWithin, sum_of, multiple_of}
use Rattle.directed_fixed.proofs.Rounding.{product_size}
use Rattle.directed_fixed.proofs.Enclosing.{sum_encloses, multiple_encloses}
use Rattle.sine_fixed.proofs.Turning.{fits_128}

-- ---- whole numbers

pub sum_small : (f : Dir → ℤ) → ((d : Dir) → unsigned_abs (f d) ≤ 2 ^ 62) → (ts : List Term)
    → unsigned_abs (weigh_terms ℤ_ring ℤ_image f ts) ≤ 2 ^ 62 * terms_weight ts
sum_small f small [] = omega arith
sum_small f small (t ∷ ts) =
    let product : unsigned_abs (t.c *ℤ f t.dir) ≤ unsigned_abs t.c * 2 ^ 62 = product_size t.c (f t.dir) (unsigned_abs t.c) (2 ^ 62) (omega arith)
    (small t.dir) in
    added (t.c *ℤ f t.dir) (weigh_terms ℤ_ring ℤ_image f ts) (unsigned_abs t.c) (terms_weight ts) (terms_weight (t ∷ ts))
    (terms_weight-cons t ts) product (sum_small f small ts)
  where
    added : (a b : ℤ) (m n k : ℕ) → k ≡ m + n → unsigned_abs a ≤ m * 2 ^ 62 → unsigned_abs b ≤ 2 ^ 62 * n → unsigned_abs (a +ℤ b) ≤ 2 ^ 62 * k
    added a b m n k e h l = omega (arith, ints, e, h, l)

-- what one more term makes of the sum of the first i
pub record IsStep (f : Dir → ℤ) (ts : List Term) (i : ℕ) (total c low : ℤ) : Type 0 where
  pub total_fits : FitsSigned w128 total
  pub factor_fits : FitsSigned w128 c
  pub low_fits : FitsSigned w128 low
  pub product : FitsSigned w128 (c *ℤ low)
  pub sum : FitsSigned w128 (total +ℤ c *ℤ low)
  pub is : total +ℤ c *ℤ low ≡ weigh_terms ℤ_ring ℤ_image f (take (i + 1) ts)

pub sum_of_first : (f : Dir → ℤ) → ((d : Dir) → unsigned_abs (f d) ≤ 2 ^ 62) → (ts : List Term) (i : ℕ) → terms_weight ts ≤ 2 ^ 31
    → unsigned_abs (weigh_terms ℤ_ring ℤ_image f (take i ts)) ≤ 2 ^ 62 * terms_weight ts
sum_of_first f small ts i light =
    let part : terms_weight (take i ts) ≤ terms_weight ts = sum_by-take-le (λ (t : Term). unsigned_abs t.c) ts i in
    let all = sum_small f small (take i ts) in
    omega arith

pub step_exactly : (f : Dir → ℤ) → ((d : Dir) → unsigned_abs (f d) ≤ 2 ^ 62) → (ts : List Term) (i : ℕ) (e : Term) → i < length ts → terms_weight ts ≤ 2 ^ 31
    → IsStep f ts i (weigh_terms ℤ_ring ℤ_image f (take i ts)) (get_or ts i e).c (f (get_or ts i e).dir)
step_exactly f small ts i e below light =
    let t = get_or ts i e in
    let total = weigh_terms ℤ_ring ℤ_image f (take i ts) in
    let total_small : unsigned_abs total ≤ 2 ^ 62 * 2 ^ 31 = omega (arith, sum_of_first f small ts i light, light) in
    let part = sum_by_more_le (λ (t : Term). unsigned_abs t.c) ts i e below in
    let factor_small : unsigned_abs t.c ≤ 2 ^ 31 = omega (arith, part, light) in
    let product : unsigned_abs (t.c *ℤ f t.dir) ≤ 2 ^ 31 * 2 ^ 62 = product_size t.c (f t.dir) (2 ^ 31) (2 ^ 62) factor_small (small t.dir) in
    record {
      total_fits = fits_128 total (omega arith);
      factor_fits = fits_128 t.c (omega arith);
      low_fits = fits_128 (f t.dir) (omega (arith, small t.dir));
      product = fits_128 (t.c *ℤ f t.dir) (omega arith);
      sum = fits_128 (total +ℤ t.c *ℤ f t.dir) (sum_fits total (t.c *ℤ f t.dir) total_small product);
      is = sym (ap (weigh_terms ℤ_ring ℤ_image f) (take_more ts i e below) ∙ weigh_terms-append ℤ_ring ℤ_image f (take i ts) (t ∷ [])
          ∙ ap (λ z. total +ℤ z) (ℤ_ring.add-zero (t.c *ℤ f t.dir)));
    }
  where
    sum_fits : (a b : ℤ) → unsigned_abs a ≤ 2 ^ 62 * 2 ^ 31 → unsigned_abs b ≤ 2 ^ 31 * 2 ^ 62 → unsigned_abs (a +ℤ b) ≤ 2 ^ 120
    sum_fits a b h k = omega (arith, ints, h, k)

-- ---- values

-- from a number to 256 more
abbrev pub from_low : ℤ → Ends
from_low z = record { lo = z; hi = z +ℤ pos 256 }

-- the ends at a distance from a number
abbrev pub around : ℤ → ℕ → Ends
around z e = record { lo = z -ℤ pos e; hi = z +ℤ pos e }

-- wider ends enclose what narrower ones do
pub wider : (bits : ℕ) (r s : Ends) (v : ℚ) → s.lo ≤ℤ r.lo → r.hi ≤ℤ s.hi → Encloses bits r v → Encloses bits s v
wider bits r s v low high h =
    let u = v *ℚ whole (2 ^ bits) in
    record { low = le_trans (s.lo ÷ 1) (r.lo ÷ 1) u (int_le s.lo r.lo low) h.low; high = le_trans u (r.hi ÷ 1) (s.hi ÷ 1) h.high (int_le r.hi s.hi high) }

-- a multiple of what lies from z to z + 256
multiple_around : (bits : ℕ) (c z : ℤ) (v : ℚ) → Encloses bits (from_low z) v → Encloses bits (around (c *ℤ z) (256 * unsigned_abs c)) ((c ÷ 1) *ℚ v)
multiple_around bits c z v h =
    let upper : c *ℤ (z +ℤ pos 256) ≡ c *ℤ z +ℤ pos 256 *ℤ c = ring₂ ℤ_ring (λ c z. c ⊠ (z ⊞ num 256)) (λ c z. c ⊠ z ⊞ num 256 ⊠ c) refl c z in
    let room = between c (c *ℤ z) (c *ℤ (z +ℤ pos 256)) upper in
    wider bits (multiple_of c (from_low z)) (around (c *ℤ z) (256 * unsigned_abs c)) ((c ÷ 1) *ℚ v) room.0 room.1 (multiple_encloses bits c (from_low z) v h)
  where
    between : (c p q : ℤ) → q ≡ p +ℤ pos 256 *ℤ c → ((p -ℤ pos (256 * unsigned_abs c)) ≤ℤ int_min p q) × (int_max p q ≤ℤ (p +ℤ pos (256 * unsigned_abs c)))
    between c p q e = (omega (arith, ints, clamps, e), omega (arith, ints, clamps, e))

sum_around : (bits : ℕ) (a b : ℤ) (m n k : ℕ) (u v : ℚ) → k ≡ m + n → Encloses bits (around a (256 * m)) u → Encloses bits (around b (256 * n)) v
    → Encloses bits (around (a +ℤ b) (256 * k)) (u +ℚ v)
sum_around bits a b m n k u v e h l =
    let room = apart a b in
    wider bits (sum_of (around a (256 * m)) (around b (256 * n))) (around (a +ℤ b) (256 * k)) (u +ℚ v) room.0 room.1
    (sum_encloses bits (around a (256 * m)) (around b (256 * n)) u v h l)
  where
    apart : (a b : ℤ) → ((a +ℤ b -ℤ pos (256 * k)) ≤ℤ (a -ℤ pos (256 * m) +ℤ (b -ℤ pos (256 * n))))
        × ((a +ℤ pos (256 * m) +ℤ (b +ℤ pos (256 * n))) ≤ℤ (a +ℤ b +ℤ pos (256 * k)))
    apart a b = (omega (arith, ints, e), omega (arith, ints, e))

pub nothing_around : (bits : ℕ) → Encloses bits (around (pos 0) (256 * 0)) (whole 0)
nothing_around bits =
    let e : whole 0 *ℚ whole (2 ^ bits) ≡ whole 0 = ring₁ ℚ_ring (λ u. num 0 ⊠ u) (λ u. num 0) refl (whole (2 ^ bits)) in
    record { low = subst (λ t. whole 0 ≤ℚ t) (sym e) (le_refl (whole 0)); high = subst (λ t. t ≤ℚ whole 0) (sym e) (le_refl (whole 0)) }

-- a value lies above a number, and at most 256 above it
abbrev pub IsFrom : ℕ → ℤ → (ℕ → ℚ) → Type 0
IsFrom bits z value = FromSomeOn (λ n. Encloses bits (from_low z) (value n))

-- the sum of the values over the terms lies around a number, at most 256 away for each unit of weight
abbrev pub IsSumNear : ℕ → (ℕ → Dir → ℚ) → ℤ → List Term → Type 0
IsSumNear bits value z ts = FromSomeOn (λ n. Encloses bits (around z (256 * terms_weight ts)) (weigh_terms ℚ_ring ℚ_image (value n) ts))

-- the sum of the values lies around the sum of the numbers
pub sum_near : (bits : ℕ) (value : ℕ → Dir → ℚ) (f : Dir → ℤ) (ts : List Term) → All (λ (t : Term). IsFrom bits (f t.dir) (λ n. value n t.dir)) ts
    → IsSumNear bits value (weigh_terms ℤ_ring ℤ_image f ts) ts
sum_near bits value f [] h = always (λ n. nothing_around bits)
sum_near bits value f (t ∷ ts) h =
    let P : Term → Type 0 = λ t. IsFrom bits (f t.dir) (λ n. value n t.dir) in
    onward_both
    (λ n sine rest.
    sum_around bits (t.c *ℤ f t.dir) (weigh_terms ℤ_ring ℤ_image f ts) (unsigned_abs t.c) (terms_weight ts) (terms_weight (t ∷ ts))
    ((t.c ÷ 1) *ℚ value n t.dir) (weigh_terms ℚ_ring ℚ_image (value n) ts) (terms_weight-cons t ts)
    (multiple_around bits t.c (f t.dir) (value n t.dir) sine) rest)
    (All-head P t ts h) (sum_near bits value f ts (All-tail P t ts h))

-- the lower end of an interval of 256 units
pub from_lower_end : (bits : ℕ) (value : ℕ → ℚ) (s : Ends) (low : ℤ) → FromSomeOn (λ n. Encloses bits s (value n)) → s.hi ≤ℤ (s.lo +ℤ pos 256) → low ≡ s.lo
    → IsFrom bits low value
from_lower_end bits value s low encloses narrow is =
    subst (λ z. IsFrom bits z value) (sym is)
    (onward (λ n h. wider bits s (from_low s.lo) (value n) (≤ℤ_refl s.lo) narrow h) encloses)
  where
    ≤ℤ_refl : (z : ℤ) → z ≤ℤ z
    ≤ℤ_refl z = omega (arith, ints)

-- ---- one term more

-- the sum of the first i + 1 terms
pub one_more : (bits : ℕ) (value : ℕ → Dir → ℚ) (ts : List Term) (i : ℕ) (e : Term) (total low : ℤ) → i < length ts
    → IsSumNear bits value total (take i ts) → IsFrom bits low (λ n. value n (get_or ts i e).dir)
    → IsSumNear bits value (total +ℤ (get_or ts i e).c *ℤ low) (take (i + 1) ts)
one_more bits value ts i e total low below sum one =
    let t = get_or ts i e in
    let before = take i ts in
    let weights : terms_weight (before ++ t ∷ []) ≡ terms_weight before + unsigned_abs t.c =
    omega (arith, terms_weight-append before (t ∷ []), terms_weight-cons t []) in
    subst (IsSumNear bits value (total +ℤ t.c *ℤ low)) (sym (take_more ts i e below))
    (onward_both
    (λ n h k.
    subst (Encloses bits (around (total +ℤ t.c *ℤ low) (256 * terms_weight (before ++ t ∷ []))))
    (sym (weigh_terms-append ℚ_ring ℚ_image (value n) before (t ∷ []) ∙ ap (λ z. weigh_terms ℚ_ring ℚ_image (value n) before +ℚ z)
    (ℚ_ring.add-zero ((t.c ÷ 1) *ℚ value n t.dir))))
    (sum_around bits total (t.c *ℤ low) (terms_weight before) (unsigned_abs t.c) (terms_weight (before ++ t ∷ []))
    (weigh_terms ℚ_ring ℚ_image (value n) before) ((t.c ÷ 1) *ℚ value n t.dir) weights h (multiple_around bits t.c low (value n t.dir) k)))
    sum one)

-- ---- one sine

pub low_size : (bits : ℕ) (s : Ends) (low : ℤ) → bits ≤ 60 → IsWithin (3 * 2 ^ bits) s → low ≡ s.lo → unsigned_abs low ≤ 2 ^ 62
low_size bits s low room h is =
    let units : 2 ^ bits ≤ 2 ^ 60 = pow_mono room in
    let size = h.low in
    subst (λ z. unsigned_abs z ≤ 2 ^ 62) (sym is) (omega (arith, size, units))
