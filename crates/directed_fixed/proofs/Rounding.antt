-- What the machine's operations round to, and how rounding goes with order.
use Rattle.std.proofs.Common.{◌≡◌, refl, sym, subst, subst₂, cond, int_lt, ℕ, ◌*◌, ◌/◌, ◌<◌, ◌≤◌, Bool, true, false, ℤ, pos, negsuc, ◌+ℤ◌, ◌-ℤ◌, ◌*ℤ◌}
use Rattle.std.proofs.Common.{◌≤ℤ◌, ◌<ℤ◌, unsigned_abs, ◌^◌, FitsSigned, arith, mul-le-mul, mul-le-mul_left}
use Rattle.std.proofs.Math.Nat.{mod-lt}
use Rattle.std.proofs.lemmas.Nat.{div-add-mod'}
use Rattle.std.proofs.lemmas.Int.{ints, clamps, by_lt_z, fits_signed_from_abs, unsigned_abs-mul}
use Rattle.std.specs.Int.{w128, int_div_euclid, int_min, int_max}
use Rattle.std.specs.Int.Signed.{shr_z}
use borrow.Author.Differences.{product_is, sum_is_lem, at_most_in, below_in, le_out, lt_out}
use Rattle.ring_solver.specs.Expression.{num, ◌⊞◌, ◌⊟◌, ◌⊠◌}
use Rattle.ring_solver.proofs.Solver.{ring₂}
use Rattle.ring_solver.proofs.Whole.{ℤ_ring, ≤ℤ_trans, *ℤ_mono, *ℤ_mono_back}
use Rattle.directed_fixed.specs.Rounding.{IsFloor, IsCeiling, IsRounded}
use Rattle.directed_fixed.specs.Ends.{outer}

-- a shift by k bits rounds a division by 2^k down
pub floor_of_shift : (n : ℤ) (d : ℕ) → 0 < d → IsFloor (shr_z n d) n (pos d)
floor_of_shift (pos n) d h =
    let e = div-add-mod' n d in
    let r = mod-lt n h in
    record { at_most = at_most_in _ _ (omega (arith, e, r)); near = below_in _ _ (omega (arith, e, r)) }
floor_of_shift (negsuc n) d h =
    let e = div-add-mod' n d in
    let r = mod-lt n h in
    let p = product_is (negsuc (n / d)) (pos d) in
    record { at_most = omega (arith, ints, e, r, p); near = omega (arith, ints, e, r, p) }

-- so does the Euclidean division by a positive number
pub floor_of_division : (n d : ℤ) → pos 1 ≤ℤ d → IsFloor (int_div_euclid n d) n d
floor_of_division (pos n) (pos d) h = floor_of_shift (pos n) d (omega (arith, ints))
floor_of_division (negsuc n) (pos d) h = floor_of_shift (negsuc n) d (omega (arith, ints))
floor_of_division n (negsuc d) h = absurd h.le

-- a number rounded up is the negative of its negative rounded down
pub ceiling_of_floor : (q n d : ℤ) → IsFloor q (pos 0 -ℤ n) d → IsCeiling (pos 0 -ℤ q) n d
ceiling_of_floor q n d h =
    let p : (pos 0 -ℤ q) *ℤ d ≡ pos 0 -ℤ q *ℤ d = ring₂ ℤ_ring (λ q d. (num 0 ⊟ q) ⊠ d) (λ q d. num 0 ⊟ q ⊠ d) refl q d in
    let lower : (q *ℤ d) ≤ℤ (pos 0 -ℤ n) = h.at_most in
    let upper : (pos 0 -ℤ n) <ℤ (q *ℤ d +ℤ d) = h.near in
    record { at_least = subst (λ t. n ≤ℤ t) (sym p) (omega (arith, ints)); near = subst (λ t. t <ℤ (n +ℤ d)) (sym p) (omega (arith, ints)) }

-- so is a product, where one factor is turned to its negative
pub ceiling_of_floor_of_product : (q a b d : ℤ) → IsFloor q ((pos 0 -ℤ a) *ℤ b) d → IsCeiling (pos 0 -ℤ q) (a *ℤ b) d
ceiling_of_floor_of_product q a b d h =
    ceiling_of_floor q (a *ℤ b) d (subst (λ n. IsFloor q n d) (ring₂ ℤ_ring (λ a b. (num 0 ⊟ a) ⊠ b) (λ a b. num 0 ⊟ a ⊠ b) refl a b) h)

-- a whole number that is at most n / d is at most the rounded one ..
pub rounded_at_least : (up : Bool) (m q n : ℤ) (d : ℕ) → 0 < d → IsRounded up q n (pos d) → (m *ℤ pos d) ≤ℤ n → m ≤ℤ q
rounded_at_least true m q n d p h k = *ℤ_mono_back m q d p (≤ℤ_trans (m *ℤ pos d) n (q *ℤ pos d) k h.at_least)
rounded_at_least false m q n d p h k =
    by_lt_z q m
    (λ below.
    let step : ((q +ℤ pos 1) *ℤ pos d) ≤ℤ (m *ℤ pos d) = *ℤ_mono (q +ℤ pos 1) m d (omega (arith, ints)) in
    let same : (q +ℤ pos 1) *ℤ pos d ≡ q *ℤ pos d +ℤ pos d = ring₂ ℤ_ring (λ q d. (q ⊞ num 1) ⊠ d) (λ q d. q ⊠ d ⊞ d) refl q (pos d) in
    let turned : (q *ℤ pos d +ℤ pos d) ≤ℤ n = ≤ℤ_trans _ _ _ (subst (λ t. t ≤ℤ (m *ℤ pos d)) same step) k in
    let near : n <ℤ (q *ℤ pos d +ℤ pos d) = h.near in
    absurd (omega (arith, lt_out _ _ near, le_out _ _ turned)))
    (λ above. above)

-- .. and one that is at least n / d is at least the rounded one
pub rounded_at_most : (up : Bool) (m q n : ℤ) (d : ℕ) → 0 < d → IsRounded up q n (pos d) → n ≤ℤ (m *ℤ pos d) → q ≤ℤ m
rounded_at_most false m q n d p h k = *ℤ_mono_back q m d p (≤ℤ_trans (q *ℤ pos d) n (m *ℤ pos d) h.at_most k)
rounded_at_most true m q n d p h k =
    by_lt_z m q
    (λ below.
    let step : ((m +ℤ pos 1) *ℤ pos d) ≤ℤ (q *ℤ pos d) = *ℤ_mono (m +ℤ pos 1) q d (omega (arith, ints)) in
    let same : (m +ℤ pos 1) *ℤ pos d ≡ m *ℤ pos d +ℤ pos d = ring₂ ℤ_ring (λ m d. (m ⊞ num 1) ⊠ d) (λ m d. m ⊠ d ⊞ d) refl m (pos d) in
    let far : (m *ℤ pos d +ℤ pos d) ≤ℤ (q *ℤ pos d) = subst (λ t. t ≤ℤ (q *ℤ pos d)) same step in
    let near : (q *ℤ pos d) <ℤ (n +ℤ pos d) = h.near in
    absurd (omega (arith, sum_is_lem (m *ℤ pos d) (pos d), sum_is_lem n (pos d), lt_out _ _ near, le_out _ _ far, le_out _ _ k)))
    (λ above. above)

-- the greater fraction has the greater rounded number
pub rounded_mono : (up : Bool) (q n q' n' : ℤ) (d : ℕ) → 0 < d → IsRounded up q n (pos d) → IsRounded up q' n' (pos d) → n ≤ℤ n' → q ≤ℤ q'
rounded_mono false q n q' n' d p h h' k = rounded_at_least false q q' n' d p h' (≤ℤ_trans (q *ℤ pos d) n n' h.at_most k)
rounded_mono true q n q' n' d p h h' k = rounded_at_most true q' q n d p h (≤ℤ_trans n n' (q' *ℤ pos d) k h'.at_least)

-- the lower end rounded down is at most the upper end rounded up
pub rounded_in_order : (q n q' n' d : ℤ) → pos 1 ≤ℤ d → IsFloor q n d → IsCeiling q' n' d → n ≤ℤ n' → q ≤ℤ q'
rounded_in_order q n q' n' (pos d) p h h' k =
    *ℤ_mono_back q q' d (omega (arith, ints)) (≤ℤ_trans (q *ℤ pos d) n (q' *ℤ pos d) h.at_most (≤ℤ_trans n n' (q' *ℤ pos d) k h'.at_least))
rounded_in_order q n q' n' (negsuc d) p h h' k = absurd p.le

-- n / d of a size of at most m is rounded to a number of a size of at most m
pub rounded_size : (up : Bool) (q n : ℤ) (d m : ℕ) → 0 < d → IsRounded up q n (pos d) → unsigned_abs n ≤ m * d → unsigned_abs q ≤ m
rounded_size up q n d m p r k =
    let upper : q ≤ℤ pos m = rounded_at_most up (pos m) q n d p r (omega (arith, ints)) in
    let negative : (pos 0 -ℤ pos m) *ℤ pos d ≡ pos 0 -ℤ pos m *ℤ pos d = ring₂ ℤ_ring (λ m d. (num 0 ⊟ m) ⊠ d) (λ m d. num 0 ⊟ m ⊠ d) refl (pos m) (pos d) in
    let smaller : ((pos 0 -ℤ pos m) *ℤ pos d) ≤ℤ n = subst (λ t. t ≤ℤ n) (sym negative) (omega (arith, ints)) in
    let lower : (pos 0 -ℤ pos m) ≤ℤ q = rounded_at_least up (pos 0 -ℤ pos m) q n d p r smaller in
    omega (arith, ints)

-- a rounded number is not larger than the numerator ..
pub rounded_not_larger : (up : Bool) (q n d : ℤ) (m : ℕ) → pos 1 ≤ℤ d → IsRounded up q n d → unsigned_abs n ≤ m → unsigned_abs q ≤ m
rounded_not_larger up q n (pos d) m h r k =
    let p : 0 < d = omega (arith, ints) in
    let larger : m * 1 ≤ m * d = mul-le-mul_left m p in
    rounded_size up q n d m p r (omega arith)
rounded_not_larger up q n (negsuc d) m h r k = absurd h.le

-- .. so its negative fits where that does
pub negative_fits : (up : Bool) (q n d : ℤ) (m : ℕ) → pos 1 ≤ℤ d → IsRounded up q n d → unsigned_abs n ≤ m → m < 2 ^ 127 → FitsSigned w128 (pos 0 -ℤ q)
negative_fits up q n d m h r k l =
    let size : unsigned_abs q < 2 ^ 127 = omega (arith, rounded_not_larger up q n d m h r k) in
    fits_signed_from_abs w128 (pos 0 -ℤ q) (omega (arith, ints))

-- a product is as large as the product of the sizes
pub product_size : (a b : ℤ) (m n : ℕ) → unsigned_abs a ≤ m → unsigned_abs b ≤ n → unsigned_abs (a *ℤ b) ≤ m * n
product_size a b m n h k = rw unsigned_abs-mul (mul-le-mul h k)

-- what holds of two numbers holds of the outer one
pub outer_has : (up : Bool) (P : ℤ → Type 0) (a b : ℤ) → P a → P b → P (outer up a b)
outer_has false P a b h k = elim (int_lt b a) as (λ t. P (cond t b a)) [ true ↦ k | false ↦ h ]
outer_has true P a b h k = elim (int_lt b a) as (λ t. P (cond t a b)) [ true ↦ h | false ↦ k ]

min_first : (a b : ℤ) → a ≤ℤ b → int_min a b ≡ a
min_first a b h = omega (arith, ints, clamps)

min_second : (a b : ℤ) → b ≤ℤ a → int_min a b ≡ b
min_second a b h = omega (arith, ints, clamps)

max_first : (a b : ℤ) → b ≤ℤ a → int_max a b ≡ a
max_first a b h = omega (arith, ints, clamps)

max_second : (a b : ℤ) → a ≤ℤ b → int_max a b ≡ b
max_second a b h = omega (arith, ints, clamps)

-- the outer one of rounded numbers is the outer one rounded
pub outer_rounded : (up : Bool) (q n q' n' : ℤ) (d : ℕ) → 0 < d → IsRounded up q n (pos d) → IsRounded up q' n' (pos d)
    → IsRounded up (outer up q q') (outer up n n') (pos d)
outer_rounded false q n q' n' d p h h' =
    by_lt_z n' n
    (λ l. let k : n' ≤ℤ n = omega (arith, ints) in
    subst₂ (λ a b. IsFloor a b (pos d)) (sym (min_second q q' (rounded_mono false q' n' q n d p h' h k))) (sym (min_second n n' k)) h')
    (λ k. subst₂ (λ a b. IsFloor a b (pos d)) (sym (min_first q q' (rounded_mono false q n q' n' d p h h' k))) (sym (min_first n n' k)) h)
outer_rounded true q n q' n' d p h h' =
    by_lt_z n' n
    (λ l. let k : n' ≤ℤ n = omega (arith, ints) in
    subst₂ (λ a b. IsCeiling a b (pos d)) (sym (max_first q q' (rounded_mono true q' n' q n d p h' h k))) (sym (max_first n n' k)) h)
    (λ k. subst₂ (λ a b. IsCeiling a b (pos d)) (sym (max_second q q' (rounded_mono true q n q' n' d p h h' k))) (sym (max_second n n' k)) h')
