-- What ends of bounded sizes give.
use Rattle.std.proofs.Common.{ℕ, ◌*◌, ◌^◌, ◌≤◌, ◌<◌, Bool, true, false, ℤ, pos, ◌+ℤ◌, ◌-ℤ◌, ◌*ℤ◌, ◌≤ℤ◌, unsigned_abs, FitsSigned, arith, ◌≡◌, refl}
use Rattle.std.proofs.Common.{sym, subst, subst₂, ◌+◌, ◌<ℤ◌}
use Rattle.std.specs.Int.{w128, int_min, int_max}
use Rattle.std.proofs.lemmas.Int.{ints, clamps, fits_signed_from_abs, by_lt_z}
use Rattle.std.proofs.Math.IntN.{*ℤ_comm}
use Rattle.ring_solver.specs.Expression.{num, ◌⊞◌, ◌⊠◌}
use Rattle.ring_solver.proofs.Solver.{ring₃}
use Rattle.ring_solver.proofs.Whole.{ℤ_ring, ≤ℤ_trans, *ℤ_mono}
use Rattle.directed_fixed.specs.Rounding.{IsFloor, IsCeiling}
use Rattle.directed_fixed.specs.Ends.{Ends, IsWithin, IsInterval, sum_of, difference_of, multiple_of, least_product, greatest_product, outer_product}
use Rattle.directed_fixed.proofs.Rounding.{outer_has, rounded_size, rounded_not_larger, rounded_in_order, product_size}
use Rattle.directed_fixed.proofs.Enclosing.{products_between}

-- an end fits its type
pub end_fits : (z : ℤ) → unsigned_abs z ≤ 2 ^ 100 → FitsSigned w128 z
end_fits z h = fits_signed_from_abs w128 z (omega arith)

-- a greater size is one too
pub within_more : (m n : ℕ) (x : Ends) → m ≤ n → IsWithin m x → IsWithin n x
within_more m n x h k =
    let low = k.low in
    let high = k.high in
    record { low = omega arith; high = omega arith }

-- products of ends are as large as the product of the sizes
pub outer_product_size : (up : Bool) (x y : Ends) (m n : ℕ) → IsWithin m x → IsWithin n y → unsigned_abs (outer_product up x y) ≤ m * n
outer_product_size up x y m n h k =
    outer_has up (λ z. unsigned_abs z ≤ m * n) _ _
    (outer_has up (λ z. unsigned_abs z ≤ m * n) _ _ (product_size x.lo y.lo m n h.low k.low) (product_size x.lo y.hi m n h.low k.high))
    (outer_has up (λ z. unsigned_abs z ≤ m * n) _ _ (product_size x.hi y.lo m n h.high k.low) (product_size x.hi y.hi m n h.high k.high))

-- so is a product of intervals, with the units taken off
pub product_within : (x y r : Ends) (p m n k : ℕ) → 0 < p → IsFloor r.lo (least_product x y) (pos p) → IsCeiling r.hi (greatest_product x y) (pos p)
    → IsWithin m x → IsWithin n y → m * n ≤ k * p → IsWithin k r
product_within x y r p m n k positive low high h h' l =
    record {
      low = rounded_size false r.lo (least_product x y) p k positive low (omega (arith, outer_product_size false x y m n h h'));
      high = rounded_size true r.hi (greatest_product x y) p k positive high (omega (arith, outer_product_size true x y m n h h'));
    }

-- and a quotient, where its divisor is taken off
pub quotient_within : (x r : Ends) (d m k : ℕ) → 0 < d → IsFloor r.lo x.lo (pos d) → IsCeiling r.hi x.hi (pos d) → IsWithin m x → m ≤ k * d → IsWithin k r
quotient_within x r d m k positive low high h l =
    record {
      low = rounded_size false r.lo x.lo d k positive low (omega (arith, h.low));
      high = rounded_size true r.hi x.hi d k positive high (omega (arith, h.high));
    }

-- a quotient by a positive number is not larger than what is divided
pub quotient_not_larger : (x r : Ends) (d : ℤ) (m : ℕ) → pos 1 ≤ℤ d → IsFloor r.lo x.lo d → IsCeiling r.hi x.hi d → IsWithin m x → IsWithin m r
quotient_not_larger x r d m p low high h =
    record { low = rounded_not_larger false r.lo x.lo d m p low h.low; high = rounded_not_larger true r.hi x.hi d m p high h.high }

-- the rounded products are in order
pub products_in_order : (x y r : Ends) (p : ℕ) → 0 < p → IsFloor r.lo (least_product x y) (pos p) → IsCeiling r.hi (greatest_product x y) (pos p) → r.lo ≤ℤ r.hi
products_in_order x y r p positive low high =
    let between = products_between x y in
    rounded_in_order r.lo (least_product x y) r.hi (greatest_product x y) (pos p) (omega (arith, ints)) low high (≤ℤ_trans _ _ _ between.0.0 between.1.0)

-- both multiples by c are as large as their ends
pub multiple_size : (a b : ℤ) (m : ℕ) → unsigned_abs (int_min a b) ≤ m → unsigned_abs (int_max a b) ≤ m → (unsigned_abs a ≤ m) × (unsigned_abs b ≤ m)
multiple_size a b m h k = (omega (arith, ints, clamps), omega (arith, ints, clamps))

-- sums, differences and multiples of intervals are in order
pub sum_in_order : (x y : Ends) → x.lo ≤ℤ x.hi → y.lo ≤ℤ y.hi → (x.lo +ℤ y.lo) ≤ℤ (x.hi +ℤ y.hi)
sum_in_order x y h k = omega (arith, ints)

pub difference_in_order : (x y : Ends) → x.lo ≤ℤ x.hi → y.lo ≤ℤ y.hi → (x.lo -ℤ y.hi) ≤ℤ (x.hi -ℤ y.lo)
difference_in_order x y h k = omega (arith, ints)

pub multiple_in_order : (c : ℤ) (x : Ends) → (multiple_of c x).lo ≤ℤ (multiple_of c x).hi
multiple_in_order c x = in_order (c *ℤ x.lo) (c *ℤ x.hi)
  where
    in_order : (a b : ℤ) → int_min a b ≤ℤ int_max a b
    in_order a b = omega (arith, ints, clamps)

-- the ends of a multiple, when they are at hand
pub multiple_ends : (c : ℤ) (x : Ends) (lo hi : ℤ) → lo ≡ int_min (c *ℤ x.lo) (c *ℤ x.hi) → hi ≡ int_max (c *ℤ x.lo) (c *ℤ x.hi)
    → ◌≡◌ {A = Ends} (record { lo = lo; hi = hi }) (multiple_of c x)
multiple_ends c x lo hi low high = subst₂ (λ a b. ◌≡◌ {A = Ends} (record { lo = lo; hi = hi }) (record { lo = a; hi = b })) low high refl

pub multiple_interval : (c : ℤ) (x r : Ends) → r ≡ multiple_of c x → IsWithin (2 ^ 100) (multiple_of c x) → IsInterval r
multiple_interval c x r is size = subst IsInterval (sym is) (record { in_order = multiple_in_order c x; in_range = size })

-- The width of a quotient: of the exact one, which is at most m, and less than one unit more at each end.
pub quotient_width : (x r : Ends) (d w m : ℕ) → 0 < d → IsFloor r.lo x.lo (pos d) → IsCeiling r.hi x.hi (pos d) → x.hi ≤ℤ (x.lo +ℤ pos w) → w ≤ m * d
    → r.hi ≤ℤ (r.lo +ℤ pos (m + 1))
quotient_width x r d w m positive low high width room =
    by_lt_z (r.lo +ℤ pos (m + 1)) r.hi
    (λ wide.
    let step : ((r.lo +ℤ pos (m + 2)) *ℤ pos d) ≤ℤ (r.hi *ℤ pos d) = *ℤ_mono (r.lo +ℤ pos (m + 2)) r.hi d (omega (arith, ints)) in
    let same : (r.lo +ℤ pos (m + 2)) *ℤ pos d ≡ (r.lo *ℤ pos d +ℤ pos d) +ℤ (pos (m * d) +ℤ pos d) =
    ring₃ ℤ_ring (λ q m d. (q ⊞ (m ⊞ num 2)) ⊠ d) (λ q m d. (q ⊠ d ⊞ d) ⊞ (m ⊠ d ⊞ d)) refl r.lo (pos m) (pos d)
    in
    let far : ((r.lo *ℤ pos d +ℤ pos d) +ℤ (pos (m * d) +ℤ pos d)) ≤ℤ (r.hi *ℤ pos d) = subst (λ t. t ≤ℤ (r.hi *ℤ pos d)) same step in
    absurd (near_and_far (r.lo *ℤ pos d +ℤ pos d) (r.hi *ℤ pos d) (pos (m * d)) (pos d) x.lo x.hi (pos w) low.near high.near width (omega (arith, ints)) far))
    (λ narrow. narrow)
  where
    near_and_far : (a b m d lo hi w : ℤ) → lo <ℤ a → b <ℤ (hi +ℤ d) → hi ≤ℤ (lo +ℤ w) → w ≤ℤ m → (a +ℤ (m +ℤ d)) ≤ℤ b → ⊥
    near_and_far a b m d lo hi w h k l r f = omega (arith, ints)

-- sizes and widths of differences and multiples, and the width of a sum
pub difference_within : (x y : Ends) (m n : ℕ) → IsWithin m x → IsWithin n y → IsWithin (m + n) (difference_of x y)
difference_within x y m n h k =
    let a = h.low in
    let b = h.high in
    let c = k.low in
    let d = k.high in
    record { low = omega (arith, ints); high = omega (arith, ints) }

pub multiple_within : (c : ℤ) (x : Ends) (k m : ℕ) → unsigned_abs c ≤ k → IsWithin m x → IsWithin (k * m) (multiple_of c x)
multiple_within c x k m h l =
    record {
      low = outer_has false (λ z. unsigned_abs z ≤ k * m) (c *ℤ x.lo) (c *ℤ x.hi) (product_size c x.lo k m h l.low) (product_size c x.hi k m h l.high);
      high = outer_has true (λ z. unsigned_abs z ≤ k * m) (c *ℤ x.lo) (c *ℤ x.hi) (product_size c x.lo k m h l.low) (product_size c x.hi k m h l.high);
    }

pub sum_width : (x y : Ends) (v w : ℕ) → x.hi ≤ℤ (x.lo +ℤ pos v) → y.hi ≤ℤ (y.lo +ℤ pos w) → (sum_of x y).hi ≤ℤ ((sum_of x y).lo +ℤ pos (v + w))
sum_width x y v w h k = omega (arith, ints)

pub difference_width : (x y : Ends) (v w : ℕ) → x.hi ≤ℤ (x.lo +ℤ pos v) → y.hi ≤ℤ (y.lo +ℤ pos w)
    → (difference_of x y).hi ≤ℤ ((difference_of x y).lo +ℤ pos (v + w))
difference_width x y v w h k = omega (arith, ints)

pub multiple_width : (c : ℕ) (x : Ends) (w : ℕ) → x.lo ≤ℤ x.hi → x.hi ≤ℤ (x.lo +ℤ pos w)
    → (multiple_of (pos c) x).hi ≤ℤ ((multiple_of (pos c) x).lo +ℤ pos (c * w))
multiple_width c x w h k =
    let order : (x.lo *ℤ pos c) ≤ℤ (x.hi *ℤ pos c) = *ℤ_mono x.lo x.hi c h in
    let near : (x.hi *ℤ pos c) ≤ℤ ((x.lo +ℤ pos w) *ℤ pos c) = *ℤ_mono x.hi (x.lo +ℤ pos w) c k in
    let same : (x.lo +ℤ pos w) *ℤ pos c ≡ x.lo *ℤ pos c +ℤ pos (c * w) = ring₃ ℤ_ring (λ a w c.
    (a ⊞ w) ⊠ c) (λ a w c. a ⊠ c ⊞ c ⊠ w) refl x.lo (pos w) (pos c) in
    let gap : (x.hi *ℤ pos c) ≤ℤ (x.lo *ℤ pos c +ℤ pos (c * w)) = subst (λ t. (x.hi *ℤ pos c) ≤ℤ t) same near in
    subst₂ (λ a b. int_max a b ≤ℤ (int_min a b +ℤ pos (c * w))) (*ℤ_comm x.lo (pos c)) (*ℤ_comm x.hi (pos c))
    (spread (x.lo *ℤ pos c) (x.hi *ℤ pos c) (pos (c * w)) order gap)
  where
    spread : (a b w : ℤ) → a ≤ℤ b → b ≤ℤ (a +ℤ w) → int_max a b ≤ℤ (int_min a b +ℤ w)
    spread a b w h k = omega (arith, ints, clamps)
