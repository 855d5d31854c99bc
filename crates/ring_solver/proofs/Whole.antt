-- The whole numbers as an ordered ring, and their products in order.
use Rattle.std.proofs.Common.{◌≡◌, ℕ, ◌+◌, ◌*◌, ◌<◌, ◌≤◌, ℤ, pos, negsuc, ◌+ℤ◌, ◌*ℤ◌, ◌≤ℤ◌, ◌<ℤ◌, arith, le_of_mul-le-mul_right, mul-le-mul_right}
use Rattle.std.proofs.Common.{mul-lt-mul_of_pos_right, lt_of_mul-lt-mul_right}
use Rattle.std.specs.Int.Signed.{≤ℤ_refl}
use borrow.Author.Differences.{up, down, same_in, at_most_in, below_in, le_out, lt_out, sum_is_lem, product_is}
use Rattle.ring_solver.specs.Ordered.{OrderedRing}
pub use Rattle.ring_solver.specs.Whole.{ℤ_ring, ℤ_image}
pub use Rattle.ring_solver.specs.WholeProducts.{*ℤ-+ℤ, *ℤ_assoc, *ℤ-pos_one}

pub ≤ℤ_trans : (a b c : ℤ) → a ≤ℤ b → b ≤ℤ c → a ≤ℤ c
≤ℤ_trans a b c h k = at_most_in a c (omega (arith, le_out a b h, le_out b c k))

pub ≤ℤ-<ℤ_trans : (a b c : ℤ) → a ≤ℤ b → b <ℤ c → a <ℤ c
≤ℤ-<ℤ_trans a b c h k = below_in a c (omega (arith, le_out a b h, lt_out b c k))

pub ≤ℤ_antisym : (a b : ℤ) → a ≤ℤ b → b ≤ℤ a → a ≡ b
≤ℤ_antisym a b h k = same_in a b (omega (arith, le_out a b h, le_out b a k))

pub +ℤ_mono : (c a b : ℤ) → a ≤ℤ b → (c +ℤ a) ≤ℤ (c +ℤ b)
+ℤ_mono c a b h = at_most_in (c +ℤ a) (c +ℤ b) (omega (arith, le_out a b h, sum_is_lem c a, sum_is_lem c b))

-- the order of natural numbers
pub pos_le : (m n : ℕ) → m ≤ n → pos m ≤ℤ pos n
pos_le m n h = at_most_in (pos m) (pos n) (omega arith)

pub *ℤ_nonneg : (a b : ℤ) → pos 0 ≤ℤ a → pos 0 ≤ℤ b → pos 0 ≤ℤ (a *ℤ b)
*ℤ_nonneg (pos a) (pos b) h k = pos_le 0 (a * b) (omega arith)
*ℤ_nonneg (pos a) (negsuc b) h k = absurd k.le
*ℤ_nonneg (negsuc a) b h k = absurd h.le

-- the ordered ring of the whole numbers
abbrev pub ℤ_ordered : OrderedRing
ℤ_ordered = record {
  ring = ℤ_ring;
  AtMost = ◌≤ℤ◌;
  at_most_refl = ≤ℤ_refl;
  at_most_trans = ≤ℤ_trans;
  add_mono = +ℤ_mono;
  mul_nonneg = *ℤ_nonneg;
}

-- an order is kept by a factor from ℕ ..
pub *ℤ_mono : (a b : ℤ) (d : ℕ) → a ≤ℤ b → (a *ℤ pos d) ≤ℤ (b *ℤ pos d)
*ℤ_mono a b d h =
    at_most_in (a *ℤ pos d) (b *ℤ pos d)
    (let k : (up a + down b) * d ≤ (up b + down a) * d = mul-le-mul_right d (le_out a b h) in omega (arith, k, product_is a (pos d), product_is b (pos d)))

-- .. and a positive one may be taken off
pub *ℤ_mono_back : (a b : ℤ) (d : ℕ) → 0 < d → (a *ℤ pos d) ≤ℤ (b *ℤ pos d) → a ≤ℤ b
*ℤ_mono_back a b d p h =
    at_most_in a b
    (le_of_mul-le-mul_right (let k : (up a + down b) * d ≤ (up b + down a) * d = omega
    (arith, product_is a (pos d), product_is b (pos d), le_out (a *ℤ pos d) (b *ℤ pos d) h) in k) p)

-- the same of a strict order
pub *ℤ_mono_strict : (a b : ℤ) (d : ℕ) → 0 < d → a <ℤ b → (a *ℤ pos d) <ℤ (b *ℤ pos d)
*ℤ_mono_strict a b d p h =
    below_in (a *ℤ pos d) (b *ℤ pos d)
    (let k : (up a + down b) * d < (up b + down a) * d = mul-lt-mul_of_pos_right (lt_out a b h) p in omega
    (arith, k, product_is a (pos d), product_is b (pos d)))

pub *ℤ_mono_strict_back : (a b : ℤ) (d : ℕ) → (a *ℤ pos d) <ℤ (b *ℤ pos d) → a <ℤ b
*ℤ_mono_strict_back a b d h =
    below_in a b
    (lt_of_mul-lt-mul_right d (let k : (up a + down b) * d < (up b + down a) * d = omega
    (arith, product_is a (pos d), product_is b (pos d), lt_out (a *ℤ pos d) (b *ℤ pos d) h) in k))
