-- The two chains of the sine series: how large their numbers are, and how near.
use Rattle.std.proofs.Common.{◌≡◌, subst, subst₂, ℕ, suc, ◌+◌, ◌-◌, ◌*◌, ◌/◌, ◌^◌, ◌<◌, ◌≤◌, arith}
use Rattle.std.proofs.Math.Nat.{mul-le-mul_left, mul-le-mul_right}
use Rattle.rat_core.specs.Fraction.{ℚ, whole, ◌*ℚ◌, ◌≤ℚ◌}
use Rattle.sine_fixed.specs.Near.{IsNear}
use Rattle.sine_fixed.proofs.Coefficients.{entry, entry_near, entry_small, neighbours_small, part_of}
use Rattle.sine_fixed.proofs.Errors.{product_below, sum_near}
use Rattle.sine_fixed.proofs.Horner.{coefficient, chain, even_next, odd_next}

-- how large the numbers are after j steps, where y is the square
pub record AreChains (y j even odd : ℕ) : Type 0 where
  pub even_small : j < 5 → even ≤ entry (9 - 2 * j)
  pub odd_small : odd ≤ entry (10 - 2 * j)
  pub even_least : entry (10 - 2 * j) ≤ even
  pub even_most : even ≤ entry (10 - 2 * j) + y * odd / 2 ^ 60

module _ (y j even odd : ℕ) (below : j < 5) (small : y ≤ 2 ^ 60) (h : AreChains y j even odd) where
  pub even_fits : even ≤ 2 ^ 60
  even_fits = omega (arith, h.even_small below, entry_small (9 - 2 * j) (omega arith))

  pub next_chains : AreChains y (j + 1) (entry (8 - 2 * j) + y * even / 2 ^ 60) (entry (9 - 2 * j) + y * odd / 2 ^ 60)
  next_chains = record {
    even_small = λ more.
        let first : suc (7 - 2 * j) ≡ 8 - 2 * j = omega (arith, more) in
        let second : suc (suc (7 - 2 * j)) ≡ 9 - 2 * j = omega (arith, more) in
        let last : 7 - 2 * j ≡ 9 - 2 * (j + 1) = omega (arith, more) in
        let pair : entry (8 - 2 * j) + entry (9 - 2 * j) ≤ entry (7 - 2 * j) =
        subst₂ (λ a b. entry a + entry b ≤ entry (7 - 2 * j)) first second (neighbours_small (7 - 2 * j) (omega arith)) in
        subst (λ k. entry (8 - 2 * j) + y * even / 2 ^ 60 ≤ entry k) last (omega (arith, pair, part_of y even small, h.even_small below));
    odd_small =
        let first : suc (8 - 2 * j) ≡ 9 - 2 * j = omega arith in
        let second : suc (suc (8 - 2 * j)) ≡ 10 - 2 * j = omega arith in
        let pair : entry (9 - 2 * j) + entry (10 - 2 * j) ≤ entry (8 - 2 * j) =
        subst₂ (λ a b. entry a + entry b ≤ entry (8 - 2 * j)) first second (neighbours_small (8 - 2 * j) (omega arith)) in
        subst (λ k. entry (9 - 2 * j) + y * odd / 2 ^ 60 ≤ entry k) last (omega (arith, pair, part_of y odd small, h.odd_small));
    even_least = subst (λ k. entry k ≤ entry (8 - 2 * j) + y * even / 2 ^ 60) last (omega arith);
    even_most =
        let more : even ≤ entry (9 - 2 * j) + y * odd / 2 ^ 60 = omega (arith, h.even_small below) in
        let product = mul-le-mul_left y more in
        subst (λ k. entry (8 - 2 * j) + y * even / 2 ^ 60 ≤ entry k + y * (entry (9 - 2 * j) + y * odd / 2 ^ 60) / 2 ^ 60) last
        (divided (entry (8 - 2 * j)) (y * even) (y * (entry (9 - 2 * j) + y * odd / 2 ^ 60)) product);
  }
    where
      last : 8 - 2 * j ≡ 10 - 2 * (j + 1)
      last = omega (arith, below)

      divided : (e a b : ℕ) → a ≤ b → e + a / 2 ^ 60 ≤ e + b / 2 ^ 60
      divided e a b h = omega (arith, h)

  -- how near they are
  module _ (u : ℚ) (nonneg : whole 0 ≤ℚ u) (few : whole 16 *ℚ u ≤ℚ whole 7) (near : IsNear 0 6 y u) where
    pub next_even : IsNear 0 16 even (chain u (10 - 2 * j) j) → IsNear 0 16 (entry (8 - 2 * j) + y * even / 2 ^ 60) (chain u (10 - 2 * (j + 1)) (j + 1))
    next_even before =
        subst (IsNear 0 16 (entry (8 - 2 * j) + y * even / 2 ^ 60)) (even_next u j below)
        (sum_near (entry (8 - 2 * j)) (y * even / 2 ^ 60) (coefficient (8 - 2 * j)) (u *ℚ chain u (10 - 2 * j) j) (entry_near (8 - 2 * j) (omega arith))
        (product_below y even 7 6 u (chain u (10 - 2 * j) j) nonneg few near before even_fits))

    pub next_odd : IsNear 0 16 odd (chain u (11 - 2 * j) j) → IsNear 0 16 (entry (9 - 2 * j) + y * odd / 2 ^ 60) (chain u (11 - 2 * (j + 1)) (j + 1))
    next_odd before =
        subst (IsNear 0 16 (entry (9 - 2 * j) + y * odd / 2 ^ 60)) (odd_next u j below)
        (sum_near (entry (9 - 2 * j)) (y * odd / 2 ^ 60) (coefficient (9 - 2 * j)) (u *ℚ chain u (11 - 2 * j) j) (entry_near (9 - 2 * j) (omega arith))
        (product_below y odd 7 6 u (chain u (11 - 2 * j) j) nonneg few near before (omega (arith, h.odd_small, entry_small (10 - 2 * j) (omega arith)))))

-- at the end, where q is a quarter of the angle's square, and y its square
module _ (q even odd : ℕ) (small : q ≤ 2 ^ 60) (h : AreChains (q * q / 2 ^ 60) 5 even odd) where
  pub odd_fits : odd ≤ 2 ^ 60
  odd_fits = omega (arith, h.odd_small, entry_small 0 (omega arith))

  pub can_be_taken : q * odd / 2 ^ 60 ≤ even
  can_be_taken = omega (arith, part_of q odd small, h.odd_small, h.even_least)

  pub rest_fits : even - q * odd / 2 ^ 60 ≤ 2 ^ 60
  rest_fits =
      let product = mul-le-mul_right odd (part_of q q small) in
      divided even (entry 0) (q * q / 2 ^ 60 * odd) (q * odd) product h.even_most (entry_small 0 (omega arith))
    where
      divided : (e c a b : ℕ) → a ≤ b → e ≤ c + a / 2 ^ 60 → c ≤ 2 ^ 60 → e - b / 2 ^ 60 ≤ 2 ^ 60
      divided e c a b h k l = omega (arith, h, k, l)
