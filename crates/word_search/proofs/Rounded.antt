-- The numbers of directions: rounded middles of intervals are near the sines in them.
use Rattle.std.proofs.Common.{◌≡◌, refl, sym, ap, ◌∙◌, ℕ, ◌^◌, [], ◌∷◌, ℤ, pos, ◌+ℤ◌, ◌-ℤ◌, ◌*ℤ◌, ◌≤ℤ◌, lit<, arith}
use Rattle.std.proofs.lemmas.Int.{ints}
use Rattle.ring_solver.specs.Expression.{num, opp, ◌⊞◌, ◌⊟◌, ◌⊠◌}
use Rattle.ring_solver.specs.Ordered.{le}
use Rattle.ring_solver.proofs.Solver.{ring₁, ring₃}
use Rattle.ring_solver.proofs.Certificate.{le₂, moved}
use Rattle.rat_core.specs.Fraction.{ℚ, ◌÷◌, whole, ◌+ℚ◌, ◌-ℚ◌, ◌*ℚ◌, neg_ℚ, ◌≤ℚ◌, abs}
use Rattle.rat_core.proofs.Laws.{ℚ_ring, ℚ_ordered, le_trans, over-mul, int-add, int-sub, int-mul}
use Rattle.rat_core.proofs.Order.{abs_le, cancel_le, int_le}
use Rattle.trig_meaning.specs.FromSomeOn.{FromSomeOn}
use Rattle.trig_meaning.proofs.FromSomeOnLaws.{onward}
use Rattle.directed_fixed.specs.Ends.{Ends, Encloses}
use Rattle.word_search.specs.Places.{in_units, IsNearSine}

-- a unit of 2^−55 has 32 units of 2^−60
five_bits : (n : ℕ) → (pos n ÷ 2 ^ 55) *ℚ whole (2 ^ 60) ≡ whole n *ℚ whole 32
five_bits n =
    ap (λ k. (pos n ÷ 2 ^ 55) *ℚ k) (int-mul (pos (2 ^ 55)) (pos 32))
    ∙ ring₃ ℚ_ring (λ a b c. a ⊠ (b ⊠ c)) (λ a b c. a ⊠ b ⊠ c) refl (pos n ÷ 2 ^ 55) (whole (2 ^ 55)) (whole 32)
    ∙ ap (λ k. k *ℚ whole 32) (over-mul (pos n) (2 ^ 55) (lit< tt))

module _ (value : ℕ → ℚ) (s : Ends) (low z : ℤ) (narrow : s.hi ≤ℤ (s.lo +ℤ pos 256)) (is : low ≡ s.lo) (above : (pos 32 *ℤ z -ℤ pos 160) ≤ℤ low)
    (below : (low +ℤ pos 256) ≤ℤ (pos 32 *ℤ z +ℤ pos 160)) where
  lower : (pos 32 *ℤ z -ℤ pos 160) ≤ℤ s.lo
  lower = omega (arith, ints, is, above)

  upper : s.hi ≤ℤ (pos 32 *ℤ z +ℤ pos 160)
  upper = omega (arith, ints, is, narrow, below)

  near_at : (n : ℕ) → Encloses 60 s (value n) → abs (in_units z -ℚ value n) ≤ℚ pos 5 ÷ 2 ^ 55
  near_at n h =
      abs_le (in_units z -ℚ v) (pos 5 ÷ 2 ^ 55)
      (cancel_le (2 ^ 60) (lit< tt) (in_units z -ℚ v) (pos 5 ÷ 2 ^ 55) (moved ℚ_ordered (sym at_least) (sym room)
      (le₂ ℚ_ordered (λ Z U. Z ⊠ num 32 ⊟ U) (λ Z U. num 5 ⊠ num 32) (λ Z U. le (num 32 ⊠ Z ⊟ num 160) U ∷ []) refl Z U (from_low, tt))))
      (cancel_le (2 ^ 60) (lit< tt) (neg_ℚ (in_units z -ℚ v)) (pos 5 ÷ 2 ^ 55) (moved ℚ_ordered (sym at_most) (sym room)
      (le₂ ℚ_ordered (λ Z U. U ⊟ Z ⊠ num 32) (λ Z U. num 5 ⊠ num 32) (λ Z U. le U (num 32 ⊠ Z ⊞ num 160) ∷ []) refl Z U (to_high, tt))))
    where
      v : ℚ
      v = value n

      K : ℚ
      K = whole (2 ^ 60)

      Z : ℚ
      Z = z ÷ 1

      U : ℚ
      U = v *ℚ K

      from_low : whole 32 *ℚ Z -ℚ whole 160 ≤ℚ U
      from_low = le_trans (whole 32 *ℚ Z -ℚ whole 160) (s.lo ÷ 1) U
          (moved ℚ_ordered (int-sub (pos 32 *ℤ z) (pos 160) ∙ ap (λ q. q -ℚ whole 160) (int-mul (pos 32) z)) refl
          (int_le (pos 32 *ℤ z -ℤ pos 160) s.lo lower)) h.low

      to_high : U ≤ℚ whole 32 *ℚ Z +ℚ whole 160
      to_high = le_trans U (s.hi ÷ 1) (whole 32 *ℚ Z +ℚ whole 160) h.high
          (moved ℚ_ordered refl (int-add (pos 32 *ℤ z) (pos 160) ∙ ap (λ q. q +ℚ whole 160) (int-mul (pos 32) z))
          (int_le s.hi (pos 32 *ℤ z +ℤ pos 160) upper))

      number : in_units z *ℚ K ≡ Z *ℚ whole 32
      number = ring₃ ℚ_ring (λ z u k. z ⊠ u ⊠ k) (λ z u k. z ⊠ (u ⊠ k)) refl Z (pos 1 ÷ 2 ^ 55) K ∙ ap (λ k. Z *ℚ k) (five_bits 1)
          ∙ ring₁ ℚ_ring (λ z. z ⊠ (num 1 ⊠ num 32)) (λ z. z ⊠ num 32) refl Z

      at_least : (in_units z -ℚ v) *ℚ K ≡ Z *ℚ whole 32 -ℚ U
      at_least = ring₃ ℚ_ring (λ q v k. (q ⊟ v) ⊠ k) (λ q v k. q ⊠ k ⊟ v ⊠ k) refl (in_units z) v K ∙ ap (λ t. t -ℚ U) number

      at_most : neg_ℚ (in_units z -ℚ v) *ℚ K ≡ U -ℚ Z *ℚ whole 32
      at_most = ring₃ ℚ_ring (λ q v k. opp (q ⊟ v) ⊠ k) (λ q v k. v ⊠ k ⊟ q ⊠ k) refl (in_units z) v K ∙ ap (λ t. U -ℚ t) number

      room : (pos 5 ÷ 2 ^ 55) *ℚ K ≡ whole 5 *ℚ whole 32
      room = five_bits 5

pub near_rounded : (value : ℕ → ℚ) (s : Ends) (low z : ℤ) → FromSomeOn (λ n. Encloses 60 s (value n)) → s.hi ≤ℤ (s.lo +ℤ pos 256) → low ≡ s.lo
    → (pos 32 *ℤ z -ℤ pos 160) ≤ℤ low → (low +ℤ pos 256) ≤ℤ (pos 32 *ℤ z +ℤ pos 160) → IsNearSine z value
near_rounded value s low z encloses narrow is above below = onward (λ n h. near_at value s low z narrow is above below n h) encloses
