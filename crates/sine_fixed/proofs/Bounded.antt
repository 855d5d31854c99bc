-- The approximations of the sine are at most 1 in size, and 2^-60 more.
use Rattle.std.proofs.Common.{◌≡◌, refl, sym, ap, ◌∙◌, ℕ, ◌+◌, ◌^◌, ◌≤◌, pos, arith, [], ◌∷◌}
use Rattle.ring_solver.specs.Expression.{var, num, ◌⊞◌, ◌⊟◌, ◌⊠◌, opp}
use Rattle.ring_solver.specs.Ordered.{le}
use Rattle.ring_solver.proofs.Solver.{ring₂, ring_by}
use Rattle.ring_solver.proofs.Certificate.{le₁, le₂, certified, moved}
use Rattle.rat_core.specs.Fraction.{ℚ, ◌÷◌, whole, ◌+ℚ◌, ◌-ℚ◌, ◌*ℚ◌, neg_ℚ, ◌≤ℚ◌, ◌<ℚ◌, at_most, abs}
use Rattle.rat_core.proofs.Laws.{ℚ_ring, ℚ_ordered, le_refl, le_trans, le_or_lt, lt_le, lt_not_le, mul_nonneg}
use Rattle.rat_core.proofs.Order.{over_nonneg, le_abs, mul_mono_both}
use Rattle.rat_core.proofs.Sizes.{abs_nonneg, abs-square}
use Rattle.trig_meaning.specs.Turn.{sine_of_turn}
use Rattle.trig_meaning.proofs.Pieces.{half_turn_negates_lem}
use Rattle.trig_meaning.proofs.Quarters.{half_twice, at_quarter, unit}
use Rattle.trig_meaning.proofs.QuarterSums.{quarter_sine}
use Rattle.trig_meaning.proofs.Addition.{adds}

-- the greatest size
abbrev pub most : ℚ
most = pos (2 ^ 60 + 1) ÷ 2 ^ 60

square_room : whole 1 +ℚ unit +ℚ pos 1 ÷ 2 ^ 66 <ℚ most *ℚ most
unfolding at_most ◌+ℚ◌ ◌*ℚ◌ ◌÷◌
square_room = record { lt = tt }

module _ (n : ℕ) (late : 20 ≤ n) where
  abbrev q : ℚ
  q = pos 1 ÷ 2

  abbrev s : ℚ → ℚ
  s t = sine_of_turn n t

  half_within : neg_ℚ q ≤ℚ q
  half_within = le₁ ℚ_ordered (λ q. opp q) (λ q. q) (λ q. le (num 0) q ∷ le (num 0) q ∷ []) refl q (over_nonneg 1 2, (over_nonneg 1 2, tt))

  -- at a quarter turn it is nearly 1
  quarter_at_most : s q ≤ℚ whole 1 +ℚ unit
  quarter_at_most =
      le₂ ℚ_ordered (λ x e. x) (λ x e. num 1 ⊞ e) (λ x e. le (x ⊟ num 1) e ∷ []) refl (s q) unit (
        le_trans (s q -ℚ whole 1) (abs (s q -ℚ whole 1)) unit (le_abs (s q -ℚ whole 1))
            (moved ℚ_ordered (ap (λ x. abs (x -ℚ whole 1)) (sym (at_quarter n late q half_within (le_refl q)))) refl
            (quarter_sine n (omega (arith, late)))),
        tt,
      )

  -- the squares of two sines a quarter turn apart add up to that
  squares : (t : ℚ) → s (t +ℚ q) *ℚ s (t +ℚ q) +ℚ s t *ℚ s t ≤ℚ s q +ℚ pos 1 ÷ 2 ^ 66
  squares t =
      let a = s (t +ℚ q) in
      let b = s t in
      let half_more : t +ℚ q +ℚ q ≡ t +ℚ whole 1 =
      ring_by ℚ_ring (t ∷ q ∷ []) (var 0 ⊞ var 1 ⊞ var 1) (var 0 ⊞ num 1) (num 1) (var 1 ⊠ num 2) (num 1) refl half_twice
      in
      let turned : s (t +ℚ q +ℚ q) ≡ neg_ℚ b = ap s half_more ∙ half_turn_negates_lem n t in
      let difference : t +ℚ q -ℚ t ≡ q = ring₂ ℚ_ring (λ t q. t ⊞ q ⊟ t) (λ t q. q) refl t q in
      certified ℚ_ordered (a ∷ b ∷ s q ∷ (pos 1 ÷ 2 ^ 66) ∷ []) (var 0 ⊠ var 0 ⊞ var 1 ⊠ var 1) (var 2 ⊞ var 3)
      (le (var 0 ⊠ var 0 ⊟ var 1 ⊠ opp (var 1) ⊟ var 2) (var 3) ∷ []) refl (
        le_trans _ _ _ (le_abs (a *ℚ a -ℚ b *ℚ neg_ℚ b -ℚ s q))
            (moved ℚ_ordered (ap (λ x. abs (a *ℚ a -ℚ b *ℚ x -ℚ s (t +ℚ q -ℚ t))) turned ∙ ap (λ x. abs (a *ℚ a -ℚ b *ℚ neg_ℚ b -ℚ s x)) difference) refl
            (adds n late t (t +ℚ q))),
        tt,
      )

  pub at_most_one : (t : ℚ) → abs (s t) ≤ℚ most
  at_most_one t =
      let a = abs (s t) in
      le_or_lt a most (λ h. h)
      (λ l. lt_not_le (whole 1 +ℚ unit +ℚ pos 1 ÷ 2 ^ 66) (most *ℚ most) square_room
      (le_trans (most *ℚ most) (a *ℚ a) (whole 1 +ℚ unit +ℚ pos 1 ÷ 2 ^ 66)
      (mul_mono_both most a most a (over_nonneg (2 ^ 60 + 1) (2 ^ 60)) (abs_nonneg (s t)) (lt_le most a l) (lt_le most a l))
      (moved ℚ_ordered (sym (abs-square (s t))) refl
      (certified ℚ_ordered ((s (t +ℚ q) *ℚ s (t +ℚ q)) ∷ (s t *ℚ s t) ∷ s q ∷ unit ∷ (pos 1 ÷ 2 ^ 66) ∷ []) (var 1) (num 1 ⊞ var 3 ⊞ var 4)
      (le (num 0) (var 0) ∷ le (var 0 ⊞ var 1) (var 2 ⊞ var 4) ∷ le (var 2) (num 1 ⊞ var 3) ∷ []) refl (
        moved ℚ_ordered refl (abs-square (s (t +ℚ q)))
            (mul_nonneg' (abs (s (t +ℚ q))) (abs_nonneg (s (t +ℚ q)))),
        (squares t, (quarter_at_most, tt)),
      )))))
    where
      mul_nonneg' : (x : ℚ) → whole 0 ≤ℚ x → whole 0 ≤ℚ x *ℚ x
      mul_nonneg' x h = mul_nonneg x x h h
