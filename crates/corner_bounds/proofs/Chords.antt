-- Values between others, and how near the approximation of the sine is to them: along a straight line, and between four corners.
use Rattle.std.proofs.Common.{◌≡◌, refl, sym, ap, ap₂, ◌∙◌, subst, ℕ, ◌^◌, pos, [], ◌∷◌}
use Rattle.ring_solver.specs.Expression.{var, num, ◌⊞◌, ◌⊟◌, ◌⊠◌, opp}
use Rattle.ring_solver.specs.Ordered.{le, times, same}
use Rattle.ring_solver.proofs.Solver.{ring₁, ring₂, ring₃, ring₄}
use Rattle.ring_solver.proofs.Certificate.{le₁, le₅, certified, moved}
use Rattle.rat_core.specs.Fraction.{ℚ, ◌÷◌, whole, ◌+ℚ◌, ◌-ℚ◌, ◌*ℚ◌, neg_ℚ, ◌≤ℚ◌, abs}
use Rattle.rat_core.proofs.Laws.{ℚ_ring, ℚ_ordered, le_trans, le_or_lt, lt_le, mul_nonneg}
use Rattle.rat_core.proofs.Order.{over_nonneg, difference_nonneg, le_abs, neg_le_abs, abs_le, neg_nonneg}
use Rattle.rat_core.proofs.Sizes.{negated_low, negated_high, abs_by_way}
use Rattle.trig_meaning.specs.PartialSums.{pi_sum}
use Rattle.trig_meaning.specs.Turn.{sine_of_turn}
use Rattle.trig_meaning.specs.Laws.{chord}
use Rattle.trig_meaning.proofs.Quarters.{half_twice}

abbrev half : ℚ
half = pos 1 ÷ 2

-- on the way from x, where u is −1, to y, where it is 1
abbrev pub mix : ℚ → ℚ → ℚ → ℚ
mix u x y = (pos 1 ÷ 2) *ℚ (whole 1 -ℚ u) *ℚ x +ℚ (pos 1 ÷ 2) *ℚ (whole 1 +ℚ u) *ℚ y

-- between the four values at the corners of a square: below left and right, above left and right
abbrev pub mix_four : ℚ → ℚ → ℚ → ℚ → ℚ → ℚ → ℚ
mix_four a b x y z w = mix b (mix a x y) (mix a z w)

-- a number from −1 to 1
pub record IsShare (u : ℚ) : Type 0 where
  pub low : neg_ℚ (whole 1) ≤ℚ u
  pub high : u ≤ℚ whole 1

first_share : (u : ℚ) → IsShare u → whole 0 ≤ℚ half *ℚ (whole 1 -ℚ u)
first_share u h = mul_nonneg half (whole 1 -ℚ u) (over_nonneg 1 2) (difference_nonneg u (whole 1) h.high)

second_share : (u : ℚ) → IsShare u → whole 0 ≤ℚ half *ℚ (whole 1 +ℚ u)
second_share u h = mul_nonneg half (whole 1 +ℚ u) (over_nonneg 1 2)
    (le₁ ℚ_ordered (λ u. num 0) (λ u. num 1 ⊞ u) (λ u. le (opp (num 1)) u ∷ []) refl u (h.low, tt))

-- what is at most both is at most what lies between
pub mix_least : (u x y l : ℚ) → IsShare u → l ≤ℚ x → l ≤ℚ y → l ≤ℚ mix u x y
mix_least u x y l share h k =
    le₅ ℚ_ordered (λ q u x y l. l) (λ q u x y l. q ⊠ (num 1 ⊟ u) ⊠ x ⊞ q ⊠ (num 1 ⊞ u) ⊠ y)
    (λ q u x y l. times (q ⊠ (num 1 ⊟ u)) l x ∷ times (q ⊠ (num 1 ⊞ u)) l y ∷ same l (num 1) (q ⊠ num 2) ∷ []) refl half u x y l
    (first_share u share, h, (second_share u share, k, (sym half_twice, tt)))

pub mix_four_least : (a b x y z w l : ℚ) → IsShare a → IsShare b → l ≤ℚ x → l ≤ℚ y → l ≤ℚ z → l ≤ℚ w → l ≤ℚ mix_four a b x y z w
mix_four_least a b x y z w l share share' h k m o =
    mix_least b (mix a x y) (mix a z w) l share' (mix_least a x y l share h k) (mix_least a z w l share m o)

-- near values have near values between them
mix_at_most : (u x y x' y' e : ℚ) → IsShare u → x -ℚ x' ≤ℚ e → y -ℚ y' ≤ℚ e → mix u x y -ℚ mix u x' y' ≤ℚ e
mix_at_most u x y x' y' e share h k =
    certified ℚ_ordered (half ∷ u ∷ x ∷ y ∷ x' ∷ y' ∷ e ∷ [])
    ((var 0 ⊠ (num 1 ⊟ var 1) ⊠ var 2 ⊞ var 0 ⊠ (num 1 ⊞ var 1) ⊠ var 3) ⊟ (var 0 ⊠ (num 1 ⊟ var 1) ⊠ var 4 ⊞ var 0 ⊠ (num 1 ⊞ var 1) ⊠ var 5))
    (var 6)
    (times (var 0 ⊠ (num 1 ⊟ var 1)) (var 2 ⊟ var 4) (var 6) ∷ times (var 0 ⊠ (num 1 ⊞ var 1)) (var 3 ⊟ var 5) (var 6)
    ∷ same (var 6) (var 0 ⊠ num 2) (num 1) ∷ [])
    refl (first_share u share, h, (second_share u share, k, (half_twice, tt)))

pub mix_near : (u x y x' y' e : ℚ) → IsShare u → abs (x -ℚ x') ≤ℚ e → abs (y -ℚ y') ≤ℚ e → abs (mix u x y -ℚ mix u x' y') ≤ℚ e
mix_near u x y x' y' e share h k =
    abs_le (mix u x y -ℚ mix u x' y') e
    (mix_at_most u x y x' y' e share (le_trans (x -ℚ x') (abs (x -ℚ x')) e (le_abs (x -ℚ x')) h)
    (le_trans (y -ℚ y') (abs (y -ℚ y')) e (le_abs (y -ℚ y')) k))
    (subst (λ t. t ≤ℚ e) (turned (mix u x y) (mix u x' y'))
    (mix_at_most u x' y' x y e share (subst (λ t. t ≤ℚ e) (sym (turned x x')) (le_trans (neg_ℚ (x -ℚ x')) (abs (x -ℚ x')) e (neg_le_abs (x -ℚ x')) h))
    (subst (λ t. t ≤ℚ e) (sym (turned y y')) (le_trans (neg_ℚ (y -ℚ y')) (abs (y -ℚ y')) e (neg_le_abs (y -ℚ y')) k))))
  where
    turned : (x y : ℚ) → y -ℚ x ≡ neg_ℚ (x -ℚ y)
    turned = ring₂ ℚ_ring (λ x y. y ⊟ x) (λ x y. opp (x ⊟ y)) refl

-- ---- the law of second order, for one n

-- the bound over 2·h
abbrev pub bound : ℕ → ℚ → ℚ
bound n h = whole 2 *ℚ (pi_sum n *ℚ pi_sum n) *ℚ (h *ℚ h) +ℚ pos 1 ÷ 2 ^ 50

abbrev pub IsOfSecondOrder : ℕ → Type 0
IsOfSecondOrder n = (t h u : ℚ) → whole 0 ≤ℚ h → h ≤ℚ pos 1 ÷ 8 → neg_ℚ (whole 1) ≤ℚ u → u ≤ℚ whole 1 →
    abs (sine_of_turn n (t +ℚ u *ℚ h) -ℚ chord (sine_of_turn n) t h u) ≤ℚ bound n h

module _ (n : ℕ) (law : IsOfSecondOrder n) where
  abbrev s : ℚ → ℚ
  s t = sine_of_turn n t

  -- a step of either sign
  signed : (t h u : ℚ) → abs h ≤ℚ pos 1 ÷ 8 → IsShare u → abs (s (t +ℚ u *ℚ h) -ℚ mix u (s (t -ℚ h)) (s (t +ℚ h))) ≤ℚ bound n h
  signed t h u small share =
      le_or_lt (whole 0) h
      (λ k. law t h u k (le_trans h (abs h) (pos 1 ÷ 8) (le_abs h) small) share.low share.high)
      (λ k. let back = law t (neg_ℚ h) (neg_ℚ u) (neg_nonneg h (lt_le h (whole 0) k))
      (le_trans (neg_ℚ h) (abs h) (pos 1 ÷ 8) (neg_le_abs h) small) (negated_low u (whole 1) share.high) (negated_high u (whole 1) share.low) in
      moved ℚ_ordered (ap₂ (λ v w. abs (v -ℚ w)) (ap s (place t h u)) (chords t h u)) (bounds h) back)
    where
      place : (t h u : ℚ) → t +ℚ neg_ℚ u *ℚ neg_ℚ h ≡ t +ℚ u *ℚ h
      place = ring₃ ℚ_ring (λ t h u. t ⊞ opp u ⊠ opp h) (λ t h u. t ⊞ u ⊠ h) refl

      chords : (t h u : ℚ) → chord s t (neg_ℚ h) (neg_ℚ u) ≡ mix u (s (t -ℚ h)) (s (t +ℚ h))
      chords t h u =
          ap₂ (λ v w. half *ℚ (whole 1 -ℚ neg_ℚ u) *ℚ v +ℚ half *ℚ (whole 1 +ℚ neg_ℚ u) *ℚ w)
          (ap s (ring₂ ℚ_ring (λ t h. t ⊟ opp h) (λ t h. t ⊞ h) refl t h)) (ap s (ring₂ ℚ_ring (λ t h. t ⊞ opp h) (λ t h. t ⊟ h) refl t h))
          ∙ ring₄ ℚ_ring (λ q u x y. q ⊠ (num 1 ⊟ opp u) ⊠ y ⊞ q ⊠ (num 1 ⊞ opp u) ⊠ x) (λ q u x y. q ⊠ (num 1 ⊟ u) ⊠ x ⊞ q ⊠ (num 1 ⊞ u) ⊠ y) refl
          half u (s (t -ℚ h)) (s (t +ℚ h))

      bounds : (h : ℚ) → bound n (neg_ℚ h) ≡ bound n h
      bounds h = ap (λ z. whole 2 *ℚ (pi_sum n *ℚ pi_sum n) *ℚ z +ℚ pos 1 ÷ 2 ^ 50) (ring₁ ℚ_ring (λ h. opp h ⊠ opp h) (λ h. h ⊠ h) refl h)

  -- between four corners, first across and then up
  pub between_corners : (t g h a b : ℚ) → abs g ≤ℚ pos 1 ÷ 8 → abs h ≤ℚ pos 1 ÷ 8 → IsShare a → IsShare b
      → abs (s (t +ℚ a *ℚ g +ℚ b *ℚ h) -ℚ mix_four a b (s (t -ℚ h -ℚ g)) (s (t -ℚ h +ℚ g)) (s (t +ℚ h -ℚ g)) (s (t +ℚ h +ℚ g))) ≤ℚ bound n g +ℚ bound n h
  between_corners t g h a b small small' share share' =
      let base = t +ℚ a *ℚ g in
      let below = mix a (s (t -ℚ h -ℚ g)) (s (t -ℚ h +ℚ g)) in
      let above = mix a (s (t +ℚ h -ℚ g)) (s (t +ℚ h +ℚ g)) in
      let up : abs (s (base +ℚ b *ℚ h) -ℚ mix b (s (base -ℚ h)) (s (base +ℚ h))) ≤ℚ bound n h = signed base h b small' share' in
      let left : abs (s (base -ℚ h) -ℚ below) ≤ℚ bound n g =
      subst (λ z. abs (s z -ℚ below) ≤ℚ bound n g) (ring₃ ℚ_ring (λ t h m. t ⊟ h ⊞ m) (λ t h m. t ⊞ m ⊟ h) refl t h (a *ℚ g))
      (signed (t -ℚ h) g a small share) in
      let right : abs (s (base +ℚ h) -ℚ above) ≤ℚ bound n g =
      subst (λ z. abs (s z -ℚ above) ≤ℚ bound n g) (ring₃ ℚ_ring (λ t h m. t ⊞ h ⊞ m) (λ t h m. t ⊞ m ⊞ h) refl t h (a *ℚ g))
      (signed (t +ℚ h) g a small share) in
      let across : abs (mix b (s (base -ℚ h)) (s (base +ℚ h)) -ℚ mix b below above) ≤ℚ bound n g =
      mix_near b (s (base -ℚ h)) (s (base +ℚ h)) below above (bound n g) share' left right in
      let way = abs_by_way (mix b below above) (mix b (s (base -ℚ h)) (s (base +ℚ h))) (s (base +ℚ b *ℚ h)) in
      le₅ ℚ_ordered (λ d x y p q. d) (λ d x y p q. p ⊞ q) (λ d x y p q. le d (x ⊞ y) ∷ le x p ∷ le y q ∷ []) refl
      (abs (s (base +ℚ b *ℚ h) -ℚ mix b below above)) (abs (mix b (s (base -ℚ h)) (s (base +ℚ h)) -ℚ mix b below above))
      (abs (s (base +ℚ b *ℚ h) -ℚ mix b (s (base -ℚ h)) (s (base +ℚ h)))) (bound n g) (bound n h) (way, (across, (up, tt)))
