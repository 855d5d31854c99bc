-- The least and the greatest of the heights so far.
use Rattle.std.proofs.Common.{◌≡◌, refl, sym, subst, ap, ◌∙◌, ◌+◌, ◌<◌, ◌≤ℤ◌, ◌<ℤ◌, ◌⊎◌, Bool}
use Rattle.std.proofs.Common.{true, false, not, T, ℤ, ℕ, List, length, slice_index_or, inl, inr, arith}
use Rattle.std.specs.Int.{int_min, int_max}
use Rattle.std.specs.Int.Signed.{lt_z, lt_z_yes, lt_z_no}
use Rattle.std.proofs.lemmas.Bool.{cases_lt}
use Rattle.std.proofs.lemmas.Int.{ints, clamps}
use Rattle.std.proofs.lemmas.List.{get_or_default}
use Rattle.word_search.specs.declared.place.Place.{Place}
use Rattle.word_search.specs.Places.{height_over}

-- one of two numbers is at most the other
pub int_order : (a b : ℤ) → (a ≤ℤ b) ⊎ (b ≤ℤ a)
int_order a b = by_test (lt_z b a) refl
  where
    by_test : (t : Bool) → lt_z b a ≡ t → (a ≤ℤ b) ⊎ (b ≤ℤ a)
    by_test true h = let less : b <ℤ a = lt_z_yes (subst T (sym h) tt) in inr (omega (arith, ints, less))
    by_test false h = inl (lt_z_no (subst (λ t. T (not t)) (sym h) tt))

module _ (shift : Place) (places : List Place) where
  -- a place has this height
  abbrev pub IsFirst : ℤ → Type 0
  IsFirst h = (i : ℕ) × (i < length places) × ((z : Place) → h ≡ height_over shift (slice_index_or places i z))

  met_at : (i : ℕ) (y : Place) (h : ℤ) → i < length places → h ≡ height_over shift (slice_index_or places i y) → IsFirst h
  met_at i y h below is = (i, below, λ z. is ∙ ap (height_over shift) (get_or_default places i y z below))

  pub is_first : (h : ℤ) (y : Place) → 0 < length places → h ≡ height_over shift (slice_index_or places 0 y) → IsFirst h
  is_first h y some is = met_at 0 y h some is

  -- the lesser of two is one of them
  either_met : (a b h : ℤ) → (h ≡ a) ⊎ (h ≡ b) → IsFirst a → IsFirst b → IsFirst h
  either_met a b h (inl is) k l = subst IsFirst (sym is) k
  either_met a b h (inr is) k l = subst IsFirst (sym is) l

  least_is : (a b : ℤ) → (int_min a b ≡ a) ⊎ (int_min a b ≡ b)
  least_is a b = elim (int_order a b) [
    | inl h ↦ inl (omega (arith, ints, clamps, h))
    | inr h ↦ inr (omega (arith, ints, clamps, h))
  ]

  greatest_is : (a b : ℤ) → (int_max a b ≡ a) ⊎ (int_max a b ≡ b)
  greatest_is a b = elim (int_order a b) [
    | inl h ↦ inr (omega (arith, ints, clamps, h))
    | inr h ↦ inl (omega (arith, ints, clamps, h))
  ]

  pub least_next : (i : ℕ) (y : Place) (so_far height next : ℤ) → i < length places
      → ((j : ℕ) (z : Place) → j < i → so_far ≤ℤ height_over shift (slice_index_or places j z)) → IsFirst so_far
      → height ≡ height_over shift (slice_index_or places i y) → next ≡ int_min so_far height
      → ((j : ℕ) (z : Place) → j < i + 1 → next ≤ℤ height_over shift (slice_index_or places j z)) × IsFirst next
  least_next i y so_far height next below before met here is = (
    λ j z h. elim (cases_lt j i) [
      | inl earlier ↦ under so_far height next _ is (inl (before j z earlier))
      | inr not ↦
          let same : j ≡ i = omega (arith, h, not) in
          let there : height ≡ height_over shift (slice_index_or places j z) =
          here ∙ ap (height_over shift) (get_or_default places i y z below ∙ ap (λ k. slice_index_or places k z) (sym same)) in
          under so_far height next _ is (inr (omega (arith, ints, there)))
    ],
    subst IsFirst (sym is) (either_met so_far height (int_min so_far height) (least_is so_far height) met (met_at i y height below here)),
  )
    where
      under : (a b c d : ℤ) → c ≡ int_min a b → (a ≤ℤ d) ⊎ (b ≤ℤ d) → c ≤ℤ d
      under a b c d e (inl h) = omega (arith, ints, clamps, e, h)
      under a b c d e (inr h) = omega (arith, ints, clamps, e, h)

  pub greatest_next : (i : ℕ) (y : Place) (so_far height next : ℤ) → i < length places
      → ((j : ℕ) (z : Place) → j < i → height_over shift (slice_index_or places j z) ≤ℤ so_far) → IsFirst so_far
      → height ≡ height_over shift (slice_index_or places i y) → next ≡ int_max so_far height
      → ((j : ℕ) (z : Place) → j < i + 1 → height_over shift (slice_index_or places j z) ≤ℤ next) × IsFirst next
  greatest_next i y so_far height next below before met here is = (
    λ j z h. elim (cases_lt j i) [
      | inl earlier ↦ over so_far height next _ is (inl (before j z earlier))
      | inr not ↦
          let same : j ≡ i = omega (arith, h, not) in
          let there : height ≡ height_over shift (slice_index_or places j z) =
          here ∙ ap (height_over shift) (get_or_default places i y z below ∙ ap (λ k. slice_index_or places k z) (sym same)) in
          over so_far height next _ is (inr (omega (arith, ints, there)))
    ],
    subst IsFirst (sym is) (either_met so_far height (int_max so_far height) (greatest_is so_far height) met (met_at i y height below here)),
  )
    where
      over : (a b c d : ℤ) → c ≡ int_max a b → (d ≤ℤ a) ⊎ (d ≤ℤ b) → d ≤ℤ c
      over a b c d e (inl h) = omega (arith, ints, clamps, e, h)
      over a b c d e (inr h) = omega (arith, ints, clamps, e, h)
