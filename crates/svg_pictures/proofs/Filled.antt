-- Lists of which the first elements are filled, one after the other.
use Rattle.std.proofs.Common.{ℕ, ◌+◌, ◌<◌, List, length, get_or, set, take, subst, sym, arith}
use Rattle.std.proofs.lemmas.List.{get_or-set_same, get_or-set_other, get_or-take}
use borrow.Author.Count.{below_more}

module _ {X : Type 0} (P : ℕ → X → Type 0) where
  -- what holds of the first j elements
  abbrev pub IsFilled : List X → ℕ → Type 0
  IsFilled xs j = (i : ℕ) → i < j → (d : X) → P i (get_or xs i d)

  -- one more element
  pub filled_more : (xs : List X) (j : ℕ) (y : X) → j < length xs → IsFilled xs j → P j y → IsFilled (set xs j y) (j + 1)
  filled_more xs j y within before here =
      below_more (λ i. (d : X) → P i (get_or (set xs j y) i d)) j
      (λ i below d. subst (P i) (sym (get_or-set_other xs j i y d (omega (arith, below)))) (before i below d))
      (λ d. subst (P j) (sym (get_or-set_same xs j y d within)) here)

  -- the elements that are filled, alone
  pub filled_taken : (xs : List X) (n : ℕ) → IsFilled xs n → IsFilled (take n xs) n
  filled_taken xs n h = λ i below d. subst (P i) (sym (get_or-take n xs i d below)) (h i below d)
