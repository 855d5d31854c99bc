-- The certificate: l ≤ r, where r - l is a sum of what the steps give. The steps are found on paper, and the polynomials
-- are compared by `refl`. `le₁` to `le₆` take the values of the variables as arguments.
use Rattle.std.proofs.Common.{◌≡◌, refl, ap, ◌∙◌, subst₂, List, [], ◌∷◌}
use Rattle.ring_solver.specs.Expression.{Expression, var, num, ◌⊞◌, ◌⊟◌, ◌⊠◌, opp, evaluate, Alike}
use Rattle.ring_solver.specs.Ordered.{OrderedRing, Step, le, times, same, Holds, smaller, larger}
use Rattle.ring_solver.proofs.Solver.{ring, ring₂, ring₃}

module _ (O : OrderedRing) where
  -- an order of equals
  pub moved : {x x' y y' : O.ring.Element} → x ≡ x' → y ≡ y' → O.AtMost x y → O.AtMost x' y'
  moved p q h = subst₂ O.AtMost p q h

  pub at_most_of_same : {x y : O.ring.Element} → x ≡ y → O.AtMost x y
  at_most_of_same {x} p = moved refl p (O.at_most_refl x)

  pub add_mono_both : (x y z w : O.ring.Element) → O.AtMost x y → O.AtMost z w → O.AtMost (O.ring.add x z) (O.ring.add y w)
  add_mono_both x y z w h k =
      O.at_most_trans (O.ring.add x z) (O.ring.add x w) (O.ring.add y w) (O.add_mono x z w k)
      (moved (O.ring.add_comm w x) (O.ring.add_comm w y) (O.add_mono w x y h))

  -- what is added on both sides is cancelled
  pub add_cancel_at_most : (z x y : O.ring.Element) → O.AtMost (O.ring.add z x) (O.ring.add z y) → O.AtMost x y
  add_cancel_at_most z x y h = moved (back x) (back y) (O.add_mono (O.ring.neg z) (O.ring.add z x) (O.ring.add z y) h)
    where
      back : (t : O.ring.Element) → O.ring.add (O.ring.neg z) (O.ring.add z t) ≡ t
      back = ring₂ O.ring (λ z t. opp z ⊞ (z ⊞ t)) (λ z t. t) refl z

  -- a factor of at least 0
  pub mul_mono : (k x y : O.ring.Element) → O.AtMost (O.ring.whole 0) k → O.AtMost x y → O.AtMost (O.ring.mul k x) (O.ring.mul k y)
  mul_mono k x y p h =
      moved (ring₂ O.ring (λ k x. k ⊠ x ⊞ num 0) (λ k x. k ⊠ x) refl k x) (ring₃ O.ring (λ k x y. k ⊠ x ⊞ k ⊠ (y ⊟ x)) (λ k x y. k ⊠ y) refl k x y)
      (O.add_mono (O.ring.mul k x) (O.ring.whole 0) (O.ring.mul k (O.ring.add y (O.ring.neg x)))
      (O.mul_nonneg k (O.ring.add y (O.ring.neg x)) p
      (moved (ring₂ O.ring (λ x y. opp x ⊞ x) (λ x y. num 0) refl x y) (O.ring.add_comm (O.ring.neg x) y) (O.add_mono (O.ring.neg x) x y h))))

  module _ (ρ : List O.ring.Element) where
    smaller_at_most : (s : List Step) → Holds O ρ s → O.AtMost (evaluate O.ring ρ (smaller s)) (evaluate O.ring ρ (larger s))
    smaller_at_most [] h = O.at_most_refl (O.ring.whole 0)
    smaller_at_most (le a b ∷ s) h =
        add_mono_both (evaluate O.ring ρ a) (evaluate O.ring ρ b) (evaluate O.ring ρ (smaller s)) (evaluate O.ring ρ (larger s)) h.0 (smaller_at_most s h.1)
    smaller_at_most (times k a b ∷ s) h =
        add_mono_both (evaluate O.ring ρ (k ⊠ a)) (evaluate O.ring ρ (k ⊠ b)) (evaluate O.ring ρ (smaller s)) (evaluate O.ring ρ (larger s))
        (mul_mono (evaluate O.ring ρ k) (evaluate O.ring ρ a) (evaluate O.ring ρ b) h.0 h.1) (smaller_at_most s h.2)
    smaller_at_most (same k a b ∷ s) h =
        add_mono_both (evaluate O.ring ρ (k ⊠ a)) (evaluate O.ring ρ (k ⊠ b)) (evaluate O.ring ρ (smaller s)) (evaluate O.ring ρ (larger s))
        (at_most_of_same (ap (O.ring.mul (evaluate O.ring ρ k)) h.0)) (smaller_at_most s h.1)

    pub certified : (l r : Expression) (s : List Step) → Alike (l ⊞ larger s) (r ⊞ smaller s) → Holds O ρ s
        → O.AtMost (evaluate O.ring ρ l) (evaluate O.ring ρ r)
    certified l r s e h =
        let L = evaluate O.ring ρ l in
        let R = evaluate O.ring ρ r in
        let a = evaluate O.ring ρ (smaller s) in
        let b = evaluate O.ring ρ (larger s) in
        add_cancel_at_most b L R
        (O.at_most_trans (O.ring.add b L) (O.ring.add R a) (O.ring.add b R)
        (at_most_of_same (O.ring.add_comm b L ∙ ring O.ring ρ (l ⊞ larger s) (r ⊞ smaller s) e))
        (moved refl (O.ring.add_comm R b) (O.add_mono R a b (smaller_at_most s h))))

  pub le₁ : (l r : Expression → Expression) (s : Expression → List Step) → Alike (l (var 0) ⊞ larger (s (var 0))) (r (var 0) ⊞ smaller (s (var 0)))
      → (x : O.ring.Element) → Holds O (x ∷ []) (s (var 0)) → O.AtMost (evaluate O.ring (x ∷ []) (l (var 0))) (evaluate O.ring (x ∷ []) (r (var 0)))
  le₁ l r s e x = certified (x ∷ []) (l (var 0)) (r (var 0)) (s (var 0)) e

  pub le₂ : (l r : Expression → Expression → Expression) (s : Expression → Expression → List Step)
      → Alike (l (var 0) (var 1) ⊞ larger (s (var 0) (var 1))) (r (var 0) (var 1) ⊞ smaller (s (var 0) (var 1))) → (x y : O.ring.Element)
      → Holds O (x ∷ y ∷ []) (s (var 0) (var 1)) → O.AtMost (evaluate O.ring (x ∷ y ∷ []) (l (var 0) (var 1))) (evaluate O.ring (x ∷ y ∷ [])
      (r (var 0) (var 1)))
  le₂ l r s e x y = certified (x ∷ y ∷ []) (l (var 0) (var 1)) (r (var 0) (var 1)) (s (var 0) (var 1)) e

  pub le₃ : (l r : Expression → Expression → Expression → Expression) (s : Expression → Expression → Expression → List Step)
      → Alike (l (var 0) (var 1) (var 2) ⊞ larger (s (var 0) (var 1) (var 2))) (r (var 0) (var 1) (var 2) ⊞ smaller (s (var 0) (var 1) (var 2)))
      → (x y z : O.ring.Element) → Holds O (x ∷ y ∷ z ∷ []) (s (var 0) (var 1) (var 2))
      → O.AtMost (evaluate O.ring (x ∷ y ∷ z ∷ []) (l (var 0) (var 1) (var 2))) (evaluate O.ring (x ∷ y ∷ z ∷ []) (r (var 0) (var 1) (var 2)))
  le₃ l r s e x y z = certified (x ∷ y ∷ z ∷ []) (l (var 0) (var 1) (var 2)) (r (var 0) (var 1) (var 2)) (s (var 0) (var 1) (var 2)) e

  pub le₄ : (l r : Expression → Expression → Expression → Expression → Expression)
      (s : Expression → Expression → Expression → Expression → List Step)
      → Alike (l (var 0) (var 1) (var 2) (var 3) ⊞ larger (s (var 0) (var 1) (var 2) (var 3)))
      (r (var 0) (var 1) (var 2) (var 3) ⊞ smaller (s (var 0) (var 1) (var 2) (var 3))) → (x y z w : O.ring.Element)
      → Holds O (x ∷ y ∷ z ∷ w ∷ []) (s (var 0) (var 1) (var 2) (var 3))
      → O.AtMost (evaluate O.ring (x ∷ y ∷ z ∷ w ∷ []) (l (var 0) (var 1) (var 2) (var 3)))
      (evaluate O.ring (x ∷ y ∷ z ∷ w ∷ []) (r (var 0) (var 1) (var 2) (var 3)))
  le₄ l r s e x y z w = certified (x ∷ y ∷ z ∷ w ∷ []) (l (var 0) (var 1) (var 2) (var 3)) (r (var 0) (var 1) (var 2) (var 3))
      (s (var 0) (var 1) (var 2) (var 3)) e

  pub le₅ : (l r : Expression → Expression → Expression → Expression → Expression → Expression)
      (s : Expression → Expression → Expression → Expression → Expression → List Step)
      → Alike (l (var 0) (var 1) (var 2) (var 3) (var 4) ⊞ larger (s (var 0) (var 1) (var 2) (var 3) (var 4)))
      (r (var 0) (var 1) (var 2) (var 3) (var 4) ⊞ smaller (s (var 0) (var 1) (var 2) (var 3) (var 4))) → (x y z w v : O.ring.Element)
      → Holds O (x ∷ y ∷ z ∷ w ∷ v ∷ []) (s (var 0) (var 1) (var 2) (var 3) (var 4))
      → O.AtMost (evaluate O.ring (x ∷ y ∷ z ∷ w ∷ v ∷ []) (l (var 0) (var 1) (var 2) (var 3) (var 4)))
      (evaluate O.ring (x ∷ y ∷ z ∷ w ∷ v ∷ []) (r (var 0) (var 1) (var 2) (var 3) (var 4)))
  le₅ l r s e x y z w v = certified (x ∷ y ∷ z ∷ w ∷ v ∷ []) (l (var 0) (var 1) (var 2) (var 3) (var 4)) (r (var 0) (var 1) (var 2) (var 3) (var 4))
      (s (var 0) (var 1) (var 2) (var 3) (var 4)) e

  pub le₆ : (l r : Expression → Expression → Expression → Expression → Expression → Expression → Expression)
      (s : Expression → Expression → Expression → Expression → Expression → Expression → List Step)
      → Alike (l (var 0) (var 1) (var 2) (var 3) (var 4) (var 5) ⊞ larger (s (var 0) (var 1) (var 2) (var 3) (var 4) (var 5)))
      (r (var 0) (var 1) (var 2) (var 3) (var 4) (var 5) ⊞ smaller (s (var 0) (var 1) (var 2) (var 3) (var 4) (var 5)))
      → (x y z w v u : O.ring.Element) → Holds O (x ∷ y ∷ z ∷ w ∷ v ∷ u ∷ []) (s (var 0) (var 1) (var 2) (var 3) (var 4) (var 5))
      → O.AtMost (evaluate O.ring (x ∷ y ∷ z ∷ w ∷ v ∷ u ∷ []) (l (var 0) (var 1) (var 2) (var 3) (var 4) (var 5)))
      (evaluate O.ring (x ∷ y ∷ z ∷ w ∷ v ∷ u ∷ []) (r (var 0) (var 1) (var 2) (var 3) (var 4) (var 5)))
  le₆ l r s e x y z w v u = certified (x ∷ y ∷ z ∷ w ∷ v ∷ u ∷ []) (l (var 0) (var 1) (var 2) (var 3) (var 4) (var 5))
      (r (var 0) (var 1) (var 2) (var 3) (var 4) (var 5)) (s (var 0) (var 1) (var 2) (var 3) (var 4) (var 5)) e
