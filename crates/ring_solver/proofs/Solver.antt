-- The solver: expressions with the same polynomial have the same value. `ring` is given its values as a list, `ring₁` to
-- `ring₆` as arguments; `ring_by` uses an equation, and `ring_by₂` two.
use Rattle.std.proofs.Common.{◌≡◌, sym, ap, ap₂, ◌∙◌, List, [], ◌∷◌}
use Rattle.ring_solver.specs.Ring.{CommutativeRing}
use Rattle.ring_solver.specs.Expression.{Expression, var, num, ◌⊞◌, ◌⊟◌, ◌⊠◌, opp, variable, evaluate, Polynomial, sum_of, product_of, sides, Alike}
use Rattle.ring_solver.proofs.Polynomials.{polynomial_at, add_cancel, one-mul', sum_of-at, product_of-at, constant-at, Is, Is-add, Is-neg, Is-mul}

module _ (K : CommutativeRing) (ρ : List K.Element) where
  -- x is the difference of the two polynomials
  abbrev Splits : K.Element → Polynomial → Polynomial → Type 0
  Splits x p m = Is K x (polynomial_at K ρ p) (polynomial_at K ρ m)

  splits-add : (x y : K.Element) (p q m n : Polynomial) → Splits x p m → Splits y q n → Splits (K.add x y) (sum_of p q) (sum_of m n)
  splits-add x y p q m n h k =
      ap (K.add (K.add x y)) (sum_of-at K ρ m n)
      ∙ Is-add K x y (polynomial_at K ρ p) (polynomial_at K ρ q) (polynomial_at K ρ m) (polynomial_at K ρ n) h k
      ∙ sym (sum_of-at K ρ p q)

  splits-mul : (x y : K.Element) (p q m n : Polynomial) → Splits x p m → Splits y q n
      → Splits (K.mul x y) (sum_of (product_of p q) (product_of m n)) (sum_of (product_of p n) (product_of m q))
  splits-mul x y p q m n h k =
      ap (K.add (K.mul x y)) (products p n m q)
      ∙ Is-mul K x y (polynomial_at K ρ p) (polynomial_at K ρ q) (polynomial_at K ρ m) (polynomial_at K ρ n) h k
      ∙ sym (products p q m n)
    where
      products : (a b c d : Polynomial) → polynomial_at K ρ (sum_of (product_of a b) (product_of c d)) ≡ K.add (K.mul (polynomial_at K ρ a)
          (polynomial_at K ρ b)) (K.mul (polynomial_at K ρ c) (polynomial_at K ρ d))
      products a b c d = sum_of-at K ρ (product_of a b) (product_of c d) ∙ ap₂ K.add (product_of-at K ρ a b) (product_of-at K ρ c d)

  -- the value of an expression is the difference of its two polynomials
  pub evaluate-sides : (e : Expression) → Splits (evaluate K ρ e) (sides e).plus (sides e).minus
  evaluate-sides (var i) =
      ap (λ t. K.add t (K.whole 0)) (sym (one-mul' K (variable K ρ i)) ∙ ap (K.mul (K.whole 1)) (sym (K.mul-one (variable K ρ i))))
  evaluate-sides (num n) = K.add-zero (K.whole n) ∙ sym (constant-at K ρ n)
  evaluate-sides (a ⊞ b) = splits-add (evaluate K ρ a) (evaluate K ρ b) (sides a).plus (sides b).plus (sides a).minus (sides b).minus
      (evaluate-sides a) (evaluate-sides b)
  evaluate-sides (a ⊟ b) =
      splits-add (evaluate K ρ a) (K.neg (evaluate K ρ b)) (sides a).plus (sides b).minus (sides a).minus (sides b).plus (evaluate-sides a)
      (Is-neg K (evaluate K ρ b) (polynomial_at K ρ (sides b).plus) (polynomial_at K ρ (sides b).minus) (evaluate-sides b))
  evaluate-sides (a ⊠ b) = splits-mul (evaluate K ρ a) (evaluate K ρ b) (sides a).plus (sides b).plus (sides a).minus (sides b).minus
      (evaluate-sides a) (evaluate-sides b)
  evaluate-sides (opp a) = Is-neg K (evaluate K ρ a) (polynomial_at K ρ (sides a).plus) (polynomial_at K ρ (sides a).minus) (evaluate-sides a)

  -- the solver
  pub ring : (l r : Expression) → Alike l r → evaluate K ρ l ≡ evaluate K ρ r
  ring l r e =
      let L = evaluate K ρ l in
      let R = evaluate K ρ r in
      let p = polynomial_at K ρ (sides l).plus in
      let m = polynomial_at K ρ (sides l).minus in
      let q = polynomial_at K ρ (sides r).plus in
      let n = polynomial_at K ρ (sides r).minus in
      add_cancel K L R (K.add m n)
      (sym (K.add_assoc L m n) ∙ ap (λ t. K.add t n) (evaluate-sides l)
      ∙ (sym (sum_of-at K ρ (sides l).plus (sides r).minus) ∙ ap (polynomial_at K ρ) e ∙ sum_of-at K ρ (sides r).plus (sides l).minus)
      ∙ ap (λ t. K.add t m) (sym (evaluate-sides r)) ∙ K.add_assoc R n m ∙ ap (K.add R) (K.add_comm n m))

  -- l is r, where u is v
  pub ring_with : (l r u v : Expression) → Alike (l ⊞ v) (r ⊞ u) → evaluate K ρ u ≡ evaluate K ρ v → evaluate K ρ l ≡ evaluate K ρ r
  ring_with l r u v e h = add_cancel K (evaluate K ρ l) (evaluate K ρ r) (evaluate K ρ u) (ap (K.add (evaluate K ρ l)) h ∙ ring (l ⊞ v) (r ⊞ u) e)

  -- l is r by k times the equation of a and b
  pub ring_by : (l r k a b : Expression) → Alike (l ⊞ k ⊠ b) (r ⊞ k ⊠ a) → evaluate K ρ a ≡ evaluate K ρ b → evaluate K ρ l ≡ evaluate K ρ r
  ring_by l r k a b e h = ring_with l r (k ⊠ a) (k ⊠ b) e (ap (K.mul (evaluate K ρ k)) h)

  -- and by a second one
  pub ring_by₂ : (l r k a b k' a' b' : Expression) → Alike (l ⊞ (k ⊠ b ⊞ k' ⊠ b')) (r ⊞ (k ⊠ a ⊞ k' ⊠ a')) → evaluate K ρ a ≡ evaluate K ρ b
      → evaluate K ρ a' ≡ evaluate K ρ b' → evaluate K ρ l ≡ evaluate K ρ r
  ring_by₂ l r k a b k' a' b' e h h' = ring_with l r (k ⊠ a ⊞ k' ⊠ a') (k ⊠ b ⊞ k' ⊠ b') e
      (ap₂ K.add (ap (K.mul (evaluate K ρ k)) h) (ap (K.mul (evaluate K ρ k')) h'))

-- the solver, for expressions that are functions of their variables
module _ (K : CommutativeRing) where
  pub ring₁ : (l r : Expression → Expression) → Alike (l (var 0)) (r (var 0)) → (x : K.Element)
      → evaluate K (x ∷ []) (l (var 0)) ≡ evaluate K (x ∷ []) (r (var 0))
  ring₁ l r e x = ring K (x ∷ []) (l (var 0)) (r (var 0)) e

  pub ring₂ : (l r : Expression → Expression → Expression) → Alike (l (var 0) (var 1)) (r (var 0) (var 1)) → (x y : K.Element)
      → evaluate K (x ∷ y ∷ []) (l (var 0) (var 1)) ≡ evaluate K (x ∷ y ∷ []) (r (var 0) (var 1))
  ring₂ l r e x y = ring K (x ∷ y ∷ []) (l (var 0) (var 1)) (r (var 0) (var 1)) e

  pub ring₃ : (l r : Expression → Expression → Expression → Expression) → Alike (l (var 0) (var 1) (var 2)) (r (var 0) (var 1) (var 2))
      → (x y z : K.Element) → evaluate K (x ∷ y ∷ z ∷ []) (l (var 0) (var 1) (var 2)) ≡ evaluate K (x ∷ y ∷ z ∷ []) (r (var 0) (var 1) (var 2))
  ring₃ l r e x y z = ring K (x ∷ y ∷ z ∷ []) (l (var 0) (var 1) (var 2)) (r (var 0) (var 1) (var 2)) e

  pub ring₄ : (l r : Expression → Expression → Expression → Expression → Expression)
      → Alike (l (var 0) (var 1) (var 2) (var 3)) (r (var 0) (var 1) (var 2) (var 3)) → (x y z w : K.Element)
      → evaluate K (x ∷ y ∷ z ∷ w ∷ []) (l (var 0) (var 1) (var 2) (var 3)) ≡ evaluate K (x ∷ y ∷ z ∷ w ∷ []) (r (var 0) (var 1) (var 2) (var 3))
  ring₄ l r e x y z w = ring K (x ∷ y ∷ z ∷ w ∷ []) (l (var 0) (var 1) (var 2) (var 3)) (r (var 0) (var 1) (var 2) (var 3)) e

  pub ring₅ : (l r : Expression → Expression → Expression → Expression → Expression → Expression)
      → Alike (l (var 0) (var 1) (var 2) (var 3) (var 4)) (r (var 0) (var 1) (var 2) (var 3) (var 4)) → (x y z w v : K.Element)
      → evaluate K (x ∷ y ∷ z ∷ w ∷ v ∷ []) (l (var 0) (var 1) (var 2) (var 3) (var 4))
      ≡ evaluate K (x ∷ y ∷ z ∷ w ∷ v ∷ []) (r (var 0) (var 1) (var 2) (var 3) (var 4))
  ring₅ l r e x y z w v = ring K (x ∷ y ∷ z ∷ w ∷ v ∷ []) (l (var 0) (var 1) (var 2) (var 3) (var 4)) (r (var 0) (var 1) (var 2) (var 3) (var 4)) e

  pub ring₆ : (l r : Expression → Expression → Expression → Expression → Expression → Expression → Expression)
      → Alike (l (var 0) (var 1) (var 2) (var 3) (var 4) (var 5)) (r (var 0) (var 1) (var 2) (var 3) (var 4) (var 5)) → (x y z w v u : K.Element)
      → evaluate K (x ∷ y ∷ z ∷ w ∷ v ∷ u ∷ []) (l (var 0) (var 1) (var 2) (var 3) (var 4) (var 5))
      ≡ evaluate K (x ∷ y ∷ z ∷ w ∷ v ∷ u ∷ []) (r (var 0) (var 1) (var 2) (var 3) (var 4) (var 5))
  ring₆ l r e x y z w v u = ring K (x ∷ y ∷ z ∷ w ∷ v ∷ u ∷ []) (l (var 0) (var 1) (var 2) (var 3) (var 4) (var 5))
      (r (var 0) (var 1) (var 2) (var 3) (var 4) (var 5)) e
