-- What the operations on polynomials do to their values in a ring.
use Rattle.std.proofs.Common.{◌≡◌, refl, sym, ap, ap₂, ◌∙◌, ℕ, zero, suc, ◌*◌, Bool, true, false, cond, ◌&&◌, T, eqb, ltb, eqb→eq, List, [], ◌∷◌}
use Rattle.std.proofs.Common.{suc-mul, zero-mul, add-one}
use Rattle.ring_solver.specs.Ring.{CommutativeRing}
use Rattle.ring_solver.specs.Expression.{variable, is_same, is_before, with_variable, joined, Polynomial, none, term, with_term, sum_of, times_term}
use Rattle.ring_solver.specs.Expression.{product_of, constant}

-- a fact of both values that a choice has
chosen : {A : Type 0} (P : A → Type 0) (b : Bool) {x y : A} → (T b → P x) → P y → P (cond b x y)
chosen P true p q = p tt
chosen P false p q = q

both : (a b : Bool) → T (a && b) → T a × T b
both true b h = (tt, h)
both false b h = absurd h

is_same→eq : (m n : List ℕ) → T (is_same m n) → m ≡ n
is_same→eq [] [] h = refl
is_same→eq [] (j ∷ n) h = absurd h
is_same→eq (i ∷ m) [] h = absurd h
is_same→eq (i ∷ m) (j ∷ n) h = let k = both (eqb i j) (is_same m n) h in ap₂ (λ a b. a ∷ b) (eqb→eq i j k.0) (is_same→eq m n k.1)

module _ (K : CommutativeRing) where
  -- the value of a product of variables
  abbrev pub product_at : List K.Element → List ℕ → K.Element
  product_at ρ [] = K.whole 1
  product_at ρ (i ∷ m) = K.mul (variable K ρ i) (product_at ρ m)

  -- the value of a polynomial
  abbrev pub polynomial_at : List K.Element → Polynomial → K.Element
  polynomial_at ρ none = K.whole 0
  polynomial_at ρ (term c m p) = K.add (K.mul (K.whole c) (product_at ρ m)) (polynomial_at ρ p)

  pub zero-add' : (x : K.Element) → K.add (K.whole 0) x ≡ x
  zero-add' x = K.add_comm (K.whole 0) x ∙ K.add-zero x

  pub one-mul' : (x : K.Element) → K.mul (K.whole 1) x ≡ x
  one-mul' x = K.mul_comm (K.whole 1) x ∙ K.mul-one x

  pub add_left_comm : (x y z : K.Element) → K.add x (K.add y z) ≡ K.add y (K.add x z)
  add_left_comm x y z = sym (K.add_assoc x y z) ∙ ap (λ t. K.add t z) (K.add_comm x y) ∙ K.add_assoc y x z

  pub mul_left_comm : (x y z : K.Element) → K.mul x (K.mul y z) ≡ K.mul y (K.mul x z)
  mul_left_comm x y z = sym (K.mul_assoc x y z) ∙ ap (λ t. K.mul t z) (K.mul_comm x y) ∙ K.mul_assoc y x z

  pub add-mul' : (x y z : K.Element) → K.mul (K.add x y) z ≡ K.add (K.mul x z) (K.mul y z)
  add-mul' x y z = K.mul_comm (K.add x y) z ∙ K.mul-add z x y ∙ ap₂ K.add (K.mul_comm z x) (K.mul_comm z y)

  -- what is added on both sides is cancelled
  pub add_cancel : (x y z : K.Element) → K.add x z ≡ K.add y z → x ≡ y
  add_cancel x y z e = sym (back x) ∙ ap (λ t. K.add t (K.neg z)) e ∙ back y
    where
      back : (t : K.Element) → K.add (K.add t z) (K.neg z) ≡ t
      back t = K.add_assoc t z (K.neg z) ∙ ap (K.add t) (K.add-neg z) ∙ K.add-zero t

  pub mul-zero' : (x : K.Element) → K.mul x (K.whole 0) ≡ K.whole 0
  mul-zero' x =
      add_cancel (K.mul x (K.whole 0)) (K.whole 0) (K.mul x (K.whole 0))
      (sym (K.mul-add x (K.whole 0) (K.whole 0)) ∙ ap (K.mul x) (K.add-zero (K.whole 0)) ∙ sym (zero-add' (K.mul x (K.whole 0))))

  pub zero-mul' : (x : K.Element) → K.mul (K.whole 0) x ≡ K.whole 0
  zero-mul' x = K.mul_comm (K.whole 0) x ∙ mul-zero' x

  pub whole-mul : (m n : ℕ) → K.whole (m * n) ≡ K.mul (K.whole m) (K.whole n)
  whole-mul zero n = rw zero-mul (sym (zero-mul' (K.whole n)))
  whole-mul (suc m) n =
      rw suc-mul
      (K.whole-add (m * n) n ∙ ap₂ K.add (whole-mul m n) (sym (one-mul' (K.whole n))) ∙ sym (add-mul' (K.whole m) (K.whole 1) (K.whole n))
      ∙ ap (λ t. K.mul t (K.whole n)) (sym (K.whole-add m 1) ∙ ap K.whole (add-one m)))

  -- two pairs of sums, regrouped
  pub add-add : (x y z w : K.Element) → K.add (K.add x y) (K.add z w) ≡ K.add (K.add x z) (K.add y w)
  add-add x y z w = K.add_assoc x y (K.add z w) ∙ ap (K.add x) (add_left_comm y z w) ∙ sym (K.add_assoc x z (K.add y w))

  pub mul-mul : (x y z w : K.Element) → K.mul (K.mul x y) (K.mul z w) ≡ K.mul (K.mul x z) (K.mul y w)
  mul-mul x y z w = K.mul_assoc x y (K.mul z w) ∙ ap (K.mul x) (mul_left_comm y z w) ∙ sym (K.mul_assoc x z (K.mul y w))

  module _ (ρ : List K.Element) where
    pub with_variable-at : (i : ℕ) (m : List ℕ) → product_at ρ (with_variable i m) ≡ K.mul (variable K ρ i) (product_at ρ m)
    with_variable-at i [] = refl
    with_variable-at i (j ∷ m) =
        chosen (λ n. product_at ρ n ≡ K.mul (variable K ρ i) (K.mul (variable K ρ j) (product_at ρ m))) (ltb j i)
        (λ _. ap (K.mul (variable K ρ j)) (with_variable-at i m) ∙ mul_left_comm (variable K ρ j) (variable K ρ i) (product_at ρ m))
        refl

    pub joined-at : (m n : List ℕ) → product_at ρ (joined m n) ≡ K.mul (product_at ρ m) (product_at ρ n)
    joined-at [] n = sym (one-mul' (product_at ρ n))
    joined-at (i ∷ m) n = with_variable-at i (joined m n) ∙ ap (K.mul (variable K ρ i)) (joined-at m n)
        ∙ sym (K.mul_assoc (variable K ρ i) (product_at ρ m) (product_at ρ n))

    pub with_term-at : (c : ℕ) (m : List ℕ) (p : Polynomial)
        → polynomial_at ρ (with_term c m p) ≡ K.add (K.mul (K.whole c) (product_at ρ m)) (polynomial_at ρ p)
    with_term-at c m none = refl
    with_term-at c m (term d n p) =
        chosen (λ q. polynomial_at ρ q ≡ K.add (K.mul (K.whole c) (product_at ρ m)) (K.add (K.mul (K.whole d) (product_at ρ n)) (polynomial_at ρ p)))
        (is_same m n)
        (λ h. ap (λ t. K.add t (polynomial_at ρ p))
        (ap (λ t. K.mul t (product_at ρ n)) (K.whole-add c d) ∙ add-mul' (K.whole c) (K.whole d) (product_at ρ n)
        ∙ ap (λ t. K.add (K.mul (K.whole c) (product_at ρ t)) (K.mul (K.whole d) (product_at ρ n))) (sym (is_same→eq m n h)))
        ∙ K.add_assoc (K.mul (K.whole c) (product_at ρ m)) (K.mul (K.whole d) (product_at ρ n)) (polynomial_at ρ p))
        (chosen (λ q. polynomial_at ρ q ≡ K.add (K.mul (K.whole c) (product_at ρ m)) (K.add (K.mul (K.whole d) (product_at ρ n))
        (polynomial_at ρ p))) (is_before m n)
        (λ _. refl)
        (ap (K.add (K.mul (K.whole d) (product_at ρ n))) (with_term-at c m p)
        ∙ add_left_comm (K.mul (K.whole d) (product_at ρ n)) (K.mul (K.whole c) (product_at ρ m)) (polynomial_at ρ p)))

    pub sum_of-at : (p q : Polynomial) → polynomial_at ρ (sum_of p q) ≡ K.add (polynomial_at ρ p) (polynomial_at ρ q)
    sum_of-at none q = sym (zero-add' (polynomial_at ρ q))
    sum_of-at (term c m p) q =
        with_term-at c m (sum_of p q) ∙ ap (K.add (K.mul (K.whole c) (product_at ρ m))) (sum_of-at p q)
        ∙ sym (K.add_assoc (K.mul (K.whole c) (product_at ρ m)) (polynomial_at ρ p) (polynomial_at ρ q))

    pub times_term-at : (c : ℕ) (m : List ℕ) (q : Polynomial)
        → polynomial_at ρ (times_term c m q) ≡ K.mul (K.mul (K.whole c) (product_at ρ m)) (polynomial_at ρ q)
    times_term-at c m none = sym (mul-zero' (K.mul (K.whole c) (product_at ρ m)))
    times_term-at c m (term d n q) =
        with_term-at (c * d) (joined m n) (times_term c m q)
        ∙ ap₂ K.add
        (ap₂ K.mul (whole-mul c d) (joined-at m n) ∙ mul-mul (K.whole c) (K.whole d) (product_at ρ m) (product_at ρ n))
        (times_term-at c m q)
        ∙ sym (K.mul-add (K.mul (K.whole c) (product_at ρ m)) (K.mul (K.whole d) (product_at ρ n)) (polynomial_at ρ q))

    pub product_of-at : (p q : Polynomial) → polynomial_at ρ (product_of p q) ≡ K.mul (polynomial_at ρ p) (polynomial_at ρ q)
    product_of-at none q = sym (zero-mul' (polynomial_at ρ q))
    product_of-at (term c m p) q =
        sum_of-at (times_term c m q) (product_of p q) ∙ ap₂ K.add (times_term-at c m q) (product_of-at p q)
        ∙ sym (add-mul' (K.mul (K.whole c) (product_at ρ m)) (polynomial_at ρ p) (polynomial_at ρ q))

    pub constant-at : (n : ℕ) → polynomial_at ρ (constant n) ≡ K.whole n
    constant-at zero = refl
    constant-at (suc n) = K.add-zero (K.mul (K.whole (suc n)) (K.whole 1)) ∙ K.mul-one (K.whole (suc n))

  -- x is p - m
  abbrev pub Is : K.Element → K.Element → K.Element → Type 0
  Is x p m = K.add x m ≡ p

  pub Is-add : (x y p q m n : K.Element) → Is x p m → Is y q n → Is (K.add x y) (K.add p q) (K.add m n)
  Is-add x y p q m n h k = add-add x y m n ∙ ap₂ K.add h k

  pub Is-neg : (x p m : K.Element) → Is x p m → Is (K.neg x) m p
  Is-neg x p m h =
      ap (K.add (K.neg x)) (sym h) ∙ sym (K.add_assoc (K.neg x) x m) ∙ ap (λ t. K.add t m) (K.add_comm (K.neg x) x ∙ K.add-neg x) ∙ zero-add' m

  -- x y + (p n + m q) = x y + (x + m) n + m (y + n) = (x + m) (y + n) + m n
  pub Is-mul : (x y p q m n : K.Element) → Is x p m → Is y q n → Is (K.mul x y) (K.add (K.mul p q) (K.mul m n)) (K.add (K.mul p n) (K.mul m q))
  Is-mul x y p q m n h k =
      ap (λ t. K.add (K.mul x y) (K.add (K.mul t n) (K.mul m q))) (sym h)
      ∙ ap (λ t. K.add (K.mul x y) (K.add t (K.mul m q))) (add-mul' x m n)
      ∙ ap (K.add (K.mul x y)) (K.add_assoc (K.mul x n) (K.mul m n) (K.mul m q))
      ∙ sym (K.add_assoc (K.mul x y) (K.mul x n) (K.add (K.mul m n) (K.mul m q)))
      ∙ ap₂ K.add (sym (K.mul-add x y n) ∙ ap (K.mul x) k) (K.add_comm (K.mul m n) (K.mul m q))
      ∙ sym (K.add_assoc (K.mul x q) (K.mul m q) (K.mul m n))
      ∙ ap (λ t. K.add t (K.mul m n)) (sym (add-mul' x m q) ∙ ap (λ t. K.mul t q) h)
