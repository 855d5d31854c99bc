-- Ring expressions, their value in a ring, and their polynomial. A polynomial has coefficients in ℕ, so an expression
-- has two: one for what is added and one for what is taken away. The solver computes with these; no contract speaks of them.
use Rattle.std.specs.Prelude.{◌≡◌, ℕ, zero, suc, ◌+◌, ◌*◌, Bool, true, false, cond, ◌&&◌, eqb, ltb, List, [], ◌∷◌}
use Rattle.ring_solver.specs.Ring.{CommutativeRing}

infixl 6 ◌⊞◌ ◌⊟◌
infixl 7 ◌⊠◌
pub data Expression : Type 0 where
  var : ℕ → Expression
  num : ℕ → Expression
  ◌⊞◌ : Expression → Expression → Expression
  ◌⊟◌ : Expression → Expression → Expression
  ◌⊠◌ : Expression → Expression → Expression
  opp : Expression → Expression

-- the i-th value, and 0 past the end
abbrev pub variable : (K : CommutativeRing) → List K.Element → ℕ → K.Element
variable K [] i = K.whole 0
variable K (x ∷ ρ) zero = x
variable K (x ∷ ρ) (suc i) = variable K ρ i

-- e at these values of its variables
abbrev pub evaluate : (K : CommutativeRing) → List K.Element → Expression → K.Element
evaluate K ρ (var i) = variable K ρ i
evaluate K ρ (num n) = K.whole n
evaluate K ρ (a ⊞ b) = K.add (evaluate K ρ a) (evaluate K ρ b)
evaluate K ρ (a ⊟ b) = K.add (evaluate K ρ a) (K.neg (evaluate K ρ b))
evaluate K ρ (a ⊠ b) = K.mul (evaluate K ρ a) (evaluate K ρ b)
evaluate K ρ (opp a) = K.neg (evaluate K ρ a)

-- a product of variables is the list of their numbers, least first
abbrev pub is_same : List ℕ → List ℕ → Bool
is_same [] [] = true
is_same [] (j ∷ n) = false
is_same (i ∷ m) [] = false
is_same (i ∷ m) (j ∷ n) = eqb i j && is_same m n

abbrev pub is_before : List ℕ → List ℕ → Bool
is_before m [] = false
is_before [] (j ∷ n) = true
is_before (i ∷ m) (j ∷ n) = cond (eqb i j) (is_before m n) (ltb i j)

abbrev pub with_variable : ℕ → List ℕ → List ℕ
with_variable i [] = i ∷ []
with_variable i (j ∷ m) = cond (ltb j i) (j ∷ with_variable i m) (i ∷ j ∷ m)

abbrev pub joined : List ℕ → List ℕ → List ℕ
joined [] n = n
joined (i ∷ m) n = with_variable i (joined m n)

-- terms with a coefficient and a product of variables, in the order of their products
pub data Polynomial : Type 0 where
  none : Polynomial
  term : ℕ → List ℕ → Polynomial → Polynomial

abbrev pub with_term : ℕ → List ℕ → Polynomial → Polynomial
with_term c m none = term c m none
with_term c m (term d n p) = cond (is_same m n) (term (c + d) n p) (cond (is_before m n) (term c m (term d n p)) (term d n (with_term c m p)))

abbrev pub sum_of : Polynomial → Polynomial → Polynomial
sum_of none q = q
sum_of (term c m p) q = with_term c m (sum_of p q)

abbrev pub times_term : ℕ → List ℕ → Polynomial → Polynomial
times_term c m none = none
times_term c m (term d n q) = with_term (c * d) (joined m n) (times_term c m q)

abbrev pub product_of : Polynomial → Polynomial → Polynomial
product_of none q = none
product_of (term c m p) q = sum_of (times_term c m q) (product_of p q)

abbrev pub constant : ℕ → Polynomial
constant zero = none
constant (suc n) = term (suc n) [] none

pub record Sides : Type 0 where
  pub plus : Polynomial
  pub minus : Polynomial

abbrev pub sides : Expression → Sides
sides (var i) = record { plus = term 1 (i ∷ []) none; minus = none }
sides (num n) = record { plus = constant n; minus = none }
sides (a ⊞ b) = record { plus = sum_of (sides a).plus (sides b).plus; minus = sum_of (sides a).minus (sides b).minus }
sides (a ⊟ b) = record { plus = sum_of (sides a).plus (sides b).minus; minus = sum_of (sides a).minus (sides b).plus }
sides (a ⊠ b) = record {
  plus = sum_of (product_of (sides a).plus (sides b).plus) (product_of (sides a).minus (sides b).minus);
  minus = sum_of (product_of (sides a).plus (sides b).minus) (product_of (sides a).minus (sides b).plus);
}
sides (opp a) = record { plus = (sides a).minus; minus = (sides a).plus }

-- l and r have the same polynomial: at two written expressions, `refl`
abbrev pub Alike : Expression → Expression → Type 0
Alike l r = sum_of (sides l).plus (sides r).minus ≡ sum_of (sides r).plus (sides l).minus
