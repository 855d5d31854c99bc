-- Commutative rings with 1, and the image of the whole numbers in one (Lang, Algebra, chapter II).
use Rattle.std.specs.Prelude.{◌≡◌, ℕ, ◌+◌, ℤ, pos, ◌+ℤ◌, ◌*ℤ◌, neg_ℤ}

-- The natural numbers are part of the record, so that a numeral in an expression stands for the very term that an
-- instance writes for it. That `whole` keeps products follows from these laws.
pub record CommutativeRing : Type 1 where
  pub Element : Type 0
  pub whole : ℕ → Element
  pub add : Element → Element → Element
  pub mul : Element → Element → Element
  pub neg : Element → Element
  pub add_assoc : (x y z : Element) → add (add x y) z ≡ add x (add y z)
  pub add_comm : (x y : Element) → add x y ≡ add y x
  pub add-zero : (x : Element) → add x (whole 0) ≡ x
  pub add-neg : (x : Element) → add x (neg x) ≡ whole 0
  pub mul_assoc : (x y z : Element) → mul (mul x y) z ≡ mul x (mul y z)
  pub mul_comm : (x y : Element) → mul x y ≡ mul y x
  pub mul-one : (x : Element) → mul x (whole 1) ≡ x
  pub mul-add : (x y z : Element) → mul x (add y z) ≡ add (mul x y) (mul x z)
  pub whole-add : (m n : ℕ) → whole (m + n) ≡ add (whole m) (whole n)

-- an image of the whole numbers in K: it keeps 0, 1, sums, products and negatives
pub record Image (K : CommutativeRing) : Type 0 where
  pub of : ℤ → K.Element
  pub of-pos : (n : ℕ) → of (pos n) ≡ K.whole n
  pub of-add : (a b : ℤ) → of (a +ℤ b) ≡ K.add (of a) (of b)
  pub of-mul : (a b : ℤ) → of (a *ℤ b) ≡ K.mul (of a) (of b)
  pub of-neg : (a : ℤ) → of (neg_ℤ a) ≡ K.neg (of a)
