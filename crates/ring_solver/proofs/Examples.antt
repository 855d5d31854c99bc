-- The solver at work on whole numbers: what a call looks like.
use Rattle.std.proofs.Common.{◌≡◌, refl, ℤ, pos, ◌+ℤ◌, ◌-ℤ◌, ◌*ℤ◌, ◌≤ℤ◌, [], ◌∷◌}
use Rattle.ring_solver.specs.Expression.{var, num, ◌⊞◌, ◌⊟◌, ◌⊠◌}
use Rattle.ring_solver.proofs.Solver.{ring₂, ring₃, ring_by}
use Rattle.ring_solver.proofs.Whole.{ℤ_ring, ℤ_ordered}
use Rattle.ring_solver.specs.Ordered.{le, times}
use Rattle.ring_solver.proofs.Certificate.{le₂, le₄}

difference_of_squares : (x y : ℤ) → (x +ℤ y) *ℤ (x -ℤ y) ≡ x *ℤ x -ℤ y *ℤ y
difference_of_squares = ring₂ ℤ_ring (λ x y. (x ⊞ y) ⊠ (x ⊟ y)) (λ x y. x ⊠ x ⊟ y ⊠ y) refl

square_of_three : (x y z : ℤ) → (x +ℤ y -ℤ z) *ℤ (x +ℤ y -ℤ z) ≡ x *ℤ x +ℤ y *ℤ y +ℤ z *ℤ z +ℤ pos 2 *ℤ (x *ℤ y -ℤ x *ℤ z -ℤ y *ℤ z)
square_of_three = ring₃ ℤ_ring (λ x y z. (x ⊞ y ⊟ z) ⊠ (x ⊞ y ⊟ z)) (λ x y z. x ⊠ x ⊞ y ⊠ y ⊞ z ⊠ z ⊞ num 2 ⊠ (x ⊠ y ⊟ x ⊠ z ⊟ y ⊠ z)) refl

-- with x + y = 1: x x - y y = x - y
by_an_equation : (x y : ℤ) → x +ℤ y ≡ pos 1 → x *ℤ x -ℤ y *ℤ y ≡ x -ℤ y
by_an_equation x y = ring_by ℤ_ring (x ∷ y ∷ []) (var 0 ⊠ var 0 ⊟ var 1 ⊠ var 1) (var 0 ⊟ var 1) (var 0 ⊟ var 1) (var 0 ⊞ var 1) (num 1) refl

-- 2 x y ≤ x x + y y, since the difference is a square
mean : (x y : ℤ) → pos 0 ≤ℤ ((x -ℤ y) *ℤ (x -ℤ y)) → (pos 2 *ℤ (x *ℤ y)) ≤ℤ (x *ℤ x +ℤ y *ℤ y)
mean x y h = le₂ ℤ_ordered (λ x y. num 2 ⊠ (x ⊠ y)) (λ x y. x ⊠ x ⊞ y ⊠ y) (λ x y. le (num 0) ((x ⊟ y) ⊠ (x ⊟ y)) ∷ []) refl x y (h, tt)

-- x y ≤ z w, for 0 ≤ x ≤ z and 0 ≤ y ≤ w
products : (x y z w : ℤ) → pos 0 ≤ℤ y → pos 0 ≤ℤ z → x ≤ℤ z → y ≤ℤ w → (x *ℤ y) ≤ℤ (z *ℤ w)
products x y z w p q h k = le₄ ℤ_ordered (λ x y z w. x ⊠ y) (λ x y z w. z ⊠ w) (λ x y z w. times y x z ∷ times z y w ∷ []) refl x y z w (p, h, (q, k, tt))
