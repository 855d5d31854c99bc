-- Ordered commutative rings, and certificates for inequalities in one. Proofs use these; no contract speaks of them.
use Rattle.std.specs.Prelude.{◌≡◌, List, [], ◌∷◌}
use Rattle.ring_solver.specs.Ring.{CommutativeRing}
use Rattle.ring_solver.specs.Expression.{Expression, num, ◌⊞◌, ◌⊠◌, evaluate}

pub record OrderedRing : Type 1 where
  pub ring : CommutativeRing
  pub AtMost : ring.Element → ring.Element → Type 0
  pub at_most_refl : (x : ring.Element) → AtMost x x
  pub at_most_trans : (x y z : ring.Element) → AtMost x y → AtMost y z → AtMost x z
  pub add_mono : (z x y : ring.Element) → AtMost x y → AtMost (ring.add z x) (ring.add z y)
  pub mul_nonneg : (x y : ring.Element) → AtMost (ring.whole 0) x → AtMost (ring.whole 0) y → AtMost (ring.whole 0) (ring.mul x y)

-- what a certificate adds up
pub data Step : Type 0 where
  -- a ≤ b
  le : Expression → Expression → Step
  -- k times a ≤ b, where 0 ≤ k
  times : Expression → Expression → Expression → Step
  -- k times a ≡ b, for any k
  same : Expression → Expression → Expression → Step

-- what the steps say at these values
abbrev pub Holds : (O : OrderedRing) → List O.ring.Element → List Step → Type 0
Holds O ρ [] = Unit {0}
Holds O ρ (le a b ∷ s) = O.AtMost (evaluate O.ring ρ a) (evaluate O.ring ρ b) × Holds O ρ s
Holds O ρ (times k a b ∷ s) = O.AtMost (O.ring.whole 0) (evaluate O.ring ρ k) × O.AtMost (evaluate O.ring ρ a) (evaluate O.ring ρ b) × Holds O ρ s
Holds O ρ (same k a b ∷ s) = (evaluate O.ring ρ a ≡ evaluate O.ring ρ b) × Holds O ρ s

-- the sum of the sides that are at most the others
abbrev pub smaller : List Step → Expression
smaller [] = num 0
smaller (le a b ∷ s) = a ⊞ smaller s
smaller (times k a b ∷ s) = k ⊠ a ⊞ smaller s
smaller (same k a b ∷ s) = k ⊠ a ⊞ smaller s

abbrev pub larger : List Step → Expression
larger [] = num 0
larger (le a b ∷ s) = b ⊞ larger s
larger (times k a b ∷ s) = k ⊠ b ⊞ larger s
larger (same k a b ∷ s) = k ⊠ b ⊞ larger s
