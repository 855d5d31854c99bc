-- Sums over the terms of a formal point, in any commutative ring with an image of the whole numbers.
use Rattle.std.specs.Prelude.{List, [], ◌∷◌, ℤ}
use Rattle.ring_solver.specs.Ring.{CommutativeRing, Image}
use Rattle.ring_solver.specs.Whole.{ℤ_ring, ℤ_image}
use Rattle.exp_sums.specs.declared.direction.Dir.{Dir}
use Rattle.exp_sums.specs.declared.terms.Term.{Term}
use Rattle.exp_sums.specs.FormalPoint.{FormalPoint, terms}

module _ (K : CommutativeRing) (image : Image K) (f : Dir → K.Element) where
  -- the sum of c·f(direction) over a list of terms
  abbrev pub weigh_terms : List Term → K.Element
  weigh_terms [] = K.whole 0
  weigh_terms (t ∷ ts) = K.add (K.mul (image.of t.c) (f t.dir)) (weigh_terms ts)

  -- and over those of a formal point
  abbrev pub weigh : FormalPoint → K.Element
  weigh p = weigh_terms (terms p)

-- such sums in the whole numbers
abbrev pub weigh_ints : (Dir → ℤ) → FormalPoint → ℤ
weigh_ints f p = weigh ℤ_ring ℤ_image f p
