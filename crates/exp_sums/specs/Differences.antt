-- The terms of a difference, and its sizes. This is for the difference that is measured without being built; the public clause speaks of `◌-ₚ◌` alone.
use Rattle.std.specs.Prelude.{◌≡◌, ◌+◌, ◌≤◌, List, map, T}
use Rattle.std.specs.List.{All}
use Rattle.exp_sums.specs.declared.terms.Term.{Term}
use Rattle.exp_sums.specs.declared.sizes.Sizes.{Sizes}
use Rattle.exp_sums.specs.Terms.{is_canonical, put_terms}
use Rattle.exp_sums.specs.FormalPoint.{term_neg}
use Rattle.exp_sums.specs.Limits.{IsNear, terms_weight, greatest_exponent, greatest_weight}
use Rattle.exp_sums.specs.Reach.{terms_reach}
use Rattle.exp_sums.specs.Bend.{terms_bend}

-- the terms of the one list less those of the other
abbrev pub difference_terms : List Term → List Term → List Term
difference_terms ts us = put_terms (map term_neg us) ts

-- two lists of terms whose difference is within the limits
pub record CanSubtract (ts us : List Term) : Type 0 where
  pub canonical : T (is_canonical ts)
  pub canonical_other : T (is_canonical us)
  pub near : All (λ t. IsNear greatest_exponent t.dir) ts
  pub near_other : All (λ t. IsNear greatest_exponent t.dir) us
  pub light : terms_weight ts + terms_weight us ≤ greatest_weight

-- weight, reach and bend of a list of terms
pub record AreSizesOf (sizes : Sizes) (ts : List Term) : Type 0 where
  pub weight : sizes.weight ≡ terms_weight ts
  pub reach : sizes.reach ≡ terms_reach ts
  pub bend : sizes.bend ≡ terms_bend ts
