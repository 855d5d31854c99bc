use Rattle.std.proofs.Common.{◌≡◌, take, map}
use Rattle.std.specs.List.{flat_map}
use Rattle.exp_sums.specs.Terms.{put_terms}
use Rattle.exp_sums.specs.FormalPoint.{term_product}
use Rattle.exp_sums.proofs.products.put_products.Given as goal

-- the products of the terms so far are put
abbrev pub invariant-loop-term : goal.invariant-loop-term
invariant-loop-term l = l.terms.items ≡ put_terms (flat_map (λ t. map (term_product t) l.second) (take l.term-index l.first)) l.fn.terms.items
