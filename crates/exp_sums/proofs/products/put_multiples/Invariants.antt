use Rattle.std.proofs.Common.{◌≡◌, take, map}
use Rattle.exp_sums.specs.Terms.{put_terms}
use Rattle.exp_sums.specs.FormalPoint.{term_product}
use Rattle.exp_sums.proofs.products.put_multiples.Given as goal

-- the products so far are put, without more room
abbrev pub invariant-loop-other : goal.invariant-loop-other
invariant-loop-other l = record {
  items : l.terms.items ≡ put_terms (map (term_product l.term) (take l.other-index l.more)) l.fn.terms.items;
  capacity : l.terms.capacity ≡ l.fn.terms.capacity;
}
