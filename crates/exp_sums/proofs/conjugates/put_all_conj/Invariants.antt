use Rattle.std.proofs.Common.{◌≡◌, take, map}
use Rattle.exp_sums.specs.Terms.{put_terms}
use Rattle.exp_sums.specs.FormalPoint.{term_conj}
use Rattle.exp_sums.proofs.conjugates.put_all_conj.Given as goal

-- the terms so far are put with their directions negated, without more room
abbrev pub invariant-loop-term : goal.invariant-loop-term
invariant-loop-term l = record {
  items : l.terms.items ≡ put_terms (map term_conj (take l.term-index l.more)) l.fn.terms.items;
  capacity : l.terms.capacity ≡ l.fn.terms.capacity;
}
