use Rattle.std.proofs.Common.{◌≡◌, take}
use Rattle.exp_sums.specs.Terms.{put_terms}
use Rattle.exp_sums.proofs.terms.put_all.Given as goal

-- the terms so far are put, without more room
abbrev pub invariant-loop-term : goal.invariant-loop-term
invariant-loop-term l = record {
  items : l.terms.items ≡ put_terms (take l.term-index l.more) l.fn.terms.items;
  capacity : l.terms.capacity ≡ l.fn.terms.capacity;
}
