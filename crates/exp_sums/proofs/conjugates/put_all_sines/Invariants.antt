use Rattle.std.proofs.Common.{◌≡◌, take}
use Rattle.std.specs.List.{flat_map}
use Rattle.exp_sums.specs.Terms.{put_terms}
use Rattle.exp_sums.specs.SineForm.{sine_terms}
use Rattle.exp_sums.proofs.conjugates.put_all_sines.Given as goal

-- what the terms so far give is put, without more room
abbrev pub invariant-loop-term : goal.invariant-loop-term
invariant-loop-term l = record {
  items : l.terms.items ≡ put_terms (flat_map sine_terms (take l.term-index l.more)) l.fn.terms.items;
  capacity : l.terms.capacity ≡ l.fn.terms.capacity;
}
