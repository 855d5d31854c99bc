use Rattle.std.proofs.Common.{◌≡◌, ◌+◌, length}
use Rattle.exp_sums.specs.Limits.{terms_weight}
use Rattle.exp_sums.specs.Reach.{terms_reach}
use Rattle.exp_sums.specs.Bend.{terms_bend}
use Rattle.exp_sums.specs.Differences.{difference_terms, CanSubtract}
use Rattle.exp_sums.proofs.differences.sizes_of_difference.Given as goal

-- what is left has the sizes that are still to be added
abbrev pub invariant-merge : goal.invariant-merge
invariant-merge l = record {
  lists : CanSubtract l.first l.second;
  weight : l.sizes.weight + terms_weight (difference_terms l.first l.second) ≡ terms_weight (difference_terms l.initial.first l.initial.second);
  reach : l.sizes.reach + terms_reach (difference_terms l.first l.second) ≡ terms_reach (difference_terms l.initial.first l.initial.second);
  bend : l.sizes.bend + terms_bend (difference_terms l.first l.second) ≡ terms_bend (difference_terms l.initial.first l.initial.second);
}

abbrev pub decreases-merge : goal.decreases-merge
decreases-merge l = length l.first + length l.second
