use Rattle.cover_merge.proofs.Merged.{merge_is_open_where_both_are_lem, merge_is_small_lem}
use Rattle.cover_merge.proofs.laws.merge_is_of_both.Goals as goal

pub returns-clause-open : goal.returns-clause-open
returns-clause-open c = merge_is_open_where_both_are_lem

pub returns-clause-small : goal.returns-clause-small
returns-clause-small c = merge_is_small_lem
