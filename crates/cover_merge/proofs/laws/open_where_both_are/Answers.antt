use Rattle.cover_merge.proofs.Standing.{open_where_both_are_lem, fold_is_open_where_tree_is_lem}
use Rattle.cover_merge.proofs.laws.open_where_both_are.Goals as goal

pub returns-clause-overlay : goal.returns-clause-overlay
returns-clause-overlay c = open_where_both_are_lem

pub returns-clause-fold : goal.returns-clause-fold
returns-clause-fold c = fold_is_open_where_tree_is_lem
