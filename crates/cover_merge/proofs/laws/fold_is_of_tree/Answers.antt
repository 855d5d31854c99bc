use Rattle.cover_merge.proofs.Standing.{fold_is_of_tree_lem}
use Rattle.cover_merge.proofs.laws.fold_is_of_tree.Goals as goal

pub returns : goal.returns
returns c = fold_is_of_tree_lem
