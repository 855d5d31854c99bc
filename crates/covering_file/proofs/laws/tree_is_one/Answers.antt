use Rattle.covering_file.proofs.Trees.{tree_is_one}
use Rattle.covering_file.proofs.laws.tree_is_one.Goals as goal

pub returns : goal.returns
returns c = tree_is_one
