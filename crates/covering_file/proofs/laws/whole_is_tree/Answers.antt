use Rattle.covering_file.proofs.Trees.{whole_is_tree}
use Rattle.covering_file.proofs.laws.whole_is_tree.Goals as goal

pub returns : goal.returns
returns c = whole_is_tree
