use Rattle.covering_file.proofs.TreeFiles.{tree_file_never_offends}
use Rattle.covering_file.proofs.laws.tree_file_never_offends.Goals as goal

pub returns : goal.returns
returns c = tree_file_never_offends
