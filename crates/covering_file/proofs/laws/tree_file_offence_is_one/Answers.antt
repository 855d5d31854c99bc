use Rattle.covering_file.proofs.OneOffence.{tree_file_offence_is_one}
use Rattle.covering_file.proofs.laws.tree_file_offence_is_one.Goals as goal

pub returns : goal.returns
returns c = tree_file_offence_is_one
