use Rattle.covering_file.proofs.OneFile.{file_is_one}
use Rattle.covering_file.proofs.laws.file_is_one.Goals as goal

pub returns : goal.returns
returns c = file_is_one
