use Rattle.covering_file.proofs.TreeText.{file_text-lines}
use Rattle.covering_file.proofs.laws.file_text_is_lines.Goals as goal

pub returns : goal.returns
returns c = file_text-lines
