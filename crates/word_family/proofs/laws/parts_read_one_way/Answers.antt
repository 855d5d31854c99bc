use Rattle.word_family.proofs.Readings.{reads_one_way}
use Rattle.word_family.proofs.laws.parts_read_one_way.Goals as goal

pub returns : goal.returns
returns c = reads_one_way
