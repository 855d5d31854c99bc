use Rattle.edge_words.proofs.OneWay.{reads_one_way}
use Rattle.edge_words.proofs.laws.bytes_read_one_way.Goals as goal

pub returns : goal.returns
returns c = reads_one_way
