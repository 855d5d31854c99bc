use Rattle.edge_words.proofs.KeptStability.{bracelet_keeps_stability}
use Rattle.edge_words.proofs.laws.bracelet_keeps_stability.Goals as goal

pub returns : goal.returns
returns c = bracelet_keeps_stability
