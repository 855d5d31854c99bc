use Rattle.edge_words.proofs.Bracelet.{bracelet_shares_canonical_form}
use Rattle.edge_words.proofs.laws.bracelet_shares_canonical_form.Goals as goal

pub returns : goal.returns
returns c = bracelet_shares_canonical_form
