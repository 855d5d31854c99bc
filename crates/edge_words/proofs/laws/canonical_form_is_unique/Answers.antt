use Rattle.edge_words.proofs.Bracelet.{one_canonical_form}
use Rattle.edge_words.proofs.laws.canonical_form_is_unique.Goals as goal

pub returns : goal.returns
returns c = one_canonical_form
