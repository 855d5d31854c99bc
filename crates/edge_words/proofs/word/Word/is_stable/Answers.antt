use Rattle.std.proofs.Common.{◌↔◌, IsTrue, subst}
use Rattle.edge_words.specs.Stable.{IsStable}
use Rattle.edge_words.proofs.word.Word.is_stable.Goals as goal

pub returns : goal.returns
returns c = subst (λ w. IsTrue c.is_stable.result ↔ IsStable w) c.letters.ensures.all c.is_stable.ensures
