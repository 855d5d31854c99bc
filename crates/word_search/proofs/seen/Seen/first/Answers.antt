use Rattle.std.proofs.Common.{refl}
use Rattle.word_search.proofs.Walked.{first_seen}
use Rattle.word_search.proofs.seen.Seen.first.Goals as goal

pub returns : goal.returns
returns c = λ units. first_seen units _ refl refl refl
