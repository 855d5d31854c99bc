use Rattle.word_search.proofs.OneResult.{results_differ_between_lem}
use Rattle.word_search.proofs.laws.results_differ_between.Goals as goal

pub returns : goal.returns
returns c = results_differ_between_lem
