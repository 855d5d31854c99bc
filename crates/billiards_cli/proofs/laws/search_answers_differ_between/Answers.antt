use Rattle.billiards_cli.proofs.OneSearch.{search_answers_differ_between_lem}
use Rattle.billiards_cli.proofs.laws.search_answers_differ_between.Goals as goal

pub returns : goal.returns
returns c = search_answers_differ_between_lem
