use Rattle.covering_file.proofs.Between.{refusals_differ_between, accepted_is_refused_between}
use Rattle.covering_file.proofs.laws.verdicts_differ_between.Goals as goal

pub returns-clause-refused : goal.returns-clause-refused
returns-clause-refused c = refusals_differ_between

pub returns-clause-accepted : goal.returns-clause-accepted
returns-clause-accepted c = accepted_is_refused_between
