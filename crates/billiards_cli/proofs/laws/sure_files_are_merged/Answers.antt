use Rattle.billiards_cli.proofs.MergeLaws.{sure_files_are_merged_lem, closed_merge_is_accepted_lem}
use Rattle.billiards_cli.proofs.laws.sure_files_are_merged.Goals as goal

pub returns-clause-merged : goal.returns-clause-merged
returns-clause-merged c = sure_files_are_merged_lem

pub returns-clause-accepted : goal.returns-clause-accepted
returns-clause-accepted c = closed_merge_is_accepted_lem
