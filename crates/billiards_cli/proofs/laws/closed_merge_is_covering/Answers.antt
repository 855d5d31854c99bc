use Rattle.billiards_cli.proofs.MergeLaws.{closed_merge_is_covering_lem}
use Rattle.billiards_cli.proofs.laws.closed_merge_is_covering.Goals as goal

pub returns : goal.returns
returns c = closed_merge_is_covering_lem
