use Rattle.billiards_cli.proofs.OneTile.{tile_answers_differ_between_lem}
use Rattle.billiards_cli.proofs.laws.tile_answers_differ_between.Goals as goal

pub returns : goal.returns
returns c = tile_answers_differ_between_lem
