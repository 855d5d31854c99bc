use Rattle.svg_pictures.proofs.Differences.{differ_by_two}
use Rattle.svg_pictures.proofs.laws.numbers_differ_by_two.Goals as goal

pub returns : goal.returns
returns c = differ_by_two
