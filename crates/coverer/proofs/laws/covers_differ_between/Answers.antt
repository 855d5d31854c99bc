use Rattle.coverer.proofs.Between.{covers_differ_between_lem}
use Rattle.coverer.proofs.laws.covers_differ_between.Goals as goal

pub returns : goal.returns
returns c = covers_differ_between_lem
