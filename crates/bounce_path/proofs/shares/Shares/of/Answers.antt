use Rattle.std.proofs.Common.{FitsSigned}
use Rattle.std.specs.Int.{w128}
use Rattle.std.proofs.lemmas.Int.{to_z-of_z}
use Rattle.bounce_path.proofs.Parts.{shares_are}
use Rattle.bounce_path.proofs.shares.Shares.of.Goals as goal

pub returns : goal.returns
returns c =
    let fits : FitsSigned w128 c.args.level = c.ranges.level in
    shares_are c.args.crossing.now c.args.level c.least_share.result c.greatest_share.result c.requires.near c.requires.inside
    (simp to_z-of_z at c.least_share.ensures) (simp to_z-of_z at c.greatest_share.ensures)
