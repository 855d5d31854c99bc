use Rattle.svg_pictures.proofs.Rounded.{rounded_computed}
use Rattle.svg_pictures.proofs.coordinates.rounded.Goals as goal

pub returns-clause-near : goal.returns-clause-near
returns-clause-near c = (rounded_computed c.args.z c.requires).near

pub returns-clause-size : goal.returns-clause-size
returns-clause-size c = (rounded_computed c.args.z c.requires).size
