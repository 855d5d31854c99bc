use Rattle.std.proofs.Common.{subst₂}
use Rattle.rat_core.specs.Written.{Written, value}
use Rattle.svg_pictures.specs.PathPicture.{WritesPath}
use Rattle.billiards_cli.proofs.commands.path.picture.draw.Goals as goal

pub returns-clause-text : goal.returns-clause-text
returns-clause-text g c =
    let k = g.K.Sink in
    subst₂ (λ (x y : Written). WritesPath c.args.path.now.bounces (value x) (value y) (k.written c.args.out.now) (k.written c.write_path.new.out)
    c.write_path.result) c.first.ensures.angle c.second.ensures.angle c.write_path.ensures.text
