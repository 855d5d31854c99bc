use Rattle.std.proofs.Common.{subst₂}
use Rattle.rat_core.specs.Written.{Written, value}
use Rattle.svg_pictures.specs.UnfoldingPicture.{WritesUnfolding}
use Rattle.billiards_cli.proofs.commands.unfold.draw.Goals as goal

pub returns-clause-text : goal.returns-clause-text
returns-clause-text g c =
    let k = g.K.Sink in
    subst₂ (λ (x y : Written). WritesUnfolding c.args.unfolding.now (value x) (value y) (k.written c.args.out.now) (k.written c.write_unfolding.new.out)
    c.write_unfolding.result) c.first.ensures.angle c.second.ensures.angle c.write_unfolding.ensures.text
