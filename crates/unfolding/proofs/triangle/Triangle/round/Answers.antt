use Rattle.unfolding.proofs.KeptTriangles.{round_is}
use Rattle.unfolding.proofs.triangle.Triangle.round.Goals as goal

pub returns : goal.returns
returns c w centre minus dirs = round_is w c.args.centre c.args.minus c.args.dirs _ c.in_ok-first.first c.in_ok-second.second c.in_ok-third.third
    centre minus dirs c.in_ok-first.ensures c.in_ok-second.ensures c.in_ok-third.ensures
