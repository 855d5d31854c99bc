use Rattle.std.proofs.Common.{◌+◌}
use Rattle.bounce_path.proofs.Crossed.{crossing_from}
use Rattle.bounce_path.proofs.crossing.crossing_at.Goals as goal

pub returns : goal.returns
returns c =
    let prepared = c.args.prepared.now in
    crossing_from prepared.word (c.args.place + 1) c.args.edge prepared.point prepared.table c.upper_bounds.result c.lower_bounds.result c.requires.word
    c.requires.place c.requires.edge c.upper_bounds.ensures.shift c.upper_bounds.ensures.ends c.lower_bounds.ensures.ends c.upper_bounds.ensures.holds
    c.lower_bounds.ensures.holds
