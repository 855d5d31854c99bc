use Rattle.billiards_cli.proofs.request.obey.Goals as goal

pub returns-in-At-clause-serves : goal.returns-in-At-clause-serves
returns-in-At-clause-serves g c =
    let s = g.S.Source in
    rw c.in-At.is (c.at.ensures.serves (s.left c.args.src.now) (s.faults c.args.src.now))

pub returns-in-Job-clause-serves : goal.returns-in-Job-clause-serves
returns-in-Job-clause-serves g c =
    let s = g.S.Source in
    rw c.in-Job.is (c.job.ensures.serves (s.left c.args.src.now) (s.faults c.args.src.now))

pub returns-in-Demo-clause-serves : goal.returns-in-Demo-clause-serves
returns-in-Demo-clause-serves g c =
    let s = g.S.Source in
    rw c.in-Demo.is (c.demo.ensures.serves (s.left c.args.src.now) (s.faults c.args.src.now))

pub returns-in-Search-clause-serves : goal.returns-in-Search-clause-serves
returns-in-Search-clause-serves g c =
    let s = g.S.Source in
    rw c.in-Search.is (c.search.ensures.serves (s.left c.args.src.now) (s.faults c.args.src.now))

pub returns-in-Tile-clause-serves : goal.returns-in-Tile-clause-serves
returns-in-Tile-clause-serves g c =
    let s = g.S.Source in
    rw c.in-Tile.is (c.tile.ensures.serves (s.left c.args.src.now) (s.faults c.args.src.now))

pub returns-in-Unfold-clause-serves : goal.returns-in-Unfold-clause-serves
returns-in-Unfold-clause-serves g c =
    let s = g.S.Source in
    rw c.in-Unfold.is (c.unfold.ensures.serves (s.left c.args.src.now) (s.faults c.args.src.now))

pub returns-in-Points-clause-serves : goal.returns-in-Points-clause-serves
returns-in-Points-clause-serves g c =
    let s = g.S.Source in
    rw c.in-Points.is (c.points.ensures.serves (s.left c.args.src.now) (s.faults c.args.src.now))

pub returns-in-Family-clause-serves : goal.returns-in-Family-clause-serves
returns-in-Family-clause-serves g c =
    let s = g.S.Source in
    rw c.in-Family.is (c.family.ensures.serves (s.left c.args.src.now) (s.faults c.args.src.now))

pub returns-in-FamilyAt-clause-serves : goal.returns-in-FamilyAt-clause-serves
returns-in-FamilyAt-clause-serves g c =
    let s = g.S.Source in
    rw c.in-FamilyAt.is (c.family_at.ensures.serves (s.left c.args.src.now) (s.faults c.args.src.now))

pub returns-in-Upgrade-clause-serves : goal.returns-in-Upgrade-clause-serves
returns-in-Upgrade-clause-serves g c = rw c.in-Upgrade.is c.upgrade.ensures.serves

pub returns-in-Path-clause-serves : goal.returns-in-Path-clause-serves
returns-in-Path-clause-serves g c =
    let s = g.S.Source in
    rw c.in-Path.is (c.path.ensures.serves (s.left c.args.src.now) (s.faults c.args.src.now))

pub returns-in-DrawnPath-clause-serves : goal.returns-in-DrawnPath-clause-serves
returns-in-DrawnPath-clause-serves g c =
    let s = g.S.Source in
    rw c.in-DrawnPath.is (c.drawn_path.ensures.serves (s.left c.args.src.now) (s.faults c.args.src.now))

pub returns-in-Merge-clause-serves : goal.returns-in-Merge-clause-serves
returns-in-Merge-clause-serves g c = rw c.in-Merge.is c.merge.ensures.serves

pub returns-in-Draw-clause-serves : goal.returns-in-Draw-clause-serves
returns-in-Draw-clause-serves g c = rw c.in-Draw.is c.draw.ensures.serves
