use Rattle.mcb_ends.specs.Gathered.{gathered_held, gathered_written}
use Rattle.mcb_ends.proofs.Gathering.{Writes-sent}
use Rattle.mcb_ends.proofs.gathered.Gathered.finish.Goals as goal

pub returns-clause-text : goal.returns-clause-text
returns-clause-text g c = λ text written.
    let k = g.K.Sink in
    let left = c.flush-result.new.self in
    Writes-sent g.B.Before.taken (gathered_written k.written c.args.self) (k.written left.out) (gathered_held left) text c.flush-result.result
    left.grown c.flush-result.ensures.written c.flush-result.ensures.all written
