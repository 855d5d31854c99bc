use Rattle.std.proofs.Common.{◌≡◌, ◌-◌, ◌++◌, ◌≤◌, length, take, length-take, arith}
use Rattle.std.proofs.KnownBytes.{append_known-moved}
use Rattle.mcb_ends.proofs.Gathering.{passed_split, HasGrown-appends}
use Rattle.mcb_ends.proofs.gathered.Gathered.pass_on.Goals as goal

pub invariant_of-self-2-clause-grown : goal.invariant_of-self-2-clause-grown
invariant_of-self-2-clause-grown g c =
    let k = g.K.Sink in
    HasGrown-appends g.B.Before.taken (k.written c.args.self.now.out) (k.written c.write.new.self) _ c.args.self.now.grown c.in_ok-count.ensures.bytes

pub returns-clause-written : goal.returns-clause-written
returns-clause-written g c =
    let k = g.K.Sink in
    let self = c.args.self.now in
    let count = c.in_ok-count.count in
    let left = take (self.len - count) c.copy_within.new.self in
    let within : count ≤ self.len = omega (arith, c.in_ok-count.ensures.bound, length-take self.len self.bytes) in
    let all : self.len ≤ length self.bytes = omega (arith, self.within) in
    let split : take self.len self.bytes ≡ take count (take self.len self.bytes) ++ left =
    passed_split self.bytes c.copy_within.new.self count self.len within all c.copy_within.ensures.after in
    append_known-moved (k.written self.out) (k.written c.write.new.self) (take count (take self.len self.bytes)) left
    (take self.len self.bytes) c.in_ok-count.ensures.bytes split
