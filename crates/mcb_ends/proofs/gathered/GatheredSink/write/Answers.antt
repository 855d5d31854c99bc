use Rattle.std.proofs.Common.{◌≡◌, ◌<◌, arith}
use Rattle.mcb_ends.proofs.gathered.GatheredSink.write.Goals as goal
use Rattle.mcb_ends.proofs.gathered.GatheredSink.write.Goals.{then-self-eq-SIZE+in_ok-pass_on, else-self-eq-SIZE}

pub returns-clause-some : goal.returns-clause-some
returns-clause-some g c = λ some.
    let space : c.if-self-eq-SIZE.self.len < 4096 = elim c.if-self-eq-SIZE.branch [
      | then-self-eq-SIZE+in_ok-pass_on w ↦
          let len : c.if-self-eq-SIZE.self.len ≡ w.pass_on.new.self.len = cc in
          let fewer : w.pass_on.new.self.len < c.args.self.now.len = w.in_ok-pass_on.ensures.fewer (omega (arith, w.if-self-eq-SIZE.true)) in
          omega (arith, len, fewer, w.if-self-eq-SIZE.true)
      | else-self-eq-SIZE w ↦
          let len : c.if-self-eq-SIZE.self.len ≡ c.args.self.now.len = cc in
          omega (arith, len, w.if-self-eq-SIZE.false, c.args.self.now.within)
    ] in
    omega (arith, c.min-count.ensures)
