use Rattle.std.proofs.Common.{arith, ◌∙◌}
use Rattle.std.proofs.lemmas.Grind.{common_steps}
use Rattle.std.proofs.lemmas.List.{take_rest}
use Rattle.mcb_ends.proofs.Written.{Appends-take}
use Rattle.mcb_ends.proofs.writing.put.Goals as goal

pub loop-at-preserved : goal.loop-at-preserved
loop-at-preserved g c =
    let k = g.K.Sink in
    record {
      within = grind (arith, common_steps);
      text = Appends-take (k.written c.args.out.now) (k.written c.loop-at.out)
          (k.written c.write.new.self) c.args.piece.now c.loop-at.at c.in_ok-at.field-0 c.loop-at.invariant.text (rw take_rest at c.in_ok-at.ensures.bytes);
      room = cc;
      faults = c.in_ok-at.ensures.cause.kept ∙ c.loop-at.invariant.faults;
    }
