use Rattle.std.proofs.Common.{◌∙◌, List, subst}
use Rattle.std.proofs.lemmas.List.{take_all}
use Rattle.std.specs.Io.KnownBytes.{Appends}
use Rattle.mcb_ends.proofs.Written.{Writes-failed}
use Rattle.bounce_path.specs.declared.bounce.Bounce.{Bounce}
use Rattle.billiards_cli.specs.Commands.Path.{bounce_lines}
use Rattle.billiards_cli.proofs.PathTexts.{lines_appended, lines_begun}
use Rattle.billiards_cli.proofs.commands.path.writing.write_lines.Goals as goal

pub returns-in_err-write_line-clause-text : goal.returns-in_err-write_line-clause-text
returns-in_err-write_line-clause-text g c =
    let k = g.K.Sink in
    let bounces = c.args.bounces.now in
    let old = k.written c.args.out.now in
    let new = k.written c.write_line.new.out in
    Writes-failed old new c.from_residual.result (bounce_lines 1 bounces) c.from_residual.ensures.0
    (lines_begun old (k.written c.loop-place.out) new bounces c.loop-place.place c.loop-place-test.true c.loop-place.invariant.text
    c.in_err-write_line.ensures.text)

pub loop-place-preserved : goal.loop-place-preserved
loop-place-preserved g c =
    let k = g.K.Sink in
    let before = c.loop-place.invariant in
    let written = c.in_ok-write_line.ensures in
    record {
      text = lines_appended (k.written c.args.out.now) (k.written c.loop-place.out) (k.written c.write_line.new.out) c.args.bounces.now c.loop-place.place
          c.loop-place-test.true before.text written.text;
      room = written.room ∙ before.room;
      faults = written.cause.kept ∙ before.faults;
    }

pub returns-clause-text : goal.returns-clause-text
returns-clause-text g c =
    let k = g.K.Sink in
    subst (λ (bs : List Bounce). Appends (k.written c.args.out.now) (k.written c.loop-place.out) (bounce_lines 1 bs))
    (take_all c.loop-place.place c.args.bounces.now c.loop-place-test.false) c.loop-place.invariant.text
