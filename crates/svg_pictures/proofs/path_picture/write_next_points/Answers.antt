use Rattle.std.proofs.Common.{◌∙◌}
use Rattle.std.specs.List.{flat_map}
use Rattle.mcb_ends.proofs.Written.{AppendsPrefix-flat_map, Writes-failed}
use Rattle.bounce_path.specs.declared.bounce.Bounce.{Bounce}
use Rattle.svg_pictures.specs.BouncePoints.{next_point_text}
use Rattle.svg_pictures.proofs.Texts.{Appends-next}
use Rattle.svg_pictures.proofs.path_picture.write_next_points.Goals as goal

-- a bounce that no fact speaks of
abbrev blank : Bounce
blank = record { edge = 0; low = 0; high = 0 }

pub returns-in_err-write_next_point-clause-text : goal.returns-in_err-write_next_point-clause-text
returns-in_err-write_next_point-clause-text g c =
    let k = g.K.Sink in
    let line = next_point_text c.args.triangle.now in
    let bounces = c.args.bounces.now in
    let old = k.written c.args.out.now in
    let new = k.written c.write_next_point.new.out in
    let begun = AppendsPrefix-flat_map line old (k.written c.loop-bounce.out) new bounces c.loop-bounce.bounce-index blank c.loop-bounce-test.true
    c.loop-bounce.invariant.text c.in_err-write_next_point.ensures.text in
    Writes-failed old new c.from_residual.result (flat_map line bounces) c.from_residual.ensures.0 begun

pub loop-bounce-preserved : goal.loop-bounce-preserved
loop-bounce-preserved g c =
    let k = g.K.Sink in
    let before = c.loop-bounce.invariant in
    let written = c.in_ok-write_next_point.ensures in
    record {
      text = Appends-next (next_point_text c.args.triangle.now) (k.written c.args.out.now) (k.written c.loop-bounce.out) (k.written c.write_next_point.new.out)
          c.args.bounces.now c.loop-bounce.bounce-index blank c.loop-bounce-test.true before.text written.text;
      room = written.room ∙ before.room;
      faults = written.cause.kept ∙ before.faults;
    }
