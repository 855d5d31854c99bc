use Rattle.std.proofs.Common.{◌∙◌, ◌++◌, ℕ, List, codes}
use Rattle.std.specs.List.{flat_map}
use Rattle.mcb_ends.proofs.Written.{AppendsPrefix-flat_map, Writes-failed}
use Rattle.svg_pictures.specs.CoveringPicture.{corner_text}
use Rattle.svg_pictures.proofs.Texts.{Appends-next}
use Rattle.svg_pictures.proofs.outlines.write_next_corners.Goals as goal

abbrev line : ℕ → ℕ × ℕ → List ℕ
line grid d = codes " " ++ corner_text grid d

pub returns-in_err-write_next_corner-clause-text : goal.returns-in_err-write_next_corner-clause-text
returns-in_err-write_next_corner-clause-text g c =
    let k = g.K.Sink in
    let grid = c.args.grid in
    let corners = c.args.corners.now in
    let old = k.written c.args.out.now in
    let new = k.written c.write_next_corner.new.out in
    let begun = AppendsPrefix-flat_map (line grid) old (k.written c.loop-corner.out) new corners c.loop-corner.corner-index (0, 0) c.loop-corner-test.true
    c.loop-corner.invariant.text c.in_err-write_next_corner.ensures.text in
    Writes-failed old new c.from_residual.result (flat_map (line grid) corners) c.from_residual.ensures.0 begun

pub loop-corner-preserved : goal.loop-corner-preserved
loop-corner-preserved g c =
    let k = g.K.Sink in
    let before = c.loop-corner.invariant in
    let written = c.in_ok-write_next_corner.ensures in
    record {
      text = Appends-next (line c.args.grid) (k.written c.args.out.now) (k.written c.loop-corner.out) (k.written c.write_next_corner.new.out)
          c.args.corners.now c.loop-corner.corner-index (0, 0) c.loop-corner-test.true before.text written.text;
      room = written.room ∙ before.room;
      faults = written.cause.kept ∙ before.faults;
    }
