use Rattle.std.proofs.Common.{◌<◌, ◌≤◌, length, ◌∙◌, arith}
use Rattle.std.proofs.Math.ListN.{length-set}
use Rattle.svg_pictures.proofs.Blank.{blank_triangle}
use Rattle.svg_pictures.proofs.EndNumbers.{IsPointOfEnd, point_of_end, ends_filled}
use Rattle.svg_pictures.proofs.Filled.{filled_more}
use Rattle.svg_pictures.proofs.ends.ends.Goals as goal

pub loop-j-preserved : goal.loop-j-preserved
loop-j-preserved c =
    let w = c.args.edges.now in
    let ts = c.args.triangles.now in
    let side = c.args.side in
    let before = c.loop-j.invariant in
    let count = c.requires.count in
    let most = c.requires.word.even_length.at_most in
    let below = c.loop-j-test.true in
    let within : c.loop-j.j < length c.loop-j.points = omega (arith, before.room, most, below) in
    let drawn : c.loop-j.j < length ts = omega (arith, count, below) in
    record {
      room = length-set c.loop-j.points c.loop-j.j c.point.result ∙ before.room;
      filled = filled_more (IsPointOfEnd side w ts) c.loop-j.points c.loop-j.j c.point.result within before.filled
          (point_of_end side w ts c.loop-j.j c.number_of_end.result blank_triangle c.point.result drawn c.number_of_end.ensures.corner
          c.number_of_end.ensures.number c.point.ensures);
    }

pub returns : goal.returns
returns c =
    let w = c.args.edges.now in
    let ts = c.args.triangles.now in
    let before = c.loop-j.invariant in
    let most = c.requires.word.even_length.at_most in
    let all = c.loop-j-test.false in
    let room : length w ≤ length c.loop-j.points = omega (arith, before.room, most) in
    ends_filled c.args.side w ts c.loop-j.points room (λ i below d. before.filled i (omega (arith, below, all)) d)
