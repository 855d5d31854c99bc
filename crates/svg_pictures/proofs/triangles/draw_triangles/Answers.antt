use Rattle.std.proofs.Common.{◌+◌, ◌<◌, ◌≤◌, length, ◌∙◌, arith}
use Rattle.std.proofs.Math.ListN.{length-set}
use Rattle.std.proofs.lemmas.List.{length-take-le}
use Rattle.rat_core.specs.Written.{value}
use Rattle.svg_pictures.specs.UnfoldingPicture.{IsPictureOfTriangle}
use Rattle.svg_pictures.proofs.Filled.{filled_more, filled_taken}
use Rattle.svg_pictures.proofs.triangles.draw_triangles.Goals as goal

pub loop-k-preserved : goal.loop-k-preserved
loop-k-preserved c =
    let at = c.args.plane.now in
    let letters = c.letters-k-end.ensures in
    let most = letters.word.even_length.at_most in
    let before = c.loop-k.invariant in
    let within : c.loop-k.k < length c.loop-k.triangles = omega (arith, before.room, letters.count, most, c.loop-k-test.true) in
    record {
      room = length-set c.loop-k.triangles c.loop-k.k c.draw_triangle.result ∙ before.room;
      filled = filled_more (λ k t. IsPictureOfTriangle c.args.u.now k (value at.0) (value at.1) t) c.loop-k.triangles c.loop-k.k
          c.draw_triangle.result within before.filled c.draw_triangle.ensures;
    }

pub returns : goal.returns
returns c =
    let at = c.args.plane.now in
    let letters = c.letters-k-end.ensures in
    let most = letters.word.even_length.at_most in
    let before = c.loop-k.invariant in
    let n = length c.args.u.now + 1 in
    let room : n ≤ length c.loop-k.triangles = omega (arith, before.room, most) in
    record {
      count = length-take-le n c.loop-k.triangles room;
      each = λ k t within.
          filled_taken (λ k t. IsPictureOfTriangle c.args.u.now k (value at.0) (value at.1) t) c.loop-k.triangles n
          (λ i below d. before.filled i (omega (arith, below, letters.count, c.loop-k-test.false)) d) k (omega (arith, within)) t;
    }
