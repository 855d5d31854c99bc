use Rattle.std.proofs.Common.{rules}
use Rattle.svg_pictures.proofs.Texts.{text_of_32}
use Rattle.svg_pictures.proofs.unfolding_picture.write_polygon.Goals as goal

pub returns-clause-text : goal.returns-clause-text
returns-clause-text g c =
    let t = c.args.triangle.now in
    let first_across = text_of_32 _ _ t.first.across (search rules) c.digits.ensures c.number-first_across.ensures in
    let first_down = text_of_32 _ _ t.first.down (search rules) c.digits-2.ensures c.number-first_down.ensures in
    let second_across = text_of_32 _ _ t.second.across (search rules) c.digits-3.ensures c.number-second_across.ensures in
    let second_down = text_of_32 _ _ t.second.down (search rules) c.digits-4.ensures c.number-second_down.ensures in
    let third_across = text_of_32 _ _ t.third.across (search rules) c.digits-5.ensures c.number-third_across.ensures in
    let third_down = text_of_32 _ _ t.third.down (search rules) c.digits-6.ensures c.number-third_down.ensures in
    rw (← first_across, ← first_down, ← second_across, ← second_down, ← third_across, ← third_down) c.put_all.ensures.text
