use Rattle.std.proofs.Common.{rules}
use Rattle.svg_pictures.proofs.Texts.{text_of_32}
use Rattle.svg_pictures.proofs.path_picture.write_point.Goals as goal

pub returns-clause-text : goal.returns-clause-text
returns-clause-text g c =
    let point = c.args.point in
    let across = text_of_32 _ _ point.across (search rules) c.digits.ensures c.number-across.ensures in
    let down = text_of_32 _ _ point.down (search rules) c.digits-2.ensures c.number-down.ensures in
    rw (← across, ← down) c.put_all.ensures.text
