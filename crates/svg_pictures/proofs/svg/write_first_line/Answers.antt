use Rattle.std.proofs.Common.{rules}
use Rattle.svg_pictures.proofs.Texts.{text_of_64}
use Rattle.svg_pictures.proofs.svg.write_first_line.Goals as goal

pub returns-clause-text : goal.returns-clause-text
returns-clause-text g c =
    let left = text_of_64 _ _ c.args.left (search rules) c.digits.ensures c.signed-left.ensures in
    let top = text_of_64 _ _ c.args.top (search rules) c.digits-2.ensures c.signed-top.ensures in
    let width = text_of_64 _ _ c.args.width (search rules) c.digits-3.ensures c.signed-width.ensures in
    let height = text_of_64 _ _ c.args.height (search rules) c.digits-4.ensures c.signed-height.ensures in
    rw (← left, ← top, ← width, ← height) c.put_all.ensures.text
