use Rattle.std.proofs.Common.{sym, subst, ℕ, List, codes}
use Rattle.mcb_ends.specs.Bytes.{Writes}
use Rattle.covering_file.specs.declared.node.Node.{Node}
use Rattle.svg_pictures.specs.CoveringPicture.{square_line, node_text}
use Rattle.svg_pictures.proofs.leaf_square.write_node.Goals as goal

pub returns-in-Corner-clause-text : goal.returns-in-Corner-clause-text
returns-in-Corner-clause-text g c =
    let k = g.K.Sink in
    let old = k.written c.args.out.now in
    let new = k.written c.write_square-in-Corner.new.out in
    let result = c.write_square-in-Corner.result in
    subst (λ (n : Node). Writes old new result (node_text c.args.place n)) (sym c.in-Corner.is)
    (subst (λ (colour : List ℕ). Writes old new result (square_line c.args.place colour (codes " fill-opacity=\"0.75\""))) c.colour-in-Corner.ensures
    c.write_square-in-Corner.ensures.text)

pub returns-in-Uncovered-clause-text : goal.returns-in-Uncovered-clause-text
returns-in-Uncovered-clause-text g c =
    let k = g.K.Sink in
    let old = k.written c.args.out.now in
    let new = k.written c.write_square-in-Uncovered.new.out in
    let result = c.write_square-in-Uncovered.result in
    subst (λ (n : Node). Writes old new result (node_text c.args.place n)) (sym c.in-Uncovered.is) c.write_square-in-Uncovered.ensures.text
