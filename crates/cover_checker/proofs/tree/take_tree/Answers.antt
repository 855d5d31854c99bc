-- The nodes, the end line and the end, one after another.
use Rattle.std.proofs.lemmas.Result.{err_from_is_err_and}
use Rattle.cover_checker.proofs.WholeTree.{nodes_fail, end_fails, text_fails, text_taken}
use Rattle.cover_checker.proofs.tree.take_tree.Goals as goal

pub returns-in_err-count-clause-fails : goal.returns-in_err-count-clause-fails
returns-in_err-count-clause-fails g c =
    let left = g.S.Source.left in
    let p = err_from_is_err_and c.from_residual.result c.from_residual.ensures.1 in
    rw (p.1, p.2)
    (nodes_fail c.args.limit c.args.header.now c.args.lines.now c.take_nodes.new.lines (left c.args.src.now)
    (left c.take_nodes.new.src) _ c.requires.reading c.in_err-count.ensures.fails)

pub returns-in_err-take-clause-fails : goal.returns-in_err-take-clause-fails
returns-in_err-take-clause-fails g c =
    let left = g.S.Source.left in
    let p = err_from_is_err_and c.from_residual-in_err-take.result c.from_residual-in_err-take.ensures.1 in
    rw (p.1, p.2)
    (end_fails c.args.limit c.in_ok-count.count c.args.header.now c.args.lines.now c.take_nodes.new.lines c.take.new.lines (left c.args.src.now)
    (left c.take_nodes.new.src) (left c.take.new.src) _
    c.requires.reading c.in_ok-count.ensures.nodes c.in_err-take.ensures.reads)

pub returns-in_err-end_of_input-clause-fails : goal.returns-in_err-end_of_input-clause-fails
returns-in_err-end_of_input-clause-fails g c =
    let left = g.S.Source.left in
    let p = err_from_is_err_and c.from_residual-in_err-end_of_input.result c.from_residual-in_err-end_of_input.ensures.1 in
    rw (p.1, p.2)
    (text_fails c.args.limit c.in_ok-count.count c.args.header.now c.args.lines.now c.take_nodes.new.lines c.take.new.lines c.end_of_input.new.lines
    (left c.args.src.now) (left c.take_nodes.new.src) (left c.take.new.src) (left c.end_of_input.new.src) _
    c.in_ok-count.ensures.nodes c.in_ok-take.ensures.reads c.in_err-end_of_input.ensures.reads)

pub returns-clause-tree : goal.returns-clause-tree
returns-clause-tree g c =
    let left = g.S.Source.left in
    text_taken c.args.limit c.in_ok-count.count c.args.header.now c.args.lines.now c.take_nodes.new.lines c.take.new.lines
    (left c.args.src.now) (left c.take_nodes.new.src) (left c.take.new.src) (left c.end_of_input.new.src)
    c.in_ok-count.ensures.nodes c.in_ok-take.ensures.reads c.in_ok-end_of_input.ensures.reads
