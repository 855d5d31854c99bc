use Rattle.std.proofs.Common.{ap, sym, subst, length, ◌≤◌, ℕ, List}
use Rattle.std.proofs.lemmas.Result.{err_from_is_err_and}
use Rattle.covering_file.specs.CheckClaims.{check_claims}
use Rattle.covering_file.proofs.AreClaims.{check_are_claims}
use Rattle.covering_file.proofs.NodeParts.{node_is_form}
use Rattle.covering_file.proofs.NextNode.{box_first, node_fails, node_refused, node_taken}
use Rattle.cover_checker.proofs.nodes.take_node.Goals as goal

pub take-requires-clause-form : goal.take-requires-clause-form
take-requires-clause-form g c =
    node_is_form (length c.words.result.now) c.version.result
    (subst (λ (ws : List (List ℕ)). length ws ≤ 32) (sym c.words.ensures.all) c.words.ensures.is_heading.word_count.1)

pub returns-in_err-node-clause-node : goal.returns-in_err-node-clause-node
returns-in_err-node-clause-node g c nodes counted at =
    let left = g.S.Source.left in
    let p = err_from_is_err_and c.from_residual.result c.from_residual.ensures.1 in
    rw (p.1, p.2)
    (node_fails check_claims c.args.limit (length c.words.result.now) c.version.result c.args.header.now nodes c.args.lines.now c.take.new.lines
    (left c.args.src.now) (left c.take.new.src) _ (ap length c.words.ensures.all) c.version.ensures.value c.in_err-node.ensures.reads)

pub returns-in-Err-clause-node : goal.returns-in-Err-clause-node
returns-in-Err-clause-node g c nodes counted at =
    let left = g.S.Source.left in
    node_refused check_claims c.args.limit c.args.count c.args.header.now (length c.words.result.now) c.version.result nodes c.args.place
    c.args.lines.now c.take.new.lines (left c.args.src.now) (left c.take.new.src)
    c.in_ok-node.node c.number.result c.in-Err.reason check_are_claims c.words.ensures.is_heading.word_count.1 (ap length c.words.ensures.all)
    c.version.ensures.value counted
    (box_first nodes c.args.place at) c.number.ensures
    c.in_ok-node.ensures.reads c.take.ensures.stops c.in-Err.ensures.judged

pub returns-in-Ok-clause-node : goal.returns-in-Ok-clause-node
returns-in-Ok-clause-node g c nodes counted at =
    let left = g.S.Source.left in
    node_taken check_claims c.args.limit c.args.count c.args.header.now (length c.words.result.now) c.version.result nodes c.args.place
    c.args.lines.now c.take.new.lines
    (left c.args.src.now) (left c.take.new.src)
    c.in_ok-node.node (ap length c.words.ensures.all) c.version.ensures.value counted
    (box_first nodes c.args.place at) c.in_ok-node.ensures.reads c.in-Ok.ensures.judged.0 c.in-Ok.ensures.judged.1
