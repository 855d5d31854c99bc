-- By the node of the first tree at the place.
use Rattle.std.proofs.Common.{◌+◌, refl, get_or}
use Rattle.covering_file.specs.declared.node.Node.TheVariants.{Split, Uncovered}
use Rattle.cover_merge.proofs.Ahead.{open_first, leaf_first}
use Rattle.cover_merge.proofs.Listed.{node_at, no_split_is_leaf}
use Rattle.cover_merge.proofs.overlaying.lay_next.Goals as goal

pub returns-in_ok-copy_tree-in-Uncovered-clause-ahead : goal.returns-in_ok-copy_tree-in-Uncovered-clause-ahead
returns-in_ok-copy_tree-in-Uncovered-clause-ahead c whole =
    open_first c.args.first.now c.args.second.now c.args.at (record { first = c.args.at.first + 1; second = c.in_ok-copy_tree-in-Uncovered.field-0 })
    c.args.nodes.now.items c.copy_tree.new.copied.items whole (node_at c.args.first.now c.args.at.first Uncovered c.requires.first c.in-Uncovered.is) refl
    c.in_ok-copy_tree-in-Uncovered.ensures.behind
    c.in_ok-copy_tree-in-Uncovered.ensures.copied

pub returns-in_ok-push-in_default-clause-ahead : goal.returns-in_ok-push-in_default-clause-ahead
returns-in_ok-push-in_default-clause-ahead c whole =
    let n = get_or c.args.first.now c.args.at.first Split in
    leaf_first c.args.first.now c.args.second.now c.args.at (record { first = c.args.at.first + 1; second = c.behind_tree.result })
    c.args.nodes.now.items c.push.new.self.items whole n (no_split_is_leaf n c.in_default.not-Split) c.in_default.not-Uncovered
    (node_at c.args.first.now c.args.at.first n c.requires.first refl) refl c.behind_tree.ensures.behind c.in_ok-push-in_default.ensures.items
