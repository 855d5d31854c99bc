-- By the node of the second tree at the place, where the first is a split.
use Rattle.std.proofs.Common.{◌+◌, refl, get_or}
use Rattle.covering_file.specs.declared.node.Node.TheVariants.{Split, Uncovered}
use Rattle.cover_merge.proofs.Ahead.{open_second, leaf_second, both_split}
use Rattle.cover_merge.proofs.Listed.{node_at, no_split_is_leaf, after_first}
use Rattle.cover_merge.proofs.overlaying.lay_split.Goals as goal

pub returns-in_ok-copy_tree-in-Uncovered-clause-ahead : goal.returns-in_ok-copy_tree-in-Uncovered-clause-ahead
returns-in_ok-copy_tree-in-Uncovered-clause-ahead c whole =
    open_second c.args.first.now c.args.second.now c.args.at (record { first = c.in_ok-copy_tree-in-Uncovered.field-0; second = c.args.at.second + 1 })
    c.args.nodes.now.items c.copy_tree.new.copied.items whole c.requires.split.0 c.requires.split.1
    (node_at c.args.second.now c.args.at.second Uncovered c.requires.second c.in-Uncovered.is) refl c.in_ok-copy_tree-in-Uncovered.ensures.behind
    c.in_ok-copy_tree-in-Uncovered.ensures.copied

pub returns-in_ok-push-in-Split-clause-ahead : goal.returns-in_ok-push-in-Split-clause-ahead
returns-in_ok-push-in-Split-clause-ahead c whole =
    both_split c.args.first.now c.args.second.now c.args.at (record { first = c.args.at.first + 1; second = c.args.at.second + 1 })
    c.args.nodes.now.items c.push.new.self.items whole c.requires.split.0 c.requires.split.1
    (node_at c.args.second.now c.args.at.second Split c.requires.second c.in-Split.is)
    (after_first c.args.first.now c.args.at.first Split c.requires.split.0 c.requires.split.1) refl c.in_ok-push-in-Split.ensures.items

pub returns-in_ok-push-in_default-clause-ahead : goal.returns-in_ok-push-in_default-clause-ahead
returns-in_ok-push-in_default-clause-ahead c whole =
    let n = get_or c.args.second.now c.args.at.second Split in
    leaf_second c.args.first.now c.args.second.now c.args.at (record { first = c.behind_tree.result; second = c.args.at.second + 1 })
    c.args.nodes.now.items c.push-in_default.new.self.items whole c.requires.split.0 n (no_split_is_leaf n c.in_default.not-Split)
    c.in_default.not-Uncovered c.requires.split.1 (node_at c.args.second.now c.args.at.second n c.requires.second refl) refl
    c.behind_tree.ensures.behind c.in_ok-push-in_default.ensures.items
