-- Each node is given its number once.
use Rattle.std.proofs.Common.{sym, subst, ℕ, length, arith}
use Rattle.covering_file.specs.declared.node.Node.{Node}
use Rattle.covering_file.specs.declared.node.Node.TheVariants.{Split}
use Rattle.covering_file.specs.Node.{IsNode}
use Rattle.cover_merge.specs.Steps.{number_at}
use Rattle.cover_merge.specs.Union.{with_number}
use Rattle.cover_merge.proofs.Mapped.{each_is_mapped}
use Rattle.cover_merge.proofs.renumbering.renumber.Goals as goal

pub with_number-requires : goal.with_number-requires
with_number-requires c =
    subst (λ (n : Node). (version : ℕ) × IsNode (length c.args.numbers.now) version n)
    (sym (c.loop-node.invariant.rest c.loop-node.node-index Split (omega arith))) (c.requires c.loop-node.node-index Split c.loop-node-test.true)

pub returns : goal.returns
returns c =
    each_is_mapped (with_number (number_at c.args.numbers.now)) c.loop-node.nodes c.args.nodes.now c.loop-node.auto.nodes
    (λ k d less. c.loop-node.invariant.done k d (omega (arith, less, c.loop-node-test.false)))
