-- The first round that refuses, or a merge.
use Rattle.std.proofs.Common.{ap, ℕ, ◌+◌, length, arith}
use Rattle.covering_file.specs.TreeFile.{TreeFile}
use Rattle.cover_merge.proofs.Refused.{region_refused, few_nodes}
use Rattle.cover_merge.proofs.merging.merge_files.Goals as goal

pub returns-in-Some : goal.returns-in-Some
returns-in-Some c = (
  c.in-Some.same,
  ap (λ (n : ℕ). n + c.in-Some.same + 1) c.line_count.ensures.value,
  region_refused c.args.first c.args.second c.header.result.now c.header-2.result.now c.in-Some.same c.header.ensures.value
      c.header-2.ensures.value c.in-Some.ensures.found,
)

pub overflow_cast-nodes : goal.overflow_cast-nodes
overflow_cast-nodes c =
    let r : TreeFile = record { heading = c.in_ok-merged.merged.header; nodes = c.in_ok-merged.merged.nodes.items } in
    omega (
      arith,
      few_nodes c.args.first c.args.second r c.header.ensures.is_file c.header-2.ensures.is_file c.in_ok-merged.ensures.0,
      ap length c.as_slice.ensures.value,
    )
