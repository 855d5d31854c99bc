use Rattle.std.proofs.Common.{◌≡◌, ◌-◌, length}
use Rattle.cover_merge.proofs.Judged.{AreJudged}
use Rattle.cover_merge.proofs.claims.judge_nodes.Given as goal

-- the claims of the nodes so far are true
abbrev pub invariant-loop-place : goal.invariant-loop-place
invariant-loop-place l = record {
  judged : AreJudged l.file l.nodes l.walk l.before;
  kept : l.tests ≡ l.fn.tests;
}

-- each node is one of the file's
abbrev pub decreases-loop-place : goal.decreases-loop-place
decreases-loop-place l = length l.nodes - l.before
