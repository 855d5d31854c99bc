use Rattle.billiards_cli.proofs.FamilyAnswers.{AreTestedBefore}
use Rattle.billiards_cli.proofs.commands.family.at_triangle.tested.Given as goal

-- each number before this one has its verdict
abbrev pub invariant-loop-number : goal.invariant-loop-number
invariant-loop-number l = AreTestedBefore l.family l.triangle l.number l.members.items
