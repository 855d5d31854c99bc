use Rattle.std.proofs.Common.{take}
use Rattle.billiards_cli.specs.Commands.Family.{AreOpen}
use Rattle.billiards_cli.proofs.commands.family.at_triangle.are_open.Given as goal

abbrev pub invariant-loop-member : goal.invariant-loop-member
invariant-loop-member l = AreOpen (take l.member-index l.members)
