use Rattle.std.proofs.Common.{refl, subst}
use Rattle.std.proofs.lemmas.List.{take_all}
use Rattle.billiards_cli.specs.Commands.Family.{AreOpen}
use Rattle.billiards_cli.proofs.FamilyAnswers.{open_more}
use Rattle.billiards_cli.proofs.commands.family.at_triangle.are_open.Goals as goal

pub loop-member-preserved : goal.loop-member-preserved
loop-member-preserved c = open_more c.args.members.now c.loop-member.member-index _ c.loop-member-test.true c.loop-member.invariant c.if-not-member.false

pub returns : goal.returns
returns c = (λ _. subst AreOpen (take_all c.loop-member.member-index c.args.members.now c.loop-member-test.false) c.loop-member.invariant, λ _. refl)
