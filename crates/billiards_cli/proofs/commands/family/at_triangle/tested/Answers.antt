use Rattle.std.proofs.Common.{map, sym, ap, subst, ◌∙◌, arith}
use Rattle.std.specs.List.{All}
use Rattle.std.proofs.lemmas.List.Elements.{All-nil}
use Rattle.billiards_cli.specs.declared.commands.family.member.Member.{Member}
use Rattle.billiards_cli.specs.Commands.Family.{IsShownMember}
use Rattle.billiards_cli.proofs.FamilyAnswers.{no_numbers, all_numbers, tested_taken, tested_left_out}
use Rattle.billiards_cli.proofs.commands.family.at_triangle.tested.Goals as goal
use Rattle.billiards_cli.proofs.commands.family.at_triangle.tested.Goals.{in-Some+in_ok-push, in_default}

pub loop-number-init : goal.loop-number-init
loop-number-init c = record {
  some = omega arith;
  numbers = ap (map (λ (m : Member). m.number)) c.new-members.ensures.items ∙ no_numbers c.args.family.now;
  shown = subst (All (IsShownMember c.args.family.now c.args.triangle.now)) (sym c.new-members.ensures.items)
      (All-nil (IsShownMember c.args.family.now c.args.triangle.now));
}

pub returns-clause-numbers : goal.returns-clause-numbers
returns-clause-numbers c = all_numbers c.args.family.now c.loop-number.number _
    (omega (arith, c.loop-number-test.false, c.loop-number.auto.number, c.loop-number.auto.number-end)) c.loop-number.invariant.numbers

pub loop-number-preserved : goal.loop-number-preserved
loop-number-preserved c =
    elim c.match-branch-2.branch [
      | in-Some+in_ok-push w ↦ tested_taken _ _ _ c.in_ok-member.field-0 w.in-Some.member c.loop-number.members.items _ w.in-Some.is c.in_ok-member.ensures
          (ap (λ members. members.items) w.members-is ∙ w.in_ok-push.ensures.items) c.loop-number.invariant
      | in_default w ↦ tested_left_out _ _ _ c.in_ok-member.field-0 c.loop-number.members.items _ w.in_default.is c.in_ok-member.ensures
          (ap (λ members. members.items) w.members-is) c.loop-number.invariant
    ]
