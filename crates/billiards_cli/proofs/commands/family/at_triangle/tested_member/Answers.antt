use Rattle.std.proofs.Common.{Ok, sym, ap, subst}
use Rattle.edge_words.specs.Stable.{IsStable}
use Rattle.billiards_cli.specs.Commands.Family.{HasOtherLength}
use Rattle.billiards_cli.proofs.FamilyAnswers.{tested_is}
use Rattle.billiards_cli.proofs.commands.family.at_triangle.tested_member.Goals as goal

pub is_open-requires : goal.is_open-requires
is_open-requires c = subst IsStable (sym c.in-Some.ensures.word) (c.requires.stable c.args.number c.requires.number.0)

pub returns-in_ok-open-in-Some : goal.returns-in_ok-open-in-Some
returns-in_ok-open-in-Some c =
    let long : ¬ (HasOtherLength c.args.family.now c.args.number) = λ other. let none = c.in-Some.ensures.none.1 other in cc in
    tested_is c.args.family.now c.args.triangle.now c.args.number c.in-Some.word c.in_ok-open-in-Some.«open» c.in-Some.ensures.word long
    (λ h. c.in_ok-open-in-Some.ensures.«open» (ap Ok h)) (λ h. c.in_ok-open-in-Some.ensures.not_shown (ap Ok h))
