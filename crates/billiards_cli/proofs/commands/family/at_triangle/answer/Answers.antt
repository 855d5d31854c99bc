use Rattle.std.proofs.Common.{[], refl, inr}
use Rattle.line_grammar.specs.declared.reason.Reason.TheVariants.{UnstableWord}
use Rattle.word_family.specs.Family.{IsStableFamily}
use Rattle.billiards_cli.specs.Commands.Family.{RefusesUnstable, FamilyWantsMemory, members_text}
use Rattle.billiards_cli.specs.Refusals.{argument_text}
use Rattle.billiards_cli.specs.declared.status.Status.TheVariants.{Done, NotShown, Malformed, OutOfMemory}
use Rattle.billiards_cli.proofs.Serving.{served}
use Rattle.billiards_cli.proofs.FamilyAnswers.{members_answer, shows_members}
use Rattle.billiards_cli.proofs.commands.family.at_triangle.answer.Goals as goal

pub returns-then-not-is_stable-clause-serves : goal.returns-then-not-is_stable-clause-serves
returns-then-not-is_stable-clause-serves g c = λ texts left faults spells.
    let text = argument_text UnstableWord in
    let unstable : ¬ (IsStableFamily c.args.family.now) = λ stable. let is = c.is_stable.ensures.1 stable in cc in
    let right : RefusesUnstable texts text = record { family = c.args.family.now; spells = spells; unstable = unstable; text_is = refl } in
    served _ _ _ Malformed _ text c.write_argument_refusal.result tt
    (members_answer texts c.args.triangle.now left Malformed text (inr right)) refl
    c.write_argument_refusal.ensures.text c.write_argument_refusal.ensures.cause c.after_writing.ensures.after

pub tested-requires : goal.tested-requires
tested-requires g c = c.is_stable.ensures.0 c.if-not-is_stable.false

pub returns-then-are_open-clause-serves : goal.returns-then-are_open-clause-serves
returns-then-are_open-clause-serves g c = λ texts left faults spells.
    let ms = c.as_slice-members.result.now in
    let shows = shows_members texts c.args.family.now c.args.triangle.now ms c.in-Ok.members.items c.as_slice-members.ensures.value spells
    (c.is_stable.ensures.0 c.if-not-is_stable.false) c.in-Ok.ensures.numbers c.in-Ok.ensures.shown in
    served _ _ _ Done _ (members_text ms) c.write_list-written.result tt
    (members_answer texts c.args.triangle.now left Done (members_text ms) (ms, shows, c.are_open.ensures.0 c.if-are_open.true)) refl
    c.write_list-written.ensures.text c.write_list-written.ensures.cause c.after_writing-then-are_open.ensures.after

pub returns-in-Ok-clause-serves : goal.returns-in-Ok-clause-serves
returns-in-Ok-clause-serves g c = λ texts left faults spells.
    let ms = c.as_slice-members.result.now in
    let shows = shows_members texts c.args.family.now c.args.triangle.now ms c.in-Ok.members.items c.as_slice-members.ensures.value spells
    (c.is_stable.ensures.0 c.if-not-is_stable.false) c.in-Ok.ensures.numbers c.in-Ok.ensures.shown in
    let closed = c.if-are_open.false in
    served _ _ _ NotShown _ (members_text ms) c.write_list-written.result tt
    (members_answer texts c.args.triangle.now left NotShown (members_text ms) (ms, shows, λ all. let is = c.are_open.ensures.1 all in cc)) refl
    c.write_list-written.ensures.text c.write_list-written.ensures.cause c.after_writing-else-are_open.ensures.after

pub returns-clause-serves : goal.returns-clause-serves
returns-clause-serves g c = λ texts left faults spells.
    let wants : FamilyWantsMemory texts [] = record {
      family = c.args.family.now;
      spells = spells;
      stable = c.is_stable.ensures.0 c.if-not-is_stable.false;
      text_is = refl;
    } in
    record {
      leaves = record { answer = members_answer texts c.args.triangle.now left OutOfMemory [] wants; unwritten = refl };
      counts = (refl, refl);
    }
