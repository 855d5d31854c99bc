use Rattle.std.proofs.Common.{[], refl, inl, inr}
use Rattle.word_family.specs.Family.{IsStableFamily}
use Rattle.billiards_cli.specs.Commands.Family.{ShowsShifts, ShowsUnstable, FamilyWantsMemory, shifts_text}
use Rattle.billiards_cli.specs.Commands.Word.{unstable_text}
use Rattle.billiards_cli.specs.declared.status.Status.TheVariants.{Done, OutOfMemory}
use Rattle.billiards_cli.proofs.Serving.{served}
use Rattle.billiards_cli.proofs.FamilyAnswers.{family_answer}
use Rattle.billiards_cli.proofs.commands.family.answer.Goals as goal

pub returns-then-not-is_stable-clause-serves : goal.returns-then-not-is_stable-clause-serves
returns-then-not-is_stable-clause-serves g c = λ texts left faults spells.
    let unstable : ¬ (IsStableFamily c.args.family.now) = λ stable. let is = c.is_stable.ensures.1 stable in cc in
    let right : ShowsUnstable texts unstable_text = record { family = c.args.family.now; spells = spells; unstable = unstable; text_is = refl } in
    served _ _ _ Done _ unstable_text c.put.result tt (family_answer texts left Done unstable_text (inr right)) refl
    c.put.ensures.text c.put.ensures.cause c.after_writing.ensures.after

pub returns-in-Ok-clause-serves : goal.returns-in-Ok-clause-serves
returns-in-Ok-clause-serves g c = λ texts left faults spells.
    let text = shifts_text c.in-Ok.shifts.base c.in-Ok.shifts.step in
    let right : ShowsShifts texts text = record {
      family = c.args.family.now;
      spells = spells;
      stable = c.is_stable.ensures.0 c.if-not-is_stable.false;
      base = c.in-Ok.shifts.base;
      step = c.in-Ok.shifts.step;
      shifts = c.in-Ok.ensures.shifts;
      text_is = refl;
    } in
    served _ _ _ Done _ text c.write_shifts.result tt (family_answer texts left Done text (inl right)) refl
    c.write_shifts.ensures.text c.write_shifts.ensures.cause c.after_writing-in-Ok.ensures.after

pub returns-in-Err-clause-serves : goal.returns-in-Err-clause-serves
returns-in-Err-clause-serves g c = λ texts left faults spells.
    let wants : FamilyWantsMemory texts [] = record {
      family = c.args.family.now;
      spells = spells;
      stable = c.is_stable.ensures.0 c.if-not-is_stable.false;
      text_is = refl;
    } in
    record {
      leaves = record { answer = family_answer texts left OutOfMemory [] wants; unwritten = refl };
      counts = (refl, refl);
    }
