use Rattle.std.proofs.Common.{List, [], ℕ, refl, sym, subst, inl}
use Rattle.edge_words.specs.Stable.{IsStable}
use Rattle.line_grammar.specs.Text.{text_of}
use Rattle.billiards_cli.specs.Commands.Word.{word_input, IsWordLine, WritesShift, AnswersWord, WordWantsMemory, shift_text, unstable_text}
use Rattle.billiards_cli.specs.declared.status.Status.TheVariants.{Done, OutOfMemory}
use Rattle.billiards_cli.proofs.Serving.{served}
use Rattle.billiards_cli.proofs.WordAnswers.{word_answer, unstable_word_text}
use Rattle.billiards_cli.proofs.commands.word.answer.Goals as goal

pub returns-then-not-is_stable-clause-serves : goal.returns-then-not-is_stable-clause-serves
returns-then-not-is_stable-clause-serves g c = λ left left' faults faults' may_be ended stood.
    let w = c.args.word.now in
    let input = text_of (word_input.lines_of w) in
    let line : IsWordLine input w = record { says = c.requires; text = refl } in
    let unstable : ¬ (IsStable w) = λ stable. let yes = c.is_stable.ensures.1 stable in cc in
    let right : AnswersWord input unstable_text = record { word = w; line = line; text_is = unstable_word_text w c.requires unstable } in
    served _ _ _ Done _ unstable_text c.put.result tt (word_answer left left' input Done unstable_text may_be right ended) stood
    c.put.ensures.text c.put.ensures.cause c.after_writing.ensures.after

pub write_shift_of-requires : goal.write_shift_of-requires
write_shift_of-requires g c = subst (λ (w : List ℕ). IsStable w) (sym c.in-Ok.ensures.word) (c.is_stable.ensures.0 c.if-not-is_stable.false)

pub returns-in-Ok-clause-serves : goal.returns-in-Ok-clause-serves
returns-in-Ok-clause-serves g c = λ left left' faults faults' may_be ended stood.
    let k = g.K.Sink in
    let w = c.args.word.now in
    let input = text_of (word_input.lines_of w) in
    let line : IsWordLine input w = record { says = c.requires; text = refl } in
    let writes = subst (λ (u : List ℕ). WritesShift u (k.written c.args.out.now) (k.written c.write_shift_of.new.out) c.write_shift_of.result)
    c.in-Ok.ensures.word c.write_shift_of.ensures.text in
    let text = shift_text writes.shift in
    let right : AnswersWord input text = record { word = w; line = line; text_is = inl (writes.shift, writes.is_shift, refl) } in
    served _ _ _ Done _ text c.write_shift_of.result tt (word_answer left left' input Done text may_be right ended) stood
    writes.written c.write_shift_of.ensures.cause c.after_writing-in-Ok.ensures.after

pub returns-in-Err-clause-serves : goal.returns-in-Err-clause-serves
returns-in-Err-clause-serves g c = λ left left' faults faults' may_be ended stood.
    let w = c.args.word.now in
    let input = text_of (word_input.lines_of w) in
    let line : IsWordLine input w = record { says = c.requires; text = refl } in
    let stable = c.is_stable.ensures.0 c.if-not-is_stable.false in
    let right : WordWantsMemory input [] = record { word = w; line = line; stable = stable; text_is = refl } in
    record {
      leaves = record { answer = word_answer left left' input OutOfMemory [] may_be right ended; unwritten = refl };
      counts = (stood, refl);
    }
