use Rattle.std.proofs.Common.{None, ◌<◌, ℕ, List, length, arith, ◌∙◌, sym, subst}
use Rattle.std.proofs.lemmas.Result.{err_from_is_err_and}
use Rattle.line_grammar.specs.Reading.{TakesPart}
use Rattle.covering_file.proofs.CornerForms.{word_is_form}
use Rattle.covering_file.proofs.HeadFaults.{same_refusal}
use Rattle.covering_file.proofs.HeaderParts.{word_turn_fails, word_turn_taken, listed_so_far}
use Rattle.covering_file.proofs.Pushed.{pushed, length_more}
use Rattle.covering_file.proofs.words.read_listed.Goals as goal

pub take-requires-clause-form : goal.take-requires-clause-form
take-requires-clause-form g c = word_is_form

pub take-requires-clause-reading : goal.take-requires-clause-reading
take-requires-clause-reading g c = c.words.invariant.takes.taken.reading

pub take-requires-clause-few : goal.take-requires-clause-few
take-requires-clause-few g c = omega (arith, c.words.invariant.number, c.words.invariant.count, c.requires.few, c.requires.count, c.words-test.true)

pub returns-in_err-word-clause-fails : goal.returns-in_err-word-clause-fails
returns-in_err-word-clause-fails g c =
    let left = g.S.Source.left in
    let count = c.args.count in
    let ws = c.words.words.items in
    let kept = c.words.invariant in
    let fewer : length ws < count = omega (arith, kept.count, c.words-test.true) in
    let p = err_from_is_err_and c.from_residual.result c.from_residual.ensures.1 in
    rw (p.1, p.2, same_refusal c.in_err-word.field-0.0)
    (word_turn_fails count ws c.args.lines.now c.words.lines c.take.new.lines (left c.args.src.now) (left c.words.src)
    (left c.take.new.src) _ kept.takes fewer c.in_err-word.ensures.reads)

pub returns-in_err-map_err-clause-fails : goal.returns-in_err-map_err-clause-fails
returns-in_err-map_err-clause-fails g c =
    let left = g.S.Source.left in
    let count = c.args.count in
    let ws = c.words.words.items in
    let kept = c.words.invariant in
    let fewer : length ws < count = omega (arith, kept.count, c.words-test.true) in
    let p = err_from_is_err_and c.from_residual-in_err-map_err.result c.from_residual-in_err-map_err.ensures.1 in
    rw (p.1, p.2)
    (word_turn_fails count ws c.args.lines.now c.words.lines c.take.new.lines (left c.args.src.now) (left c.words.src)
    (left c.take.new.src) None kept.takes fewer
    (record { due = tt; reached = tt; stops = c.take.ensures.stops }))

pub words-preserved : goal.words-preserved
words-preserved g c =
    let left = g.S.Source.left in
    let count = c.args.count in
    let ws = c.words.words.items in
    let word = c.in_ok-word.word in
    let kept = c.words.invariant in
    let fewer : length ws < count = omega (arith, kept.count, c.words-test.true) in
    let more = pushed ws c.push.new.self.items word c.push.result c.map_err.result c.in_ok-map_err.field-0 c.push.ensures.items
    c.map_err.ensures.variant c.in_ok-map_err.was in
    let one = c.in_ok-word.ensures.reads in
    let takes = word_turn_taken count ws word c.args.lines.now c.words.lines c.take.new.lines (left c.args.src.now) (left c.words.src)
    (left c.take.new.src) kept.takes fewer one in
    record {
      takes = subst (λ (l : List (List ℕ)). TakesPart (listed_so_far count) c.args.lines.now c.take.new.lines (left c.args.src.now)
          (left c.take.new.src) l) (sym more) takes;
      number = omega (arith, kept.number, one.taken.number, length_more ws c.push.new.self.items word more);
      count = omega (arith, kept.count, length_more ws c.push.new.self.items word more);
      cause = c.in_ok-word.ensures.cause ∙ kept.cause;
    }
