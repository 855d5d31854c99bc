use Rattle.std.proofs.Common.{pos}
use Rattle.mcb_ends.proofs.Written.{AppendsPrefix-flat_map, Writes-failed}
use Rattle.billiards_cli.specs.Commands.Word.{term_line, terms_text}
use Rattle.billiards_cli.proofs.commands.word.shift.write_terms.Goals as goal

pub returns-in_err-write_term-clause-text : goal.returns-in_err-write_term-clause-text
returns-in_err-write_term-clause-text g c =
    let k = g.K.Sink in
    let terms = c.args.terms.now in
    let old = k.written c.args.out.now in
    let new = k.written c.write_term.new.out in
    let begun = AppendsPrefix-flat_map term_line old (k.written c.loop-term.out) new terms c.loop-term.term-index
    (record { dir = record { m = pos 0; n = pos 0 }; c = pos 0 }) c.loop-term-test.true c.loop-term.invariant.text c.in_err-write_term.ensures.text in
    Writes-failed old new c.from_residual.result (terms_text terms) c.from_residual.ensures.0 begun
