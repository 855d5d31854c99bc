use Rattle.std.proofs.Common.{ℕ, subst, sym}
use Rattle.mcb_ends.specs.Bytes.{Writes}
use Rattle.covering_file.specs.Node.{end_line}
use Rattle.line_grammar.specs.Text.{with_newline}
use Rattle.covering_file.proofs.writing.write_end.Goals as goal

pub returns-in-0-clause-text : goal.returns-in-0-clause-text
returns-in-0-clause-text g c =
    let k = g.K.Sink in
    subst (λ (n : ℕ). Writes (k.written c.args.out.now) (k.written c.put.new.out) c.put.result (with_newline (end_line n))) (sym c.in-0.is) c.put.ensures.text
