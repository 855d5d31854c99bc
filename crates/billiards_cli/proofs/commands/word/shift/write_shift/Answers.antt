use Rattle.std.proofs.Common.{List, ◌++◌, length, subst, codes}
use Rattle.exp_sums.specs.FormalPoint.{terms}
use Rattle.exp_sums.specs.declared.terms.Term.{Term}
use Rattle.std.specs.Io.KnownBytes.{Appends}
use Rattle.mcb_ends.specs.Bytes.{AppendsPrefix, Writes}
use Rattle.mcb_ends.proofs.Written.{AppendsPrefix-begun, AppendsPrefix-then, Writes-then, Writes-failed}
use Rattle.billiards_cli.specs.Commands.Word.{shift_text, terms_text}
use Rattle.billiards_cli.specs.EndLine.{end_text}
use Rattle.billiards_cli.proofs.commands.word.shift.write_shift.Goals as goal

pub returns-in_err-put-clause-text : goal.returns-in_err-put-clause-text
returns-in_err-put-clause-text g c =
    let k = g.K.Sink in
    let shift = c.args.shift.now in
    let old = k.written c.args.out.now in
    let new = k.written c.put.new.out in
    let behind = terms_text (terms shift) ++ end_text (length (terms shift)) in
    Writes-failed old new c.from_residual.result (shift_text shift) c.from_residual.ensures.0
    (AppendsPrefix-begun old new (codes "stable\n") behind c.in_err-put.ensures.text)

pub returns-in_err-write_terms-clause-text : goal.returns-in_err-write_terms-clause-text
returns-in_err-write_terms-clause-text g c =
    let k = g.K.Sink in
    let shift = c.args.shift.now in
    let old = k.written c.args.out.now in
    let head = k.written c.put.new.out in
    let new = k.written c.write_terms.new.out in
    let all = terms_text (terms shift) in
    let end = end_text (length (terms shift)) in
    let begun = subst (λ (ts : List Term). AppendsPrefix head new (terms_text ts)) c.terms.ensures.all c.in_err-write_terms.ensures.text in
    Writes-failed old new c.from_residual-in_err-write_terms.result (shift_text shift) c.from_residual-in_err-write_terms.ensures.0
    (AppendsPrefix-then old head new (codes "stable\n") (all ++ end) c.in_ok-put.ensures.text (AppendsPrefix-begun head new all end begun))

pub returns-clause-text : goal.returns-clause-text
returns-clause-text g c =
    let k = g.K.Sink in
    let shift = c.args.shift.now in
    let old = k.written c.args.out.now in
    let head = k.written c.put.new.out in
    let body = k.written c.write_terms.new.out in
    let new = k.written c.write_end.new.out in
    let all = terms_text (terms shift) in
    let end = end_text (length (terms shift)) in
    let listed = subst (λ (ts : List Term). Appends head body (terms_text ts)) c.terms.ensures.all c.in_ok-write_terms.ensures.text in
    let counted = subst (λ (ts : List Term). Writes body new c.write_end.result (end_text (length ts))) c.terms-2.ensures.all c.write_end.ensures.text in
    Writes-then old head new c.write_end.result (codes "stable\n") (all ++ end) c.in_ok-put.ensures.text
    (Writes-then head body new c.write_end.result all end listed counted)
