use Rattle.std.proofs.Common.{◌≡◌, List, [], ◌∷◌, length, ap, subst, ◌∙◌}
use Rattle.std.specs.Fmt.{decimal}
use Rattle.std.specs.Io.KnownBytes.{Appends}
use Rattle.std.specs.List.{concat}
use Rattle.exp_sums.specs.FormalPoint.{terms}
use Rattle.exp_sums.specs.declared.terms.Term.{Term}
use Rattle.mcb_ends.specs.Bytes.{Writes}
use Rattle.mcb_ends.proofs.Written.{Writes-then}
use Rattle.billiards_cli.specs.Commands.Word.{terms_text}
use Rattle.billiards_cli.specs.Refusals.{newline}
use Rattle.billiards_cli.proofs.commands.family.sums.write_sum.Goals as goal

pub returns-clause-text : goal.returns-clause-text
returns-clause-text g c =
    let k = g.K.Sink in
    let old = k.written c.args.out.now in
    let head = k.written c.put_all.new.out in
    let new = k.written c.write_terms.new.out in
    let count : c.digits.result.now ≡ decimal (length (terms c.args.sum.now)) = c.digits.ensures ∙ c.new-count.ensures
    ∙ ap (λ (ts : List Term). decimal (length ts)) c.terms.ensures.all in
    let begun = subst (λ digits. Appends old head (concat (c.args.name.now ∷ digits ∷ newline ∷ []))) count c.in_ok-put_all.ensures.text in
    let listed = subst (λ (ts : List Term). Writes head new c.write_terms.result (terms_text ts)) c.terms-2.ensures.all c.write_terms.ensures.text in
    Writes-then old head new c.write_terms.result (concat (c.args.name.now ∷ decimal (length (terms c.args.sum.now)) ∷ newline ∷ []))
    (terms_text (terms c.args.sum.now)) begun listed
