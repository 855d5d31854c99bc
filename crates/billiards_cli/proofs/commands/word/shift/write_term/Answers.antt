use Rattle.std.proofs.Common.{◌≡◌, ℤ, rules, ap, ◌∙◌, SFits, w32, w64}
use Rattle.std.specs.Fmt.{signed_decimal}
use Rattle.std.proofs.lemmas.Int.{to_z-of_z}
use Rattle.billiards_cli.proofs.commands.word.shift.write_term.Goals as goal

pub returns-clause-text : goal.returns-clause-text
returns-clause-text g c =
    let term = c.args.term in
    let m_fits : SFits w32 term.dir.m = search rules in
    let n_fits : SFits w32 term.dir.n = search rules in
    let c_fits : SFits w64 term.c = search rules in
    let m : c.digits.result.now ≡ signed_decimal term.dir.m = c.digits.ensures ∙ c.exponent-m.ensures
    ∙ ap (λ (z : ℤ). signed_decimal z) (to_z-of_z w32 term.dir.m m_fits) in
    let n : c.digits-2.result.now ≡ signed_decimal term.dir.n = c.digits-2.ensures ∙ c.exponent-n.ensures
    ∙ ap (λ (z : ℤ). signed_decimal z) (to_z-of_z w32 term.dir.n n_fits) in
    let coefficient : c.digits-3.result.now ≡ signed_decimal term.c = c.digits-3.ensures ∙ c.signed-c.ensures
    ∙ ap (λ (z : ℤ). signed_decimal z) (to_z-of_z w64 term.c c_fits) in
    rw (← m, ← n, ← coefficient) c.put_all.ensures.text
