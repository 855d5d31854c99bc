use Rattle.std.proofs.Common.{◌≡◌, decimal, length, take, sym, ap, ◌∙◌}
use Rattle.std.specs.Cmp.Lexicographic.{same_text, other_text}
use Rattle.covering_file.proofs.EndLines.{front, number_behind, other_front, same_is_true}
use Rattle.covering_file.proofs.tree.end_line.is_end_open.Goals as goal

pub returns-in-Some : goal.returns-in-Some
returns-in-Some c =
    let line = c.args.line.now in
    let number = c.in-Some.number.now in
    let cases = c.in-Some.ensures.cases in
    let both = number_behind line number c.args.uncovered (same_text (take (length front) line) front (sym cases.0)) cases.1 in
    let digits : c.digits.result.now ≡ decimal c.args.uncovered = c.digits.ensures ∙ c.new-decimal.ensures ∙ ap decimal c.from.ensures in (
      (λ is. both.1 (same_text number c.digits.result.now (sym is ∙ c.eq.ensures) ∙ digits)),
      (λ is. same_is_true number c.digits.result.now c.eq.result c.eq.ensures (both.0 is ∙ sym digits)),
    )

pub returns-in-None : goal.returns-in-None
returns-in-None c =
    let line = c.args.line.now in
    let differs = other_text (take (length front) line) front (sym c.in-None.ensures.cases) in
    ((λ is. absurd (cc)), (λ is. absurd (other_front line c.args.uncovered differs is)))
