use Rattle.std.proofs.Common.{ap, ◌∙◌, subst, ℕ, ◌+◌, ◌-◌, ◌*◌, ℤ, pos, ◌-ℤ◌, List}
use Rattle.mcb_ends.specs.Bytes.{Writes}
use Rattle.svg_pictures.specs.Spans.{margin_of}
use Rattle.svg_pictures.proofs.Texts.{kept_as, first_lines}
use Rattle.svg_pictures.proofs.view.write_view.Goals as goal

abbrev edge : ℕ → ℕ → ℤ
edge least m = pos least -ℤ pos m

abbrev reach : ℕ → ℕ → ℕ → ℤ
reach least greatest m = pos (greatest - least + 2 * m)

pub returns-clause-text : goal.returns-clause-text
returns-clause-text g c =
    let k = g.K.Sink in
    let s = c.args.span.now in
    let m = margin_of s in
    let same = c.margin-margin.ensures in
    let left = kept_as c.edge.result (edge s.left m) (record { sfits = c.edge.type_inv }) (c.edge.ensures ∙ ap (λ (n : ℕ). edge s.left n) same) in
    let top = kept_as c.edge-2.result (edge s.top m) (record { sfits = c.edge-2.type_inv }) (c.edge-2.ensures ∙ ap (λ (n : ℕ). edge s.top n) same) in
    let width = kept_as c.reach.result (reach s.left s.right m) (record { sfits = c.reach.type_inv })
    (c.reach.ensures ∙ ap (λ (n : ℕ). reach s.left s.right n) same) in
    let height = kept_as c.reach-2.result (reach s.top s.bottom m) (record { sfits = c.reach-2.type_inv })
    (c.reach-2.ensures ∙ ap (λ (n : ℕ). reach s.top s.bottom n) same) in
    subst (λ (text : List ℕ). Writes (k.written c.args.out.now) (k.written c.write_first_line.new.out) c.write_first_line.result text)
    (first_lines _ (edge s.left m) _ (edge s.top m) _ (reach s.left s.right m) _ (reach s.top s.bottom m) left top width height)
    c.write_first_line.ensures.text
