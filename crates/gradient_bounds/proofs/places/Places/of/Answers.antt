use Rattle.std.proofs.Common.{◌+◌, slice_index_or, sym, ap, subst, ◌∙◌, arith}
use Rattle.std.proofs.lemmas.List.{get_or_default}
use Rattle.exp_sums.specs.FormalPoint.{FormalPoint, terms}
use Rattle.defining_functions.specs.Tables.{IsTable}
use Rattle.defining_functions.proofs.Tables.{IsTable-snoc}
use Rattle.gradient_bounds.specs.HeightSums.{IsRowOf, dirs_of}
use Rattle.gradient_bounds.proofs.places.Places.of.Goals as goal

pub loop-form-preserved : goal.loop-form-preserved
loop-form-preserved c =
    let i = c.loop-form.form-index in
    let forms = c.args.forms.now in
    let dirs = dirs_of c.args.table.now in
    let row = c.in_ok-row.row in
    subst (IsTable (λ i row. (f : FormalPoint) → IsRowOf dirs (terms (slice_index_or forms i f)) row.items) (i + 1)) (sym c.in_ok-push.ensures.items)
    (IsTable-snoc _ i c.loop-form.rows.items row c.loop-form.invariant
    (λ f. subst (λ ts. IsRowOf dirs ts row.items)
    (c.terms.ensures.all ∙ ap terms (c.form-item.is ∙ get_or_default forms i c.form-item.result f c.loop-form-test.true)) c.in_ok-row.ensures))

pub returns : goal.returns
returns c = record {
  count = omega (arith, c.loop-form.invariant.count, c.loop-form-test.false, c.loop-form.auto.form-index-end);
  each = λ i row below. c.loop-form.invariant.each i row (omega (arith, below, c.loop-form-test.false));
}
