use Rattle.std.proofs.Common.{◌≡◌, ◌<◌, ◌≤◌, FitsSigned, List, length, get_or, ap, sym, subst, ◌∙◌, arith}
use Rattle.std.specs.Int.{w128}
use Rattle.std.specs.Global.{Vec}
use Rattle.std.specs.List.{All}
use Rattle.std.proofs.lemmas.Int.{to_z-of_z}
use Rattle.ring_solver.proofs.Whole.{ℤ_ring, ℤ_image}
use Rattle.exp_sums.specs.Limits.{terms_weight}
use Rattle.exp_sums.specs.Weigh.{weigh_terms}
use Rattle.gradient_bounds.specs.declared.placed_term.PlacedTerm.{PlacedTerm}
use Rattle.gradient_bounds.specs.HeightSums.{dirs_of, terms_at}
use Rattle.gradient_bounds.specs.Table.{low_in}
use Rattle.gradient_bounds.proofs.Rows.{light_row}
use Rattle.gradient_bounds.proofs.Stepping.{next_form}
use Rattle.gradient_bounds.proofs.height_numbers.number_forms.Goals as goal

row_is : (c : goal.After-deref) → c.deref.result.now ≡ (get_or c.args.places.now.rows.items c.loop-i.i c.index.result.now).items
row_is c = c.deref.ensures.value ∙ ap (λ (v : Vec PlacedTerm). v.items) c.index.ensures

pub number_at-requires-clause-placed : goal.number_at-requires-clause-placed
number_at-requires-clause-placed c =
    subst (All (λ (p : PlacedTerm). p.place < length c.args.table.now)) (sym (row_is c))
    (light_row c.args.table.now c.args.forms.now c.args.places.now.rows.items c.loop-i.i c.index.result.now c.requires.places c.requires.limits
    c.loop-i-test.true).placed

pub number_at-requires-clause-light : goal.number_at-requires-clause-light
number_at-requires-clause-light c =
    subst (λ (row : List PlacedTerm). terms_weight (terms_at (dirs_of c.args.table.now) row) ≤ 16384) (sym (row_is c))
    (light_row c.args.table.now c.args.forms.now c.args.places.now.rows.items c.loop-i.i c.index.result.now c.requires.places c.requires.limits
    c.loop-i-test.true).light

pub loop-i-preserved : goal.loop-i-preserved
loop-i-preserved c =
    let table = c.args.table.now in
    let is = c.number_at.ensures.is
    ∙ ap (λ (row : List PlacedTerm). weigh_terms ℤ_ring ℤ_image (low_in table) (terms_at (dirs_of table) row))
    (c.deref.ensures.value ∙ ap (λ (v : Vec PlacedTerm). v.items) c.index.ensures) in
    let fits : FitsSigned w128 c.number_at.result = record { sfits = c.number_at.type_inv } in
    let below : c.loop-i.i < length c.loop-i.numbers = omega (arith, c.loop-i-test.true, c.requires.count, c.loop-i.auto.numbers) in
    simp to_z-of_z
    (next_form table c.args.forms.now c.args.places.now.rows.items c.loop-i.numbers c.loop-i.i c.index.result.now c.number_at.result below
    c.loop-i-test.true c.requires.places is c.number_at.ensures.size c.loop-i.invariant)

pub returns : goal.returns
returns c = record {
  count = omega (arith, c.loop-i.auto.numbers, c.requires.count);
  each = λ j z below. c.loop-i.invariant j z (omega (arith, below, c.loop-i-test.false));
}
