use Rattle.std.proofs.Common.{◌+◌, take, get_or, sym, ap, subst, ◌∙◌, pos, to_z, of_z}
use Rattle.std.specs.Int.{w64}
use Rattle.std.specs.Global.{Vec}
use Rattle.exp_sums.specs.declared.terms.Term.{Term}
use Rattle.exp_sums.specs.FormalPoint.{zero_dir}
use Rattle.gradient_bounds.specs.declared.placed_term.PlacedTerm.{PlacedTerm}
use Rattle.gradient_bounds.specs.HeightSums.{IsRowOf, dirs_of}
use Rattle.gradient_bounds.proofs.Rows.{row_with, row_without, coefficient_read}
use Rattle.gradient_bounds.proofs.places.row_of.Goals.{in-Some+in_ok-push, in_default}
use Rattle.gradient_bounds.proofs.places.row_of.Goals as goal

abbrev blank : Term
blank = record { dir = zero_dir; c = pos 0 }

pub loop-term-preserved : goal.loop-term-preserved
loop-term-preserved c =
    let dirs = dirs_of c.args.table.now in
    let ts = c.args.terms.now in
    let i = c.loop-term.term-index in
    let row = c.loop-term.row.items in
    elim c.match-place_of.branch [
      | in-Some+in_ok-push w ↦
          subst (IsRowOf dirs (take (i + 1) ts)) (sym (ap (λ (v : Vec PlacedTerm). v.items) w.row-is ∙ w.in_ok-push.ensures.items))
          (row_with dirs ts i blank c.loop-term-test.true row c.loop-term.invariant
          (record { place = w.in-Some.place; c = to_z w64 (of_z w64 (get_or ts i blank).c) }) w.in-Some.ensures
          (coefficient_read ts i blank c.loop-term-test.true c.requires))
      | in_default w ↦
          subst (IsRowOf dirs (take (i + 1) ts)) (sym (ap (λ (v : Vec PlacedTerm). v.items) w.row-is))
          (row_without dirs ts i blank c.loop-term-test.true row c.loop-term.invariant w.in_default.ensures)
    ]
