use Rattle.std.proofs.Common.{◌≡◌, ◌∙◌, sym, ap, pos, of_z, to_z, FitsSigned, arith}
use Rattle.std.specs.Int.{w64}
use Rattle.std.proofs.lemmas.Int.{to_z-of_z}
use Rattle.exp_sums.specs.declared.terms.Term.{Term}
use Rattle.gradient_bounds.proofs.Marks.{room_for_one, taken_added, taken_kept}
use Rattle.gradient_bounds.proofs.directions.add_directions.Goals as goal
use Rattle.gradient_bounds.proofs.directions.add_directions.Goals.{then-coefficient-eq0+in_ok-add_dir, else-coefficient-eq0}

abbrev blank : Term
blank = record { dir = record { m = pos 0; n = pos 0 }; c = pos 0 }

pub add_dir-requires : goal.add_dir-requires
add_dir-requires c =
    room_for_one c.loop-term.directions _ c.loop-term.invariant.1 (omega (arith, c.loop-term.invariant.2, c.requires.light, c.loop-term-test.true))
    (c.requires.near c.loop-term.term-index blank c.loop-term-test.true)

pub loop-term-preserved : goal.loop-term-preserved
loop-term-preserved c =
    let ts = c.args.terms.now in
    let i = c.loop-term.term-index in
    let fits : FitsSigned w64 c.coefficient.result = record { sfits = c.coefficient.type_inv } in
    elim c.if-coefficient-eq0.branch [
      | then-coefficient-eq0+in_ok-add_dir w ↦
          let none : c.coefficient.result ≡ pos 0 = sym (to_z-of_z w64 c.coefficient.result fits) ∙ ap (to_z w64) w.if-coefficient-eq0.true in
          taken_added ts i blank c.args.directions.now c.loop-term.directions c.if-coefficient-eq0.directions c.loop-term-test.true c.loop-term.invariant
          (c.requires.near i blank c.loop-term-test.true) (sym c.coefficient.ensures ∙ none) (w.directions-is ∙ w.in_ok-add_dir.ensures.ok)
      | else-coefficient-eq0 w ↦
          taken_kept ts i blank c.args.directions.now c.loop-term.directions c.if-coefficient-eq0.directions c.loop-term-test.true c.loop-term.invariant
          (λ none. w.if-coefficient-eq0.false (ap (of_z w64) (c.coefficient.ensures ∙ none))) w.directions-is
    ]
