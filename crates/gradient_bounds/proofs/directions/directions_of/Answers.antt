use Rattle.std.proofs.Common.{ap, ◌∙◌, length, arith}
use Rattle.exp_sums.specs.FormalPoint.{terms}
use Rattle.gradient_bounds.proofs.Marks.{no_marks, count_of_terms, next_heights}
use Rattle.gradient_bounds.proofs.directions.directions_of.Goals as goal

pub loop-i-init : goal.loop-i-init
loop-i-init c = let none = no_marks c.new-directions.result c.new-directions.ensures in (λ v shift. none.0, none.1, none.2)

pub add_directions-requires-clause-light : goal.add_directions-requires-clause-light
add_directions-requires-clause-light c =
    let terms_are = ap length c.terms.ensures.all in
    let few = count_of_terms c.upper_height.result.now in
    let light = c.upper_height.ensures.limits.light in
    omega (
      arith,
      terms_are,
      few,
      light,
      c.loop-i.invariant.2,
      c.loop-i-test.true,
      c.letters-i-end.ensures.count,
      c.letters-i-end.ensures.word.even_length.at_most,
    )

pub add_directions-requires-in-loop-i-clause-light : goal.add_directions-requires-in-loop-i-clause-light
add_directions-requires-in-loop-i-clause-light c =
    let terms_are = ap length c.terms.ensures.all in
    let few = count_of_terms c.upper_height.result.now in
    let light = c.upper_height.ensures.limits.light in
    let terms_are' = ap length c.terms-in-loop-i.ensures.all in
    let few' = count_of_terms c.lower_height.result.now in
    let light' = c.lower_height.ensures.limits.light in
    let added = c.in_ok-add_directions.ensures.light in
    omega (
      arith,
      terms_are,
      few,
      light,
      terms_are',
      few',
      light',
      added,
      c.loop-i.invariant.2,
      c.loop-i-test.true,
      c.letters-i-end.ensures.count,
      c.letters-i-end.ensures.word.even_length.at_most,
    )

pub loop-i-preserved : goal.loop-i-preserved
loop-i-preserved c =
    let terms_are = ap length c.terms.ensures.all in
    let few = count_of_terms c.upper_height.result.now in
    let light = c.upper_height.ensures.limits.light in
    let terms_are' = ap length c.terms-in-loop-i.ensures.all in
    let few' = count_of_terms c.lower_height.result.now in
    let light' = c.lower_height.ensures.limits.light in
    let added = c.in_ok-add_directions.ensures.light in
    let added' = c.in_ok-add_directions-2.ensures.light in (
      (λ v shift. next_heights v c.args.functions.now c.loop-i.i c.loop-i.directions c.add_directions.new.directions c.add_directions-in-loop-i.new.directions
          c.terms.result.now c.terms-in-loop-i.result.now (c.terms.ensures.all ∙ ap terms (c.upper_height.ensures.is v shift))
          (c.terms-in-loop-i.ensures.all ∙ ap terms (c.lower_height.ensures.is v shift)) (c.loop-i.invariant.0 v shift)
          c.in_ok-add_directions.ensures.marks c.in_ok-add_directions-2.ensures.marks),
      c.in_ok-add_directions-2.ensures.within,
      omega (arith, terms_are, few, light, terms_are', few', light', added, added', c.loop-i.invariant.2),
    )
