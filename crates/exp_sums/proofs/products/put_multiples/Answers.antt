use Rattle.std.proofs.Common.{arith, take, get_or, pos, map}
use Rattle.std.specs.Prelude.{unsigned_abs}
use Rattle.std.proofs.Math.Nat.{mul-le-mul_left}
use Rattle.std.proofs.lemmas.Int.{unsigned_abs-mul}
use Rattle.std.proofs.lemmas.List.{length-take, length-map}
use Rattle.std.proofs.lemmas.List.Sums.{sum_by_more_le}
use Rattle.exp_sums.specs.declared.terms.Term.{Term}
use Rattle.exp_sums.specs.FormalPoint.{term_product}
use Rattle.exp_sums.proofs.Weights.{weight_times}
use Rattle.exp_sums.proofs.Kept.{is_canonical-put_terms, length-put_terms, step_fits}
use Rattle.exp_sums.proofs.products.put_multiples.Goals as goal

blank : Term
blank = record { dir = record { m = pos 0; n = pos 0 }; c = pos 0 }

pub product-requires-clause-light : goal.product-requires-clause-light
unfolding blank
product-requires-clause-light c =
    let light = sum_by_more_le (λ (t : Term). unsigned_abs t.c) c.args.more.now c.loop-other.other-index blank c.loop-other-test.true in
    omega (arith, mul-le-mul_left (unsigned_abs c.args.term.c) light, c.requires.light)

pub put-requires-clause-canonical : goal.put-requires-clause-canonical
put-requires-clause-canonical c =
    rw c.loop-other.invariant.items
    (is_canonical-put_terms
    (map (term_product c.args.term) (take c.loop-other.other-index c.args.more.now)) c.args.terms.now.items c.requires.canonical)

pub put-requires-clause-room : goal.put-requires-clause-room
put-requires-clause-room c =
    let done = take c.loop-other.other-index c.args.more.now in
    rw (c.loop-other.invariant.items, c.loop-other.invariant.capacity)
    (omega (
      arith,
      length-put_terms (map (term_product c.args.term) done) c.args.terms.now.items,
      c.requires.room,
      length-take c.loop-other.other-index c.args.more.now,
      length-map done (term_product c.args.term),
    ))

pub put-requires-clause-fits : goal.put-requires-clause-fits
unfolding blank
put-requires-clause-fits c =
    let t = c.args.term in
    let more = c.args.more.now in
    let i = c.loop-other.other-index in
    let u = get_or more i blank in
    let light = sum_by_more_le (λ (v : Term). unsigned_abs v.c) more i blank c.loop-other-test.true in
    rw (c.product.ensures, c.loop-other.invariant.items)
    (step_fits (map (term_product t) (take i more)) c.args.terms.now.items (term_product t u)
    (omega (arith, unsigned_abs-mul t.c u.c, weight_times t (take i more), mul-le-mul_left (unsigned_abs t.c) light, c.requires.light)))
