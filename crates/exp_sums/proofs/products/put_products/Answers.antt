use Rattle.std.proofs.Common.{arith, take, pos, map}
use Rattle.std.specs.Prelude.{unsigned_abs}
use Rattle.std.specs.List.{flat_map}
use Rattle.std.proofs.Math.Nat.{mul-le-mul_right}
use Rattle.std.proofs.lemmas.List.Sums.{sum_by_more_le}
use Rattle.exp_sums.specs.declared.terms.Term.{Term}
use Rattle.exp_sums.specs.FormalPoint.{term_product}
use Rattle.exp_sums.specs.Limits.{terms_weight}
use Rattle.exp_sums.proofs.Weights.{weight_products}
use Rattle.exp_sums.proofs.Kept.{is_canonical-put_terms, weight-put_terms}
use Rattle.exp_sums.proofs.products.put_products.Goals as goal

blank : Term
blank = record { dir = record { m = pos 0; n = pos 0 }; c = pos 0 }

pub put_multiples-requires-clause-canonical : goal.put_multiples-requires-clause-canonical
put_multiples-requires-clause-canonical c =
    rw (c.reserve.ensures.items, c.loop-term.invariant)
    (is_canonical-put_terms
    (flat_map (λ t. map (term_product t) c.args.second.now) (take c.loop-term.term-index c.args.first.now)) c.args.terms.now.items c.requires.canonical)

pub put_multiples-requires-clause-light : goal.put_multiples-requires-clause-light
unfolding blank
put_multiples-requires-clause-light c =
    let first = c.args.first.now in
    let second = c.args.second.now in
    let i = c.loop-term.term-index in
    let light = sum_by_more_le (λ (t : Term). unsigned_abs t.c) first i blank c.loop-term-test.true in
    rw (c.reserve.ensures.items, c.loop-term.invariant)
    (omega (
      arith,
      weight-put_terms (flat_map (λ t. map (term_product t) second) (take i first)) c.args.terms.now.items,
      weight_products (take i first) second,
      mul-le-mul_right (terms_weight second) light,
      c.requires.light,
    ))
