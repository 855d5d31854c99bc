use Rattle.std.proofs.Common.{◌≡◌, ◌≤◌, arith, take, get_or, pos, map, neg_ℤ}
use Rattle.std.specs.Prelude.{unsigned_abs}
use Rattle.std.proofs.lemmas.Int.{ints}
use Rattle.std.proofs.lemmas.List.{length-take, length-map}
use Rattle.std.proofs.lemmas.List.Sums.{sum_by_more_le}
use Rattle.exp_sums.specs.declared.terms.Term.{Term}
use Rattle.exp_sums.specs.FormalPoint.{term_neg}
use Rattle.exp_sums.specs.Limits.{greatest_weight}
use Rattle.exp_sums.proofs.Kept.{is_canonical-put_terms, length-put_terms, weight_negated, step_fits, negated_is}
use Rattle.exp_sums.proofs.terms.put_all_negated.Goals as goal

blank : Term
blank = record { dir = record { m = pos 0; n = pos 0 }; c = pos 0 }

pub put-requires-clause-canonical : goal.put-requires-clause-canonical
put-requires-clause-canonical c = rw c.loop-term.invariant.items
    (is_canonical-put_terms (map term_neg (take c.loop-term.term-index c.args.more.now)) c.args.terms.now.items c.requires.canonical)

pub put-requires-clause-room : goal.put-requires-clause-room
put-requires-clause-room c =
    let before = length-put_terms (map term_neg (take c.loop-term.term-index c.args.more.now)) c.args.terms.now.items in
    rw (c.loop-term.invariant.items, c.loop-term.invariant.capacity)
    (omega (
      arith,
      before,
      c.requires.room,
      length-take c.loop-term.term-index c.args.more.now,
      length-map (take c.loop-term.term-index c.args.more.now) term_neg,
    ))

pub put-requires-clause-fits : goal.put-requires-clause-fits
unfolding blank
put-requires-clause-fits c =
    let more = c.args.more.now in
    let i = c.loop-term.term-index in
    let light = sum_by_more_le (λ (t : Term). unsigned_abs t.c) more i blank c.loop-term-test.true in
    let small : unsigned_abs (get_or more i blank).c ≤ greatest_weight = omega (arith, light, c.requires.light) in
    rw (negated_is (get_or more i blank).c small, c.loop-term.invariant.items)
    (step_fits (map term_neg (take i more)) c.args.terms.now.items (term_neg (get_or more i blank))
    (let size : unsigned_abs (neg_ℤ (get_or more i blank).c) ≡ unsigned_abs (get_or more i blank).c = omega (arith, ints) in
    omega (arith, size, light, weight_negated (take i more), c.requires.light)))
