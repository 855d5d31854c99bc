use Rattle.std.proofs.Common.{rules, arith, take, get_or, pos, map}
use Rattle.std.specs.Int.{w64}
use Rattle.std.specs.Prelude.{unsigned_abs}
use mir.Val.{SFits}
use Rattle.std.proofs.lemmas.Int.{to_z-of_z}
use Rattle.std.proofs.lemmas.List.{length-take, length-map}
use Rattle.std.proofs.lemmas.List.Sums.{sum_by_more_le}
use Rattle.exp_sums.specs.declared.terms.Term.{Term}
use Rattle.exp_sums.specs.FormalPoint.{term_conj}
use Rattle.exp_sums.proofs.Weights.{weight_map}
use Rattle.exp_sums.proofs.Kept.{is_canonical-put_terms, length-put_terms, step_fits}
use Rattle.exp_sums.proofs.conjugates.put_all_conj.Goals as goal

blank : Term
blank = record { dir = record { m = pos 0; n = pos 0 }; c = pos 0 }

pub put-requires-clause-canonical : goal.put-requires-clause-canonical
put-requires-clause-canonical c = rw c.loop-term.invariant.items
    (is_canonical-put_terms (map term_conj (take c.loop-term.term-index c.args.more.now)) c.args.terms.now.items c.requires.canonical)

pub put-requires-clause-room : goal.put-requires-clause-room
put-requires-clause-room c =
    let before = length-put_terms (map term_conj (take c.loop-term.term-index c.args.more.now)) c.args.terms.now.items in
    rw (c.loop-term.invariant.items, c.loop-term.invariant.capacity)
    (omega (
      arith,
      before,
      c.requires.room,
      length-take c.loop-term.term-index c.args.more.now,
      length-map (take c.loop-term.term-index c.args.more.now) term_conj,
    ))

pub put-requires-clause-fits : goal.put-requires-clause-fits
unfolding blank
put-requires-clause-fits c =
    let more = c.args.more.now in
    let i = c.loop-term.term-index in
    let x = get_or more i blank in
    let light = sum_by_more_le (λ (t : Term). unsigned_abs t.c) more i blank c.loop-term-test.true in
    let stored : SFits w64 (get_or more i blank).c = search rules in
    rw (to_z-of_z w64 (get_or more i blank).c stored, c.conjugate.ensures, c.loop-term.invariant.items)
    (step_fits (map term_conj (take i more)) c.args.terms.now.items (term_conj x)
    (omega (arith, light, weight_map term_conj (λ t. λ j. unsigned_abs t.c) (take i more), c.requires.light)))
