use Rattle.std.proofs.Common.{arith, take, pos}
use Rattle.std.specs.Prelude.{unsigned_abs}
use Rattle.std.specs.List.{flat_map}
use Rattle.std.proofs.lemmas.List.{length-take}
use Rattle.std.proofs.lemmas.List.Sums.{sum_by_more_le}
use Rattle.exp_sums.specs.declared.terms.Term.{Term}
use Rattle.exp_sums.specs.SineForm.{sine_terms}
use Rattle.exp_sums.proofs.Kept.{is_canonical-put_terms, length-put_terms, weight-put_terms}
use Rattle.exp_sums.proofs.SineLimits.{weight-sine_terms, length-sine_terms}
use Rattle.exp_sums.proofs.conjugates.put_all_sines.Goals as goal

blank : Term
blank = record { dir = record { m = pos 0; n = pos 0 }; c = pos 0 }

pub put_sine-requires-clause-canonical : goal.put_sine-requires-clause-canonical
put_sine-requires-clause-canonical c =
    rw c.loop-term.invariant.items
    (is_canonical-put_terms (flat_map sine_terms (take c.loop-term.term-index c.args.more.now)) c.args.terms.now.items c.requires.canonical)

pub put_sine-requires-clause-room : goal.put_sine-requires-clause-room
put_sine-requires-clause-room c =
    let done = take c.loop-term.term-index c.args.more.now in
    rw (c.loop-term.invariant.items, c.loop-term.invariant.capacity)
    (omega (
      arith,
      length-put_terms (flat_map sine_terms done) c.args.terms.now.items,
      length-sine_terms done,
      c.requires.room,
      length-take c.loop-term.term-index c.args.more.now,
    ))

pub put_sine-requires-clause-light : goal.put_sine-requires-clause-light
unfolding blank
put_sine-requires-clause-light c =
    let more = c.args.more.now in
    let i = c.loop-term.term-index in
    let done = take i more in
    let light = sum_by_more_le (λ (t : Term). unsigned_abs t.c) more i blank c.loop-term-test.true in
    rw c.loop-term.invariant.items
    (omega (arith, light, weight-put_terms (flat_map sine_terms done) c.args.terms.now.items, weight-sine_terms done, c.requires.light))
