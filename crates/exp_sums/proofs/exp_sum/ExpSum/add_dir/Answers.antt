use Rattle.std.proofs.Common.{◌≡◌, ◌<◌, length, ap, sym, subst, ◌∙◌, arith}
use Rattle.std.specs.Int.{w64}
use Rattle.std.proofs.lemmas.Int.{to_z-of_z}
use Rattle.exp_sums.specs.Terms.{put_term}
use Rattle.exp_sums.specs.FormalPoint.{terms, point_of, term_of, monomial, ◌+ₚ◌}
use Rattle.exp_sums.specs.Limits.{IsWithinLimits}
use Rattle.exp_sums.proofs.Kept.{terms-canonical, put_fits, kept-put, point_of-put}
use Rattle.exp_sums.proofs.exp_sum.ExpSum.add_dir.Goals as goal

pub put-requires-clause-fits : goal.put-requires-clause-fits
put-requires-clause-fits c =
    let limits = subst (λ p. IsWithinLimits (p +ₚ monomial c.args.c c.args.dir)) (sym c.self.view_is) c.requires in
    rw (to_z-of_z w64 c.args.c c.ranges.c, c.make_room.ensures.items) (put_fits c.args.c c.args.dir c.self.inside.terms.items limits)

pub invariant_of-self-2 : goal.invariant_of-self-2
invariant_of-self-2 c =
    let limits = subst (λ p. IsWithinLimits (p +ₚ monomial c.args.c c.args.dir)) (sym c.self.view_is) c.requires in
    rw (c.put.ensures.items, to_z-of_z w64 c.args.c c.ranges.c, c.make_room.ensures.items)
    (kept-put (term_of c.args.c c.args.dir) c.self.inside.terms.items c.self.invariant.canonical limits)

pub returns-clause-ok : goal.returns-clause-ok
returns-clause-ok c =
    ap point_of
    (rw (c.put.ensures.items, to_z-of_z w64 c.args.c c.ranges.c, c.make_room.ensures.items)
    (λ i. put_term (term_of c.args.c c.args.dir) c.self.inside.terms.items))
    ∙ point_of-put (term_of c.args.c c.args.dir) c.self.inside.terms.items
    ∙ ap (λ p. p +ₚ monomial c.args.c c.args.dir) c.self.view_is

pub returns-in_err-make_room-clause-inline : goal.returns-in_err-make_room-clause-inline
returns-in_err-make_room-clause-inline c = λ few.
    let items = c.self.inside.terms.items in
    let same : terms c.args.self.now ≡ items = sym (ap terms c.self.view_is) ∙ terms-canonical items c.self.invariant.canonical in
    let inline : length items < 8 = omega (arith, few, ap length same) in
    let fits = c.in_err-make_room.ensures.inline inline in
    cc
