use Rattle.std.proofs.Common.{◌≡◌, ◌≤◌, [], neg_ℤ, arith}
use Rattle.std.specs.Prelude.{unsigned_abs}
use Rattle.std.proofs.lemmas.Int.{ints}
use Rattle.exp_sums.specs.FormalPoint.{term_neg, term_conj}
use Rattle.exp_sums.specs.Limits.{greatest_weight}
use Rattle.exp_sums.proofs.Kept.{step_fits, negated_is}
use Rattle.exp_sums.proofs.conjugates.put_sine.Goals as goal

pub put-requires-clause-fits : goal.put-requires-clause-fits
put-requires-clause-fits c = step_fits [] c.args.terms.now.items c.args.term (omega (arith, c.requires.light))

pub put-requires-then-is_upper-2-clause-fits : goal.put-requires-then-is_upper-2-clause-fits
put-requires-then-is_upper-2-clause-fits c =
    let small : unsigned_abs c.args.term.c ≤ greatest_weight = omega (arith, c.requires.light) in
    let size : unsigned_abs (neg_ℤ c.args.term.c) ≡ unsigned_abs c.args.term.c = omega (arith, ints) in
    rw (negated_is c.args.term.c small, c.conjugate-dir.ensures)
    (step_fits [] c.args.terms.now.items (term_neg (term_conj c.args.term)) (omega (arith, size, c.requires.light)))
