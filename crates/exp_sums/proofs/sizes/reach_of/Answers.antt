use Rattle.std.proofs.Common.{◌≡◌, ℕ, ◌+◌, ◌*◌, ◌≤◌, ◌^◌, ℤ, pos, ◌+ℤ◌, FitsSigned, to_z, of_z, arith, ap, ap₂, sym, ◌∙◌}
use Rattle.std.specs.Int.{w64}
use Rattle.std.specs.Prelude.{unsigned_abs}
use mir.Val.{SFits}
use Rattle.std.proofs.lemmas.Int.{ints, to_z-of_z, fits_signed_from_abs}
use Rattle.std.proofs.lemmas.List.Sums.{sum_by_more, sum_by_more_le}
use Rattle.exp_sums.specs.declared.terms.Term.{Term}
use Rattle.exp_sums.specs.Limits.{greatest_exponent}
use Rattle.exp_sums.specs.Reach.{dir_reach}
use Rattle.exp_sums.proofs.Reach.{terms_reach_le}
use Rattle.exp_sums.proofs.sizes.reach_of.Goals as goal

blank : Term
blank = record { dir = record { m = pos 0; n = pos 0 }; c = pos 0 }

-- the next sum, where it is small
module _ (x y : ℤ) (k n : ℕ) (is_k : x ≡ pos k) (is_n : y ≡ pos n) (small : k + n ≤ 2 ^ 44) where
  sum_is : x +ℤ to_z w64 (of_z w64 y) ≡ pos (k + n)
  sum_is =
      let fits : SFits w64 y = fits_signed_from_abs w64 y (omega (arith, ints, is_n, small)) in
      ap₂ ◌+ℤ◌ is_k (to_z-of_z w64 y fits ∙ is_n)

  whole_fits : FitsSigned w64 (pos (k + n))
  whole_fits = fits_signed_from_abs w64 (pos (k + n)) (omega (arith, ints, small))

  sum_fits : FitsSigned w64 (x +ℤ to_z w64 (of_z w64 y))
  sum_fits = rw sum_is whole_fits

  sum_kept : to_z w64 (of_z w64 (x +ℤ to_z w64 (of_z w64 y))) ≡ pos (k + n)
  sum_kept = ap (λ z. to_z w64 (of_z w64 z)) sum_is ∙ to_z-of_z w64 (pos (k + n)) whole_fits

pub overflow_add-reach : goal.overflow_add-reach
unfolding blank
overflow_add-reach c =
    let ts = c.args.terms.now in
    let i = c.loop-term.term-index in
    let more = sum_by_more_le (λ (t : Term). unsigned_abs t.c * dir_reach t.dir) ts i blank c.loop-term-test.true in
    sum_fits (to_z w64 c.loop-term.reach-bits) c.reach_of_term-reach.result _ _ c.loop-term.invariant c.reach_of_term-reach.ensures
    (omega (arith, more, terms_reach_le greatest_exponent ts c.requires.near, c.requires.light))

pub loop-term-preserved : goal.loop-term-preserved
unfolding blank
loop-term-preserved c =
    let ts = c.args.terms.now in
    let i = c.loop-term.term-index in
    let more = sum_by_more_le (λ (t : Term). unsigned_abs t.c * dir_reach t.dir) ts i blank c.loop-term-test.true in
    sum_kept (to_z w64 c.loop-term.reach-bits) c.reach_of_term-reach.result _ _ c.loop-term.invariant c.reach_of_term-reach.ensures
    (omega (arith, more, terms_reach_le greatest_exponent ts c.requires.near, c.requires.light))
    ∙ ap pos (sym (sum_by_more (λ (t : Term). unsigned_abs t.c * dir_reach t.dir) ts i blank c.loop-term-test.true))
