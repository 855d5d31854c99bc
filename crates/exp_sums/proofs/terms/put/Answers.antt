use Rattle.std.proofs.Common.{◌≡◌, rules, arith, sym, ap, subst, ◌∙◌, pos, length, ◌+ℤ◌, get_or, set, List, FitsSigned, to_z, of_z, ℤ, length-set, drop}
use Rattle.std.proofs.Common.{refl, ◌≢◌}
use Rattle.std.specs.List.{refill, insert}
use Rattle.std.proofs.Math.Seq.{take-append_seam}
use Rattle.std.specs.Int.{w64}
use mir.Val.{SFits}
use Rattle.std.proofs.lemmas.Int.{ints, to_z-of_z}
use Rattle.exp_sums.specs.declared.terms.Term.{Term}
use Rattle.exp_sums.specs.Place.{IsPlaceOf, IsGapFor}
use Rattle.exp_sums.proofs.Place.{sum_at, total_at_place, put_cancels, put_joins, put_adds, put_leaves}
use Rattle.exp_sums.proofs.terms.put.Goals as goal

blank : Term
blank = record { dir = record { m = pos 0; n = pos 0 }; c = pos 0 }

-- what the code computes of two coefficients is their sum, where that fits
sum_is : (a b : ℤ) → SFits w64 a → SFits w64 b → to_z w64 (of_z w64 a) +ℤ to_z w64 (of_z w64 b) ≡ a +ℤ b
sum_is a b f g = rw (to_z-of_z w64 a f, to_z-of_z w64 b g) refl

sum_is_zero : (a b : ℤ) → SFits w64 a → SFits w64 b → FitsSigned w64 (a +ℤ b) → of_z w64 (to_z w64 (of_z w64 a) +ℤ to_z w64 (of_z w64 b)) ≡ 0 → a +ℤ b ≡ pos 0
sum_is_zero a b f g fits h =
    let k : of_z w64 (a +ℤ b) ≡ 0 = ap (of_z w64) (sym (sum_is a b f g)) ∙ h in
    omega (arith, ints, fits, k)

sum_is_kept : (a b : ℤ) → SFits w64 a → SFits w64 b → FitsSigned w64 (a +ℤ b) → to_z w64 (of_z w64 (to_z w64 (of_z w64 a) +ℤ to_z w64 (of_z w64 b))) ≡ a +ℤ b
sum_is_kept a b f g fits = ap (λ z. to_z w64 (of_z w64 z)) (sum_is a b f g) ∙ to_z-of_z w64 (a +ℤ b) fits

sum_is_other : (a b : ℤ) → SFits w64 a → SFits w64 b → of_z w64 (to_z w64 (of_z w64 a) +ℤ to_z w64 (of_z w64 b)) ≢ 0 → a +ℤ b ≢ pos 0
sum_is_other a b f g h e = h (ap (of_z w64) (sum_is a b f g ∙ e))

-- a list that is written over whole is the new one
refill_whole : (xs ws : List Term) → length ws ≡ length xs → refill (length xs) xs ws ≡ ws
refill_whole xs ws e = rw (← e) (take-append_seam ws (drop (length ws) xs))

pub overflow_add-c : goal.overflow_add-c
unfolding blank
overflow_add-c c =
    let items = c.args.terms.now.items in
    let place = subst (λ ts. IsPlaceOf ts c.args.term.dir c.in-Ok.at) c.deref.ensures c.in-Ok.ensures.found in
    let here = total_at_place items c.args.term.dir c.in-Ok.at blank c.requires.canonical place in
    let given : SFits w64 c.args.term.c = search rules in
    let stored : SFits w64 (get_or c.deref-in-Ok.result.now c.in-Ok.at blank).c = search rules in
    let fits = c.requires.fits in
    rw (to_z-of_z w64 c.args.term.c given)
    (rw (to_z-of_z w64 (get_or c.deref-in-Ok.result.now c.in-Ok.at blank).c stored) (rw (c.deref-in-Ok.ensures, ← here) fits))

pub returns-then-c-eq0-clause-items : goal.returns-then-c-eq0-clause-items
unfolding blank
returns-then-c-eq0-clause-items c =
    let items = c.args.terms.now.items in
    let place = subst (λ ts. IsPlaceOf ts c.args.term.dir c.in-Ok.at) c.deref.ensures c.in-Ok.ensures.found in
    let here = total_at_place items c.args.term.dir c.in-Ok.at blank c.requires.canonical place in
    let given : SFits w64 c.args.term.c = search rules in
    let stored : SFits w64 (get_or c.deref-in-Ok.result.now c.in-Ok.at blank).c = search rules in
    let fits : FitsSigned w64 (c.args.term.c +ℤ (get_or c.deref-in-Ok.result.now c.in-Ok.at blank).c) = rw (c.deref-in-Ok.ensures, ← here) c.requires.fits in
    let cancels = sum_is_zero c.args.term.c (get_or c.deref-in-Ok.result.now c.in-Ok.at blank).c given stored fits c.if-c-eq0.true in
    rw c.remove.ensures.items (sym (put_cancels c.args.term items c.in-Ok.at blank c.requires.canonical place (rw c.deref-in-Ok.ensures at cancels)))

pub returns-else-c-eq0-clause-items : goal.returns-else-c-eq0-clause-items
unfolding blank
returns-else-c-eq0-clause-items c =
    let items = c.args.terms.now.items in
    let place = subst (λ ts. IsPlaceOf ts c.args.term.dir c.in-Ok.at) c.deref.ensures c.in-Ok.ensures.found in
    let here = total_at_place items c.args.term.dir c.in-Ok.at blank c.requires.canonical place in
    let given : SFits w64 c.args.term.c = search rules in
    let stored : SFits w64 (get_or c.deref-in-Ok.result.now c.in-Ok.at blank).c = search rules in
    let fits : FitsSigned w64 (c.args.term.c +ℤ (get_or c.deref-in-Ok.result.now c.in-Ok.at blank).c) = rw (c.deref-in-Ok.ensures, ← here) c.requires.fits in
    let kept = sum_is_kept c.args.term.c (get_or c.deref-in-Ok.result.now c.in-Ok.at blank).c given stored fits in
    let other : c.args.term.c +ℤ (get_or items c.in-Ok.at blank).c ≢ pos 0 =
    rw c.deref-in-Ok.ensures at (sum_is_other c.args.term.c (get_or c.deref-in-Ok.result.now c.in-Ok.at blank).c given stored c.if-c-eq0.false) in
    rw (kept, c.deref-in-Ok.ensures, c.deref_mut.ensures.value)
    (refill_whole items (set items c.in-Ok.at (sum_at c.args.term items c.in-Ok.at blank))
    (length-set items c.in-Ok.at (sum_at c.args.term items c.in-Ok.at blank))
    ∙ sym (put_joins c.args.term items c.in-Ok.at blank c.requires.canonical place other))

pub returns-then-term-ne0-clause-items : goal.returns-then-term-ne0-clause-items
returns-then-term-ne0-clause-items c =
    let items = c.args.terms.now.items in
    let gap = subst (λ ts. IsGapFor ts c.args.term.dir c.in-Err.at) c.deref.ensures c.in-Err.ensures.absent in
    let k = c.insert.ensures in
    let added : c.insert.new.self.items ≡ insert items c.in-Err.at c.args.term = grind (arith, k.ok, k.succeeds c.requires.room) in
    let h = c.if-term-ne0.true in
    added ∙ sym (put_adds c.args.term items c.in-Err.at gap (λ zero. h (ap (of_z w64) zero)))

pub returns-else-term-ne0-clause-items : goal.returns-else-term-ne0-clause-items
returns-else-term-ne0-clause-items c =
    let gap = subst (λ ts. IsGapFor ts c.args.term.dir c.in-Err.at) c.deref.ensures c.in-Err.ensures.absent in
    let given : SFits w64 c.args.term.c = search rules in
    let h = c.if-term-ne0.false in
    sym (put_leaves c.args.term c.args.terms.now.items c.in-Err.at gap (omega (arith, ints, h)))
