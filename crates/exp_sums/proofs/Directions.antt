-- The directions are a commutative group, and a test says which are the same.
use Rattle.std.proofs.Common.{◌≡◌, true, ◌+ℤ◌, neg_ℤ, refl, sym, ap, subst, ◌∙◌, arith, T}
use Rattle.std.proofs.lemmas.Int.{ints}
use Rattle.std.proofs.Math.IntN.{+ℤ_assoc, +ℤ_comm, +ℤ_idr, +ℤ_invr}
use Rattle.std.specs.Bool.{Decides, one_answer}
use Rattle.std.specs.declared.cmp.Ordering.{Ordering}
use Rattle.std.specs.declared.cmp.Ordering.TheVariants.{Less, Equal, Greater}
use Rattle.std.specs.Ordering.{is_eq}
use Rattle.exp_sums.specs.declared.direction.Dir.{Dir}
use Rattle.exp_sums.specs.Terms.{dir_cmp, is_same_dir}
use Rattle.exp_sums.proofs.Totals.{same_dir, dir_is}
use Rattle.exp_sums.specs.FormalPoint.{dir_sum, dir_neg, zero_dir}

-- ---- the laws of a commutative group
pub dir_sum_comm : (d e : Dir) → dir_sum d e ≡ dir_sum e d
dir_sum_comm d e = λ i. record { m = +ℤ_comm d.m e.m i; n = +ℤ_comm d.n e.n i }

pub dir_sum_assoc : (d e u : Dir) → dir_sum (dir_sum d e) u ≡ dir_sum d (dir_sum e u)
dir_sum_assoc d e u = λ i. record { m = +ℤ_assoc d.m e.m u.m i; n = +ℤ_assoc d.n e.n u.n i }

pub dir_sum-zero : (d : Dir) → dir_sum d zero_dir ≡ d
dir_sum-zero d = λ i. record { m = +ℤ_idr d.m i; n = +ℤ_idr d.n i }

pub dir_sum-neg : (d : Dir) → dir_sum d (dir_neg d) ≡ zero_dir
dir_sum-neg d = λ i. record { m = +ℤ_invr d.m i; n = +ℤ_invr d.n i }

pub dir_neg-neg : (d : Dir) → dir_neg (dir_neg d) ≡ d
dir_neg-neg d =
    let m : neg_ℤ (neg_ℤ d.m) ≡ d.m = omega (arith, ints) in
    let n : neg_ℤ (neg_ℤ d.n) ≡ d.n = omega (arith, ints) in
    λ i. record { m = m i; n = n i }

pub dir_neg-sum : (d e : Dir) → dir_neg (dir_sum d e) ≡ dir_sum (dir_neg d) (dir_neg e)
dir_neg-sum d e =
    let m : neg_ℤ (d.m +ℤ e.m) ≡ neg_ℤ d.m +ℤ neg_ℤ e.m = omega (arith, ints) in
    let n : neg_ℤ (d.n +ℤ e.n) ≡ neg_ℤ d.n +ℤ neg_ℤ e.n = omega (arith, ints) in
    λ i. record { m = m i; n = n i }

-- one direction is negated, or moved, in place of the other
pub negated : (d e : Dir) → d ≡ dir_neg e → dir_neg d ≡ e
negated d e h = ap dir_neg h ∙ dir_neg-neg e

pub negated_back : (d e : Dir) → dir_neg d ≡ e → d ≡ dir_neg e
negated_back d e h = sym (dir_neg-neg d) ∙ ap dir_neg h

pub moved : (d e u : Dir) → d ≡ dir_sum e u → dir_sum d (dir_neg e) ≡ u
moved d e u h =
    let m : d.m +ℤ neg_ℤ e.m ≡ u.m = omega (arith, ints, ap (λ (v : Dir). v.m) h) in
    let n : d.n +ℤ neg_ℤ e.n ≡ u.n = omega (arith, ints, ap (λ (v : Dir). v.n) h) in
    λ i. record { m = m i; n = n i }

pub moved_back : (d e u : Dir) → dir_sum d (dir_neg e) ≡ u → d ≡ dir_sum e u
moved_back d e u h =
    let m : d.m ≡ e.m +ℤ u.m = omega (arith, ints, ap (λ (v : Dir). v.m) h) in
    let n : d.n ≡ e.n +ℤ u.n = omega (arith, ints, ap (λ (v : Dir). v.n) h) in
    λ i. record { m = m i; n = n i }

-- ---- the test
is_equal : (o : Ordering) → is_eq o ≡ true → o ≡ Equal
is_equal Less h = absurd (subst T (sym h) tt)
is_equal Equal h = refl
is_equal Greater h = absurd (subst T (sym h) tt)

pub is_same_dir-Decides : (d e : Dir) → Decides (is_same_dir d e) (d ≡ e)
is_same_dir-Decides d e = (λ h. dir_is d e (is_equal (dir_cmp d e) h), λ h. subst (λ u. is_same_dir d u ≡ true) h (ap is_eq (same_dir d)))

-- two tests that hold together are the same
pub same_test : (d e d' e' : Dir) → (d ≡ e → d' ≡ e') → (d' ≡ e' → d ≡ e) → is_same_dir d e ≡ is_same_dir d' e'
same_test d e d' e' f g =
    let first = is_same_dir-Decides d e in
    let second = is_same_dir-Decides d' e' in
    one_answer {P = d ≡ e} (is_same_dir d e) (is_same_dir d' e') first (λ h. g (second.0 h), λ h. second.1 (f h))
