-- What the terms that an `ExpSum` keeps stand for, and what one more term makes of them.
use Rattle.std.proofs.Common.{◌≡◌, ◌+◌, ◌≤◌, List, [], ◌∷◌, map, length, ℤ, ◌+ℤ◌, ◌*ℤ◌, neg_ℤ, refl, sym, ap, ap₂, subst, ◌∙◌, T, arith, FitsSigned, pos}
use Rattle.std.proofs.Common.{◌-ℤ◌, to_z, of_z}
use Rattle.std.specs.Prelude.{unsigned_abs}
use Rattle.std.specs.Int.{w64}
use mir.Val.{SFits}
use Rattle.std.proofs.lemmas.Int.{ints, to_z-of_z, fits_signed_from_abs}
use Rattle.ring_solver.specs.Expression.{◌⊞◌}
use Rattle.ring_solver.proofs.Solver.{ring₂, ring₃}
use Rattle.ring_solver.proofs.Whole.{ℤ_ring, ℤ_image}
use Rattle.exp_sums.specs.declared.direction.Dir.{Dir}
use Rattle.exp_sums.specs.declared.terms.Term.{Term}
use Rattle.exp_sums.specs.Terms.{dir_cmp, total_at, is_canonical, cons_term, put_term, normal, put_terms}
use Rattle.exp_sums.specs.Canonical.{cons_has, chosen, is_canonical-put, is_canonical-normal}
use Rattle.exp_sums.proofs.Totals.{same_totals}
use Rattle.exp_sums.specs.FormalPoint.{terms, point_of, terms-point_of, term_of, term_neg, monomial, zero_point, ◌+ₚ◌, negative}
use Rattle.exp_sums.specs.Weigh.{weigh_terms}
use Rattle.exp_sums.specs.Limits.{terms_weight, weight, IsWithinLimits, IsKept, greatest_weight}
use Rattle.exp_sums.proofs.Weigh.{weigh_terms-put, weigh_terms-neg, weigh-point_of, weigh-+ₚ, weigh-negative, weigh-monomial, weigh-zero_point}
use Rattle.exp_sums.proofs.Limits.{limits-zero_point}
use Rattle.exp_sums.proofs.SamePoint.{same_by_weight, coefficient-point_of, coefficient-+ₚ, coefficient_of_monomial}
use Rattle.exp_sums.proofs.Weights.{terms_weight-cons, weight-put, coefficient_le_weight, total_le_weight, weight_map}

-- ---- canonical terms
-- they are the terms of their point
pub terms-canonical : (ts : List Term) → T (is_canonical ts) → terms (point_of ts) ≡ ts
terms-canonical ts h =
    terms-point_of ts
    ∙ same_totals (normal ts) ts (is_canonical-normal ts) h (λ d. subst (λ us. total_at d us ≡ total_at d ts) (terms-point_of ts) (coefficient-point_of ts d))

pub weight-canonical : (ts : List Term) → T (is_canonical ts) → weight (point_of ts) ≡ terms_weight ts
weight-canonical ts h = ap terms_weight (terms-canonical ts h)

-- ---- one more term
pub point_of-put : (t : Term) (ts : List Term) → point_of (put_term t ts) ≡ point_of ts +ₚ monomial t.c t.dir
point_of-put t ts = same_by_weight _ _ (λ f.
    weigh-point_of ℤ_ring ℤ_image f (put_term t ts)
    ∙ weigh_terms-put ℤ_ring ℤ_image f t ts
    ∙ ring₂ ℤ_ring (λ x y. x ⊞ y) (λ x y. y ⊞ x) refl (t.c *ℤ f t.dir) (weigh_terms ℤ_ring ℤ_image f ts)
    ∙ sym (weigh-+ₚ ℤ_ring ℤ_image f (point_of ts) (monomial t.c t.dir)
    ∙ ap₂ ◌+ℤ◌ (weigh-point_of ℤ_ring ℤ_image f ts) (weigh-monomial ℤ_ring ℤ_image f t.c t.dir)))

-- the new coefficient fits 64 bits where the sum keeps its limits
pub put_fits : (c : ℤ) (d : Dir) (ts : List Term) → IsWithinLimits (point_of ts +ₚ monomial c d) → FitsSigned w64 (c +ℤ total_at d ts)
put_fits c d ts h =
    let p = point_of ts in
    let here = coefficient_of_monomial c d in
    let same = coefficient-+ₚ p (monomial c d) d in
    fits_signed_from_abs w64 (c +ℤ total_at d ts)
    (omega (arith, ints, here, same, coefficient-point_of ts d, coefficient_le_weight (p +ₚ monomial c d) d, h.light))

-- ---- further terms
pub is_canonical-put_terms : (more ts : List Term) → T (is_canonical ts) → T (is_canonical (put_terms more ts))
is_canonical-put_terms [] ts h = h
is_canonical-put_terms (t ∷ more) ts h = is_canonical-put_terms more (put_term t ts) (is_canonical-put t ts h)

pub weight-put_terms : (more ts : List Term) → terms_weight (put_terms more ts) ≤ terms_weight ts + terms_weight more
weight-put_terms [] ts = omega arith
weight-put_terms (t ∷ more) ts = omega (arith, weight-put_terms more (put_term t ts), weight-put t ts, terms_weight-cons t more)

-- the next coefficient fits 64 bits
pub step_fits : (done ts : List Term) (u : Term) → unsigned_abs u.c + terms_weight done + terms_weight ts ≤ greatest_weight →
    FitsSigned w64 (u.c +ℤ total_at u.dir (put_terms done ts))
step_fits done ts u light =
    let total = total_at u.dir (put_terms done ts) in
    let small : unsigned_abs (u.c +ℤ total) ≤ unsigned_abs u.c + unsigned_abs total = omega (arith, ints) in
    fits_signed_from_abs w64 (u.c +ℤ total) (omega (arith, light, small, total_le_weight u.dir (put_terms done ts), weight-put_terms done ts))

-- the weight of the negated terms
pub weight_negated : (ts : List Term) → terms_weight (map term_neg ts) ≡ terms_weight ts
weight_negated ts =
    let same : (t : Term) → unsigned_abs (neg_ℤ t.c) ≡ unsigned_abs t.c = λ t. omega (arith, ints) in
    weight_map term_neg same ts

-- what the code computes of a small coefficient is its negative
pub negated_is : (a : ℤ) → unsigned_abs a ≤ greatest_weight → to_z w64 (of_z w64 (pos 0 -ℤ to_z w64 (of_z w64 a))) ≡ neg_ℤ a
negated_is a small =
    let fits : SFits w64 a = fits_signed_from_abs w64 a (omega (arith, small)) in
    let negative_is : pos 0 -ℤ a ≡ neg_ℤ a = omega (arith, ints) in
    let negative_fits : SFits w64 (neg_ℤ a) = fits_signed_from_abs w64 (neg_ℤ a) (omega (arith, ints, small)) in
    ap (λ z. to_z w64 (of_z w64 (pos 0 -ℤ z))) (to_z-of_z w64 a fits) ∙ ap (λ z. to_z w64 (of_z w64 z)) negative_is ∙ to_z-of_z w64 (neg_ℤ a) negative_fits

length_cons : (t : Term) (ts : List Term) → length (cons_term t ts) ≤ length ts + 1
length_cons t ts = cons_has (λ us. length us ≤ length ts + 1) t ts (λ _. omega arith) (λ _. omega arith)

pub length-put : (t : Term) (us : List Term) → length (put_term t us) ≤ length us + 1
length-put t [] = length_cons t []
length-put t (u ∷ us) =
    let sum : Term = term_of (t.c +ℤ u.c) u.dir in
    chosen (λ vs. length vs ≤ length (u ∷ us) + 1) (dir_cmp t.dir u.dir) _ _ _
    (λ _. length_cons t (u ∷ us))
    (λ _. omega (arith, length_cons sum us))
    (λ _. omega (arith, length-put t us))

pub length-put_terms : (more ts : List Term) → length (put_terms more ts) ≤ length ts + length more
length-put_terms [] ts = omega arith
length-put_terms (t ∷ more) ts = omega (arith, length-put_terms more (put_term t ts), length-put t ts)

weigh-put_terms : (f : Dir → ℤ) (more ts : List Term) →
    weigh_terms ℤ_ring ℤ_image f (put_terms more ts) ≡ weigh_terms ℤ_ring ℤ_image f ts +ℤ weigh_terms ℤ_ring ℤ_image f more
weigh-put_terms f [] ts = sym (ℤ_ring.add-zero (weigh_terms ℤ_ring ℤ_image f ts))
weigh-put_terms f (t ∷ more) ts =
    weigh-put_terms f more (put_term t ts)
    ∙ ap (λ z. z +ℤ weigh_terms ℤ_ring ℤ_image f more) (weigh_terms-put ℤ_ring ℤ_image f t ts)
    ∙ ring₃ ℤ_ring (λ x y z. (x ⊞ y) ⊞ z) (λ x y z. y ⊞ (x ⊞ z)) refl (t.c *ℤ f t.dir) (weigh_terms ℤ_ring ℤ_image f ts) (weigh_terms ℤ_ring ℤ_image f more)

pub point_of-put_terms : (more ts : List Term) → point_of (put_terms more ts) ≡ point_of ts +ₚ point_of more
point_of-put_terms more ts = same_by_weight _ _ (λ f.
    weigh-point_of ℤ_ring ℤ_image f (put_terms more ts)
    ∙ weigh-put_terms f more ts
    ∙ sym (weigh-+ₚ ℤ_ring ℤ_image f (point_of ts) (point_of more) ∙ ap₂ ◌+ℤ◌ (weigh-point_of ℤ_ring ℤ_image f ts) (weigh-point_of ℤ_ring ℤ_image f more)))

pub point_of-neg : (ts : List Term) → point_of (map term_neg ts) ≡ negative (point_of ts)
point_of-neg ts = same_by_weight _ _ (λ f.
    weigh-point_of ℤ_ring ℤ_image f (map term_neg ts)
    ∙ weigh_terms-neg ℤ_ring ℤ_image f ts
    ∙ sym (weigh-negative ℤ_ring ℤ_image f (point_of ts) ∙ ap neg_ℤ (weigh-point_of ℤ_ring ℤ_image f ts)))

-- ---- what is kept
pub none_is_zero : point_of [] ≡ zero_point
none_is_zero = same_by_weight _ _ (λ f. weigh-point_of ℤ_ring ℤ_image f [] ∙ sym (weigh-zero_point ℤ_ring ℤ_image f))

pub kept_none : IsKept []
kept_none = record { canonical = tt; limits = subst IsWithinLimits (sym none_is_zero) limits-zero_point }

pub kept-put : (t : Term) (ts : List Term) → T (is_canonical ts) → IsWithinLimits (point_of ts +ₚ monomial t.c t.dir) → IsKept (put_term t ts)
kept-put t ts h limits = record { canonical = is_canonical-put t ts h; limits = subst IsWithinLimits (sym (point_of-put t ts)) limits }

pub kept-put_terms : (more ts : List Term) → T (is_canonical ts) → IsWithinLimits (point_of ts +ₚ point_of more) → IsKept (put_terms more ts)
kept-put_terms more ts h limits =
    record { canonical = is_canonical-put_terms more ts h; limits = subst IsWithinLimits (sym (point_of-put_terms more ts)) limits }
