-- What a sum keeps of its terms, and what the terms that an operation lists of them stand for, put into an empty list.
use Rattle.std.proofs.Common.{◌≡◌, ◌*◌, ◌≤◌, List, [], map, T, sym, ap, ap₂, subst, ◌∙◌, arith}
use Rattle.std.specs.List.{flat_map, All}
use Rattle.exp_sums.specs.declared.terms.Term.{Term}
use Rattle.exp_sums.specs.Terms.{is_canonical, put_terms}
use Rattle.exp_sums.specs.FormalPoint.{terms, point_of, term_conj, term_product, zero_point, ◌+ₚ◌, ◌*ₚ◌, conj}
use Rattle.exp_sums.specs.SineForm.{sine_terms, sine_form}
use Rattle.exp_sums.specs.Limits.{terms_weight, weight, IsNear, IsWithinLimits, IsKept, greatest_weight, greatest_exponent}
use Rattle.exp_sums.specs.Products.{SumsAreNear}
use Rattle.exp_sums.proofs.PointRing.{+ₚ_comm, +ₚ-zero_point}
use Rattle.exp_sums.proofs.Limits.{limits-conj}
use Rattle.exp_sums.proofs.SineLimits.{limits-sine_form}
use Rattle.exp_sums.proofs.ProductLimits.{limits_product}
use Rattle.exp_sums.proofs.Kept.{terms-canonical, weight-canonical, point_of-put_terms, none_is_zero, is_canonical-put_terms}

-- ---- what a sum keeps
pub light_kept : (ts : List Term) → IsKept ts → terms_weight ts ≤ greatest_weight
light_kept ts h = omega (arith, weight-canonical ts h.canonical, h.limits.light)

pub near_kept : (ts : List Term) → IsKept ts → All (λ (t : Term). IsNear greatest_exponent t.dir) ts
near_kept ts h = subst (λ us. All (λ (t : Term). IsNear greatest_exponent t.dir) us) (terms-canonical ts h.canonical) h.limits.near

pub light_product : (ts us : List Term) → IsKept ts → IsKept us → weight (point_of ts) * weight (point_of us) ≤ greatest_weight →
    terms_weight ts * terms_weight us ≤ greatest_weight
light_product ts us h k light =
    subst (λ n. n * terms_weight us ≤ greatest_weight) (weight-canonical ts h.canonical)
    (subst (λ n. weight (point_of ts) * n ≤ greatest_weight) (weight-canonical us k.canonical) light)

pub near_product : (ts us : List Term) → IsKept ts → IsKept us → SumsAreNear (terms (point_of ts)) (terms (point_of us)) → SumsAreNear ts us
near_product ts us h k near =
    subst (λ vs. SumsAreNear vs us) (terms-canonical ts h.canonical) (subst (λ vs. SumsAreNear (terms (point_of ts)) vs) (terms-canonical us k.canonical) near)

-- ---- terms put into an empty list
pub point_of_listed : (more : List Term) → point_of (put_terms more []) ≡ point_of more
point_of_listed more =
    point_of-put_terms more []
    ∙ ap (λ p. p +ₚ point_of more) none_is_zero
    ∙ +ₚ_comm zero_point (point_of more)
    ∙ +ₚ-zero_point (point_of more)

pub kept_listed : (more : List Term) → IsWithinLimits (point_of more) → IsKept (put_terms more [])
kept_listed more limits = record { canonical = is_canonical-put_terms more [] tt; limits = subst IsWithinLimits (sym (point_of_listed more)) limits }

pub point_of-conj : (ts : List Term) → T (is_canonical ts) → point_of (map term_conj ts) ≡ conj (point_of ts)
unfolding conj
point_of-conj ts h = ap (λ us. point_of (map term_conj us)) (sym (terms-canonical ts h))

pub point_of-sine_terms : (ts : List Term) → T (is_canonical ts) → point_of (flat_map sine_terms ts) ≡ sine_form (point_of ts)
unfolding sine_form
point_of-sine_terms ts h = ap (λ us. point_of (flat_map sine_terms us)) (sym (terms-canonical ts h))

pub point_of-products : (ts us : List Term) → T (is_canonical ts) → T (is_canonical us) →
    point_of (flat_map (λ t. map (term_product t) us) ts) ≡ point_of ts *ₚ point_of us
unfolding ◌*ₚ◌
point_of-products ts us h k = ap₂ (λ (vs ws : List Term). point_of (flat_map (λ t. map (term_product t) ws) vs)) (sym (terms-canonical ts h))
    (sym (terms-canonical us k))

-- ---- which are kept
pub kept_conj : (ts : List Term) → IsKept ts → IsKept (put_terms (map term_conj ts) [])
kept_conj ts h = kept_listed (map term_conj ts) (subst IsWithinLimits (sym (point_of-conj ts h.canonical)) (limits-conj (point_of ts) h.limits))

pub kept_sines : (ts : List Term) → IsKept ts → IsKept (put_terms (flat_map sine_terms ts) [])
kept_sines ts h = kept_listed (flat_map sine_terms ts)
    (subst IsWithinLimits (sym (point_of-sine_terms ts h.canonical)) (limits-sine_form (point_of ts) h.limits))

pub kept_products : (ts us : List Term) → IsKept ts → IsKept us → weight (point_of ts) * weight (point_of us) ≤ greatest_weight →
    SumsAreNear (terms (point_of ts)) (terms (point_of us)) → IsKept (put_terms (flat_map (λ t. map (term_product t) us) ts) [])
kept_products ts us h k light near =
    kept_listed (flat_map (λ t. map (term_product t) us) ts)
    (subst IsWithinLimits (sym (point_of-products ts us h.canonical k.canonical)) (limits_product (point_of ts) (point_of us) light near))
