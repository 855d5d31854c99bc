-- How heavy the results of the operations are.
use Rattle.std.proofs.Common.{◌≡◌, ℕ, ◌+◌, ◌*◌, ◌≤◌, List, [], ◌∷◌, ◌++◌, map, ℤ, pos, ◌+ℤ◌, neg_ℤ, if◌then◌else◌, Bool, true, false, refl, ap, arith}
use Rattle.std.specs.Prelude.{unsigned_abs}
use Rattle.std.specs.List.{flat_map}
use Rattle.std.proofs.lemmas.Int.{ints, unsigned_abs-mul}
use Rattle.std.proofs.lemmas.List.Sums.{sum_by-cons, sum_by-append}
use Rattle.exp_sums.specs.declared.direction.Dir.{Dir}
use Rattle.exp_sums.specs.declared.terms.Term.{Term}
use Rattle.exp_sums.specs.Terms.{dir_cmp, is_same_dir, total_at, cons_term, put_term, normal}
use Rattle.exp_sums.specs.Canonical.{cons_has, chosen}
use Rattle.exp_sums.specs.FormalPoint.{FormalPoint, terms, point_of, terms-point_of, coefficient, term_of, term_neg, term_conj, term_product, zero_dir}
use Rattle.exp_sums.specs.FormalPoint.{monomial, zero_point, ◌+ₚ◌, negative, ◌*ₚ◌, conj}
use Rattle.exp_sums.specs.Limits.{terms_weight, weight}
use Rattle.exp_sums.proofs.SamePoint.{coefficient_of_monomial}
use Rattle.exp_sums.proofs.PointRing.{negative-negative, conj-conj}

-- the weight of one term
abbrev size : Term → ℕ
size t = unsigned_abs t.c

pub terms_weight-cons : (t : Term) (ts : List Term) → terms_weight (t ∷ ts) ≡ unsigned_abs t.c + terms_weight ts
terms_weight-cons t ts = sum_by-cons size t ts

pub terms_weight-append : (ts us : List Term) → terms_weight (ts ++ us) ≡ terms_weight ts + terms_weight us
terms_weight-append ts us = sum_by-append size ts us

abs-add : (a b : ℤ) → unsigned_abs (a +ℤ b) ≤ unsigned_abs a + unsigned_abs b
abs-add a b = omega (arith, ints)

weight_cons : (t : Term) (ts : List Term) → terms_weight (cons_term t ts) ≤ unsigned_abs t.c + terms_weight ts
weight_cons t ts = cons_has (λ us. terms_weight us ≤ unsigned_abs t.c + terms_weight ts) t ts (λ _. omega (arith, terms_weight-cons t ts)) (λ _. omega arith)

-- one more term weighs at most what it has
pub weight-put : (t : Term) (us : List Term) → terms_weight (put_term t us) ≤ unsigned_abs t.c + terms_weight us
weight-put t [] = weight_cons t []
weight-put t (u ∷ us) =
    let sum : Term = term_of (t.c +ℤ u.c) u.dir in
    chosen (λ vs. terms_weight vs ≤ unsigned_abs t.c + terms_weight (u ∷ us)) (dir_cmp t.dir u.dir) _ _ _
    (λ _. weight_cons t (u ∷ us))
    (λ _. omega (arith, weight_cons sum us, abs-add t.c u.c, terms_weight-cons u us))
    (λ _. omega (arith, weight-put t us, terms_weight-cons u us, terms_weight-cons u (put_term t us)))

pub weight-normal : (ts : List Term) → terms_weight (normal ts) ≤ terms_weight ts
weight-normal [] = omega arith
weight-normal (t ∷ ts) = omega (arith, weight-put t (normal ts), weight-normal ts, terms_weight-cons t ts)

pub weight-point_of : (ts : List Term) → weight (point_of ts) ≤ terms_weight ts
weight-point_of ts = rw (terms-point_of ts) (weight-normal ts)

pub weight_map : (f : Term → Term) → ((t : Term) → unsigned_abs (f t).c ≡ unsigned_abs t.c) → (ts : List Term) → terms_weight (map f ts) ≡ terms_weight ts
weight_map f same [] = refl
weight_map f same (t ∷ ts) = omega (arith, same t, weight_map f same ts, terms_weight-cons t ts, terms_weight-cons (f t) (map f ts))

pub weight_times : (t : Term) (us : List Term) → terms_weight (map (term_product t) us) ≡ unsigned_abs t.c * terms_weight us
weight_times t [] = omega arith
weight_times t (u ∷ us) =
    omega (
      arith,
      unsigned_abs-mul t.c u.c,
      weight_times t us,
      terms_weight-cons u us,
      terms_weight-cons (term_product t u) (map (term_product t) us),
      ap (λ n. unsigned_abs t.c * n) (terms_weight-cons u us),
    )

pub weight_products : (ts us : List Term) → terms_weight (flat_map (λ t. map (term_product t) us) ts) ≡ terms_weight ts * terms_weight us
weight_products [] us = omega arith
weight_products (t ∷ ts) us =
    omega (
      arith,
      terms_weight-append (map (term_product t) us) (flat_map (λ v. map (term_product v) us) ts),
      weight_times t us,
      weight_products ts us,
      ap (λ n. n * terms_weight us) (terms_weight-cons t ts),
    )

pub weight-+ₚ : (p q : FormalPoint) → weight (p +ₚ q) ≤ weight p + weight q
unfolding ◌+ₚ◌
weight-+ₚ p q = omega (arith, weight-point_of (terms p ++ terms q), terms_weight-append (terms p) (terms q))

weight-negative_le : (p : FormalPoint) → weight (negative p) ≤ weight p
unfolding negative
weight-negative_le p =
    let same : (t : Term) → unsigned_abs (neg_ℤ t.c) ≡ unsigned_abs t.c = λ t. omega (arith, ints) in
    omega (arith, weight-point_of (map term_neg (terms p)), weight_map term_neg same (terms p))

pub weight-negative : (p : FormalPoint) → weight (negative p) ≡ weight p
weight-negative p = omega (arith, weight-negative_le p, weight-negative_le (negative p), ap weight (negative-negative p))

pub weight_difference : (p q : FormalPoint) → weight (p +ₚ negative q) ≤ weight p + weight q
weight_difference p q = omega (arith, weight-+ₚ p (negative q), weight-negative q)

weight-conj_le : (p : FormalPoint) → weight (conj p) ≤ weight p
unfolding conj
weight-conj_le p = omega (arith, weight-point_of (map term_conj (terms p)), weight_map term_conj (λ t. refl) (terms p))

pub weight-conj : (p : FormalPoint) → weight (conj p) ≡ weight p
weight-conj p = omega (arith, weight-conj_le p, weight-conj_le (conj p), ap weight (conj-conj p))

pub weight-*ₚ : (p q : FormalPoint) → weight (p *ₚ q) ≤ weight p * weight q
unfolding ◌*ₚ◌
weight-*ₚ p q = omega (arith, weight-point_of (flat_map (λ t. map (term_product t) (terms q)) (terms p)), weight_products (terms p) (terms q))

-- no coefficient is larger than the weight
pub total_le_weight : (d : Dir) (ts : List Term) → unsigned_abs (total_at d ts) ≤ terms_weight ts
total_le_weight d [] = omega arith
total_le_weight d (t ∷ ts) =
    let here : ℤ = if is_same_dir d t.dir then t.c else pos 0 in
    let small : unsigned_abs here ≤ unsigned_abs t.c = at_test (is_same_dir d t.dir) in
    omega (arith, small, abs-add here (total_at d ts), total_le_weight d ts, terms_weight-cons t ts)
  where
    at_test : (b : Bool) → unsigned_abs (if b then t.c else pos 0) ≤ unsigned_abs t.c
    at_test true = omega arith
    at_test false = omega arith

pub coefficient_le_weight : (p : FormalPoint) (d : Dir) → unsigned_abs (coefficient p d) ≤ weight p
coefficient_le_weight p d = total_le_weight d (terms p)

weight-monomial_le : (c : ℤ) (d : Dir) → weight (monomial c d) ≤ unsigned_abs c
unfolding monomial
weight-monomial_le c d = omega (arith, weight-point_of (term_of c d ∷ []), terms_weight-cons (term_of c d) [])

pub weight-monomial : (c : ℤ) (d : Dir) → weight (monomial c d) ≡ unsigned_abs c
weight-monomial c d = omega (arith, weight-monomial_le c d, coefficient_le_weight (monomial c d) d, ap unsigned_abs (coefficient_of_monomial c d))

pub weight-zero_point : weight zero_point ≡ 0
weight-zero_point = weight-monomial (pos 0) zero_dir
