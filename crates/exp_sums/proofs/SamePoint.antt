-- Formal points are known by their coefficients, and by their sums in the whole numbers.
use Rattle.std.proofs.Common.{◌≡◌, Bool, true, false, List, [], ◌∷◌, ℤ, pos, ◌+ℤ◌, ◌*ℤ◌, neg_ℤ, if◌then◌else◌, refl, sym, ap, ap₂, ◌∙◌, arith}
use Rattle.std.proofs.lemmas.Int.{ints}
use Rattle.std.proofs.Math.IntN.{+ℤ_idr}
use Rattle.ring_solver.proofs.Whole.{ℤ_ring, ℤ_image}
use Rattle.exp_sums.specs.declared.direction.Dir.{Dir}
use Rattle.exp_sums.specs.declared.terms.Term.{Term}
use Rattle.exp_sums.specs.Terms.{is_same_dir, total_at}
use Rattle.exp_sums.proofs.Totals.{same_totals, same_dir}
use Rattle.exp_sums.specs.FormalPoint.{FormalPoint, terms, terms_canonical, same_terms, coefficient, point_of, term_of, dir_sum, dir_neg, monomial, ◌+ₚ◌}
use Rattle.exp_sums.specs.FormalPoint.{negative, ◌*ₚ◌, conj}
use Rattle.exp_sums.specs.Weigh.{weigh_terms, weigh_ints}
use Rattle.exp_sums.proofs.Directions.{same_test, negated, negated_back, moved, moved_back}
use Rattle.exp_sums.proofs.Weigh.{weigh-point_of, weigh-+ₚ, weigh-negative, weigh-*ₚ, weigh-conj}

-- 1 at one direction, and 0 at the others
abbrev pub only_at : Dir → Dir → ℤ
only_at d e = if is_same_dir d e then pos 1 else pos 0

total_is : (d : Dir) (ts : List Term) → total_at d ts ≡ weigh_terms ℤ_ring ℤ_image (only_at d) ts
total_is d [] = refl
total_is d (t ∷ ts) = ap₂ ◌+ℤ◌ (counted (is_same_dir d t.dir)) (total_is d ts)
  where
    counted : (b : Bool) → (if b then t.c else pos 0) ≡ t.c *ℤ (if b then pos 1 else pos 0)
    counted true = omega (arith, ints)
    counted false = omega (arith, ints)

-- a coefficient is a sum that counts one direction
pub coefficient_is : (p : FormalPoint) (d : Dir) → coefficient p d ≡ weigh_ints (only_at d) p
coefficient_is p d = total_is d (terms p)

-- two points with the same coefficients are the same
pub same_point : (p q : FormalPoint) → ((d : Dir) → coefficient p d ≡ coefficient q d) → p ≡ q
same_point p q same = same_terms p q (same_totals (terms p) (terms q) (terms_canonical p) (terms_canonical q) same)

-- and so are two points over which all sums in the whole numbers agree
pub same_by_weight : (p q : FormalPoint) → ((f : Dir → ℤ) → weigh_ints f p ≡ weigh_ints f q) → p ≡ q
same_by_weight p q same = same_point p q (λ d. coefficient_is p d ∙ same (only_at d) ∙ sym (coefficient_is q d))

-- ---- the coefficients of each operation
pub coefficient-point_of : (ts : List Term) (d : Dir) → coefficient (point_of ts) d ≡ total_at d ts
coefficient-point_of ts d = coefficient_is (point_of ts) d ∙ weigh-point_of ℤ_ring ℤ_image (only_at d) ts ∙ sym (total_is d ts)

pub coefficient-+ₚ : (p q : FormalPoint) (d : Dir) → coefficient (p +ₚ q) d ≡ coefficient p d +ℤ coefficient q d
coefficient-+ₚ p q d = coefficient_is (p +ₚ q) d ∙ weigh-+ₚ ℤ_ring ℤ_image (only_at d) p q ∙ sym (ap₂ ◌+ℤ◌ (coefficient_is p d) (coefficient_is q d))

pub coefficient-negative : (p : FormalPoint) (d : Dir) → coefficient (negative p) d ≡ neg_ℤ (coefficient p d)
coefficient-negative p d = coefficient_is (negative p) d ∙ weigh-negative ℤ_ring ℤ_image (only_at d) p ∙ sym (ap neg_ℤ (coefficient_is p d))

pub coefficient-monomial : (c : ℤ) (e d : Dir) → coefficient (monomial c e) d ≡ (if is_same_dir d e then c else pos 0)
unfolding monomial
coefficient-monomial c e d = coefficient-point_of (term_of c e ∷ []) d ∙ +ℤ_idr (if is_same_dir d e then c else pos 0)

pub coefficient_of_monomial : (c : ℤ) (d : Dir) → coefficient (monomial c d) d ≡ c
coefficient_of_monomial c d = coefficient-monomial c d d ∙ rw (same_dir d) refl

pub only_conjugate : (d e : Dir) → only_at d (dir_neg e) ≡ only_at (dir_neg d) e
only_conjugate d e = ap (λ b. if b then pos 1 else pos 0) (same_test d (dir_neg e) (dir_neg d) e (negated d e) (negated_back d e))

pub coefficient-conj : (p : FormalPoint) (d : Dir) → coefficient (conj p) d ≡ coefficient p (dir_neg d)
coefficient-conj p d =
    coefficient_is (conj p) d
    ∙ weigh-conj ℤ_ring ℤ_image (only_at d) p
    ∙ (λ i. weigh_ints (λ e. only_conjugate d e i) p)
    ∙ sym (coefficient_is p (dir_neg d))

only_moved : (d e u : Dir) → only_at d (dir_sum e u) ≡ only_at (dir_sum d (dir_neg e)) u
only_moved d e u = ap (λ b. if b then pos 1 else pos 0) (same_test d (dir_sum e u) (dir_sum d (dir_neg e)) u (moved d e u) (moved_back d e u))

-- the product's coefficients are the convolution
pub coefficient-*ₚ : (p q : FormalPoint) (d : Dir) → coefficient (p *ₚ q) d ≡ weigh_ints (λ e. coefficient q (dir_sum d (dir_neg e))) p
coefficient-*ₚ p q d =
    coefficient_is (p *ₚ q) d
    ∙ weigh-*ₚ ℤ_ring ℤ_image (only_at d) p q
    ∙ (λ i. weigh_ints (λ e. weigh_ints (λ u. only_moved d e u i) q) p)
    ∙ (λ i. weigh_ints (λ e. sym (coefficient_is q (dir_sum d (dir_neg e))) i) p)
