-- Formal points: finite sums of directions with whole coefficients, the elements of the group ring of ℤ×ℤ (Lang, Algebra, chapter II).
-- The direction (m, n) stands for e^{iπ(mx+ny)}. A formal point is a finite map from directions
-- to whole numbers other than 0, read as the sum of c·e^{iπ(mx+ny)} over its terms.
-- Each operation below lists terms and brings the list to its canonical form. What is
-- meant by them are the sentences of `Laws`, which speak of coefficients alone.
use Rattle.std.proofs.Common.{◌≡◌, ℕ, List, [], ◌∷◌, ◌++◌, map, ℤ, pos, ◌+ℤ◌, ◌*ℤ◌, neg_ℤ, refl, T}
use Rattle.std.specs.List.{flat_map}
use Rattle.std.specs.Coded.{Coded, coded_list}
use mathlib.Core.HLevel.{Σ_prop_path}
use base.Stored.{coded_via}
use lib.Dec.{T_prop}
use Rattle.exp_sums.specs.contracts.terms.Term as term_row
use Rattle.exp_sums.specs.declared.direction.Dir.{Dir}
use Rattle.exp_sums.specs.declared.terms.Term.{Term}
use Rattle.exp_sums.specs.Terms.{total_at, is_canonical, normal}
use Rattle.exp_sums.specs.Canonical.{is_canonical-normal}

-- the finite map, as its terms in the order of their directions
pub record FormalPoint : Type 0 where
  list : List Term
  canonical : T (is_canonical list)

-- its terms
pub terms : FormalPoint → List Term
terms p = p.list

pub terms_canonical : (p : FormalPoint) → T (is_canonical (terms p))
unfolding terms
terms_canonical p = p.canonical

-- a formal point is its terms
pub same_terms : (p q : FormalPoint) → terms p ≡ terms q → p ≡ q
unfolding terms
same_terms p q e =
    let pairs : ◌≡◌ {A = (ts : List Term) × T (is_canonical ts)} (p.list, p.canonical) (q.list, q.canonical) = Σ_prop_path (λ ts. T_prop _) e in
    λ i. record { list = (pairs i).0; canonical = (pairs i).1 }

-- how a contract keeps one: as the list of its terms
abbrev pub formal_point_code : Coded FormalPoint
formal_point_code = coded_via (coded_list (term_row.the_row).coded) terms same_terms

-- the coefficient at a direction, 0 where the map has none
abbrev pub coefficient : FormalPoint → Dir → ℤ
coefficient p d = total_at d (terms p)

-- the formal point that a list of terms adds up to
pub point_of : List Term → FormalPoint
point_of ts = record { list = normal ts; canonical = is_canonical-normal ts }

pub terms-point_of : (ts : List Term) → terms (point_of ts) ≡ normal ts
unfolding terms point_of
terms-point_of ts = refl

-- the direction of the number 1
abbrev pub zero_dir : Dir
zero_dir = record { m = pos 0; n = pos 0 }

-- directions multiply by the sum of their exponents
abbrev pub dir_sum : Dir → Dir → Dir
dir_sum d e = record { m = d.m +ℤ e.m; n = d.n +ℤ e.n }

-- the inverse of a direction, which is its conjugate
abbrev pub dir_neg : Dir → Dir
dir_neg d = record { m = neg_ℤ d.m; n = neg_ℤ d.n }

-- a coefficient times a direction; products, negatives and conjugates of such terms
abbrev pub term_of : ℤ → Dir → Term
term_of c d = record { dir = d; c = c }

abbrev pub term_product : Term → Term → Term
term_product t u = term_of (t.c *ℤ u.c) (dir_sum t.dir u.dir)

abbrev pub term_neg : Term → Term
term_neg t = term_of (neg_ℤ t.c) t.dir

abbrev pub term_conj : Term → Term
term_conj t = term_of t.c (dir_neg t.dir)

-- c times a direction
unfoldable pub monomial : ℤ → Dir → FormalPoint
monomial c d = point_of (term_of c d ∷ [])

-- the whole numbers among the formal points
abbrev pub whole_point : ℕ → FormalPoint
whole_point n = monomial (pos n) zero_dir

abbrev pub zero_point : FormalPoint
zero_point = whole_point 0

abbrev pub one_point : FormalPoint
one_point = whole_point 1

infixl 60 ◌+ₚ◌ ◌-ₚ◌
infixl 70 ◌*ₚ◌
-- the sum adds coefficients
unfoldable pub ◌+ₚ◌ : FormalPoint → FormalPoint → FormalPoint
p +ₚ q = point_of (terms p ++ terms q)

-- the negative negates coefficients
unfoldable pub negative : FormalPoint → FormalPoint
negative p = point_of (map term_neg (terms p))

abbrev pub ◌-ₚ◌ : FormalPoint → FormalPoint → FormalPoint
p -ₚ q = p +ₚ negative q

-- the product adds directions and multiplies coefficients
unfoldable pub ◌*ₚ◌ : FormalPoint → FormalPoint → FormalPoint
p *ₚ q = point_of (flat_map (λ t. map (term_product t) (terms q)) (terms p))

-- the conjugate negates both numbers of each direction
unfoldable pub conj : FormalPoint → FormalPoint
conj p = point_of (map term_conj (terms p))
