-- Which products keep the limits of an `ExpSum`.
use Rattle.std.proofs.Common.{ℕ, ◌+◌, ◌*◌, ◌≤◌, List, [], ◌∷◌, map, arith}
use Rattle.std.specs.List.{flat_map, All}
use Rattle.std.proofs.lemmas.Int.{ints}
use Rattle.std.proofs.lemmas.List.Elements.{All-nil, All-head, All-tail, All-append, All-weaker, All-map}
use Rattle.exp_sums.specs.declared.terms.Term.{Term}
use Rattle.exp_sums.specs.FormalPoint.{FormalPoint, terms, term_product, dir_sum, ◌*ₚ◌}
use Rattle.exp_sums.specs.Limits.{weight, IsNear, IsWithin, IsWithinLimits, greatest_weight, greatest_exponent}
use Rattle.exp_sums.specs.Products.{SumsAreNear}
use Rattle.exp_sums.proofs.Weights.{weight-*ₚ}
use Rattle.exp_sums.proofs.Within.{dirs-point_of}

products_near : (ts us : List Term) → SumsAreNear ts us → All (λ (t : Term). IsNear greatest_exponent t.dir) (flat_map (λ t. map (term_product t) us) ts)
products_near [] us h = All-nil (λ (t : Term). IsNear greatest_exponent t.dir)
products_near (t ∷ ts) us h =
    All-append (λ (v : Term). IsNear greatest_exponent v.dir) (map (term_product t) us) (flat_map (λ v. map (term_product v) us) ts)
    (All-map (λ (v : Term). IsNear greatest_exponent v.dir) (term_product t) us
    (All-head (λ (v : Term). All (λ (u : Term). IsNear greatest_exponent (dir_sum v.dir u.dir)) us) t ts h))
    (products_near ts us (All-tail (λ (v : Term). All (λ (u : Term). IsNear greatest_exponent (dir_sum v.dir u.dir)) us) t ts h))

IsWithin_product : (p q : FormalPoint) → SumsAreNear (terms p) (terms q) → IsWithin greatest_exponent (p *ₚ q)
unfolding ◌*ₚ◌
IsWithin_product p q h = dirs-point_of (IsNear greatest_exponent) (flat_map (λ t. map (term_product t) (terms q)) (terms p))
    (products_near (terms p) (terms q) h)

-- the conditions of `times`
pub limits_product : (p q : FormalPoint) → weight p * weight q ≤ greatest_weight → SumsAreNear (terms p) (terms q) → IsWithinLimits (p *ₚ q)
limits_product p q light near = record { near = IsWithin_product p q near; light = omega (arith, weight-*ₚ p q, light) }

-- the sums of directions within a and within b are near where a + b is small enough
pub sums_near : (a b : ℕ) (p q : FormalPoint) → a + b ≤ greatest_exponent → IsWithin a p → IsWithin b q → SumsAreNear (terms p) (terms q)
sums_near a b p q small h k =
    All-weaker (λ (t : Term). IsNear a t.dir) (λ (t : Term). All (λ (u : Term). IsNear greatest_exponent (dir_sum t.dir u.dir)) (terms q))
    (λ t near.
    All-weaker (λ (u : Term). IsNear b u.dir) (λ (u : Term). IsNear greatest_exponent (dir_sum t.dir u.dir))
    (λ u near_too. record { m = omega (arith, ints, near.m, near_too.m, small); n = omega (arith, ints, near.n, near_too.n, small) })
    (terms q)
    k)
    (terms p)
    h
