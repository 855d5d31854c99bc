-- The reach of a point, by its terms and by its weight.
use Rattle.std.proofs.Common.{◌≡◌, ℕ, ◌+◌, ◌*◌, ◌≤◌, List, [], ◌∷◌, ℤ, neg_ℤ, ap, arith}
use Rattle.std.specs.Prelude.{unsigned_abs}
use Rattle.std.specs.List.{All}
use Rattle.std.proofs.Math.Nat.{mul-le-mul_left}
use Rattle.std.proofs.lemmas.Int.{ints}
use Rattle.std.proofs.lemmas.List.Elements.{All-head, All-tail}
use Rattle.std.proofs.lemmas.List.Sums.{sum_by-cons}
use Rattle.exp_sums.specs.declared.terms.Term.{Term}
use Rattle.exp_sums.specs.FormalPoint.{FormalPoint, terms}
use Rattle.exp_sums.specs.Limits.{terms_weight, weight, IsNear, IsWithin}
use Rattle.exp_sums.specs.Reach.{dir_reach, terms_reach, reach}
use Rattle.exp_sums.proofs.Weights.{terms_weight-cons}

pub abs-neg : (a : ℤ) → unsigned_abs (neg_ℤ a) ≡ unsigned_abs a
abs-neg a = omega (arith, ints)

pub terms_reach-cons : (t : Term) (ts : List Term) → terms_reach (t ∷ ts) ≡ unsigned_abs t.c * dir_reach t.dir + terms_reach ts
terms_reach-cons t ts = sum_by-cons (λ (t : Term). unsigned_abs t.c * dir_reach t.dir) t ts

-- a point within b reaches at most twice b for each unit of weight
pub terms_reach_le : (b : ℕ) (ts : List Term) → All (λ (t : Term). IsNear b t.dir) ts → terms_reach ts ≤ 2 * b * terms_weight ts
terms_reach_le b [] h = omega arith
terms_reach_le b (t ∷ ts) h =
    let near = All-head (λ (u : Term). IsNear b u.dir) t ts h in
    let here : dir_reach t.dir ≤ 2 * b = omega (arith, near.m, near.n) in
    let more = mul-le-mul_left (unsigned_abs t.c) here in
    let rest = terms_reach_le b ts (All-tail (λ (u : Term). IsNear b u.dir) t ts h) in
    let whole = ap (λ n. 2 * b * n) (terms_weight-cons t ts) in
    omega (arith, more, rest, whole, terms_reach-cons t ts)

pub reach_le : (b : ℕ) (p : FormalPoint) → IsWithin b p → reach p ≤ 2 * b * weight p
reach_le b p h = terms_reach_le b (terms p) h
