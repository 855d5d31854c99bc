-- The bend of a point, by its terms and by its weight.
use Rattle.std.proofs.Common.{◌≡◌, ℕ, ◌+◌, ◌*◌, ◌≤◌, ◌^◌, List, [], ◌∷◌, ap, arith}
use Rattle.std.specs.Prelude.{unsigned_abs}
use Rattle.std.specs.List.{All}
use Rattle.std.proofs.Math.Nat.{mul-le-mul_left, mul-le-mul_right}
use Rattle.std.proofs.lemmas.List.Elements.{All-head, All-tail}
use Rattle.std.proofs.lemmas.List.Sums.{sum_by-cons}
use Rattle.exp_sums.specs.declared.direction.Dir.{Dir}
use Rattle.exp_sums.specs.declared.terms.Term.{Term}
use Rattle.exp_sums.specs.FormalPoint.{FormalPoint, terms}
use Rattle.exp_sums.specs.Limits.{terms_weight, weight, IsNear, IsWithin}
use Rattle.exp_sums.specs.Bend.{dir_bend, terms_bend, bend}
use Rattle.exp_sums.proofs.Weights.{terms_weight-cons}

pub square_le : (m b : ℕ) → m ≤ b → m * m ≤ b * b
square_le m b h = omega (arith, mul-le-mul_left m h, mul-le-mul_right b h)

pub dir_bend_le : (b : ℕ) (d : Dir) → IsNear b d → dir_bend d ≤ 2 * (b * b)
dir_bend_le b d h = omega (arith, square_le (unsigned_abs d.m) b h.m, square_le (unsigned_abs d.n) b h.n)

pub terms_bend-cons : (t : Term) (ts : List Term) → terms_bend (t ∷ ts) ≡ unsigned_abs t.c * dir_bend t.dir + terms_bend ts
terms_bend-cons t ts = sum_by-cons (λ (t : Term). unsigned_abs t.c * dir_bend t.dir) t ts

-- a point within b bends at most twice the square of b for each unit of weight
pub terms_bend_le : (b : ℕ) (ts : List Term) → All (λ (t : Term). IsNear b t.dir) ts → terms_bend ts ≤ 2 * (b * b) * terms_weight ts
terms_bend_le b [] h = omega arith
terms_bend_le b (t ∷ ts) h =
    let here = dir_bend_le b t.dir (All-head (λ (u : Term). IsNear b u.dir) t ts h) in
    let more = mul-le-mul_left (unsigned_abs t.c) here in
    let rest = terms_bend_le b ts (All-tail (λ (u : Term). IsNear b u.dir) t ts h) in
    let whole = ap (λ n. 2 * (b * b) * n) (terms_weight-cons t ts) in
    omega (arith, more, rest, whole, terms_bend-cons t ts)

pub bend_le : (b : ℕ) (p : FormalPoint) → IsWithin b p → bend p ≤ 2 * (b * b) * weight p
bend_le b p h = terms_bend_le b (terms p) h

-- what one term bends fits 64 bits
pub bend_small : (c m n : ℕ) → c ≤ 2 ^ 31 → m ≤ 4096 → n ≤ 4096 → c * (m * m + n * n) ≤ 2 ^ 56
bend_small c m n small near near' =
    let squares : m * m + n * n ≤ 2 ^ 25 = omega (arith, square_le m 4096 near, square_le n 4096 near') in
    omega (arith, mul-le-mul_left c squares, small)
