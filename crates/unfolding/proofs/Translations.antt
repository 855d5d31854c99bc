-- What the mirrors of a list of letters make of a sum, and where they are a translation.
use Rattle.std.proofs.Common.{◌≡◌, ℕ, zero, suc, ◌%◌, Bool, true, false, not, List, [], ◌∷◌, ◌++◌, length, if◌then◌else◌, refl, sym, ap, ap₂, ◌∙◌, pos, arith}
use Rattle.std.specs.List.{All}
use Rattle.ring_solver.specs.Expression.{var, num, opp, ◌⊞◌, ◌⊟◌, ◌⊠◌}
use Rattle.ring_solver.proofs.Solver.{ring}
use Rattle.edge_words.specs.Letters.{IsLetter}
use Rattle.edge_words.specs.Stable.{IsStable}
use Rattle.exp_sums.specs.FormalPoint.{FormalPoint, monomial, whole_point, zero_point, one_point, zero_dir, negative, conj, dir_sum, dir_neg, ◌+ₚ◌, ◌-ₚ◌, ◌*ₚ◌}
use Rattle.exp_sums.proofs.PointRing.{point_ring, monomial-*ₚ, monomial-conj, monomial-+ₚ, conj-negative, conj-*ₚ, conj-conj}
use Rattle.unfolding.specs.Triangle.{next_corner, corner_dir, first_corner, mirror, mirrors}
use Rattle.unfolding.specs.Walk.{is_reversed, mirrored_dir}
use Rattle.unfolding.proofs.MirroredDirs.{is_reversed-even, mirrored_from_stable}
use Rattle.unfolding.proofs.Mirrors.{start_of, end_of}
use Rattle.unfolding.proofs.Seen.{mirror-+ₚ}

-- the mirrors of two lists, one after the other
pub mirrors-append : (u v : List ℕ) (z : FormalPoint) → mirrors (u ++ v) z ≡ mirrors u (mirrors v z)
mirrors-append [] v z = refl
mirrors-append (d ∷ u) v z = ap (mirror d) (mirrors-append u v z)

-- where the mirrors of a list turn the origin's direction to
abbrev turned : List ℕ → FormalPoint
turned w = monomial (pos 1) (mirrored_dir w zero_dir)

-- how a vector is seen after them: turned, and where their number is odd reflected too
pub reflected : Bool → FormalPoint → FormalPoint → FormalPoint
reflected b m y = if b then negative (m *ₚ conj y) else m *ₚ y

turned-cons : (d : ℕ) (w : List ℕ) → start_of d *ₚ end_of d *ₚ conj (turned w) ≡ turned (d ∷ w)
unfolding first_corner
turned-cons d w =
    let p = corner_dir (next_corner d) in
    let q = corner_dir (next_corner (next_corner d)) in
    ap₂ ◌*ₚ◌ (monomial-*ₚ (pos 1) (pos 1) p q) (monomial-conj (pos 1) (mirrored_dir w zero_dir))
    ∙ monomial-*ₚ (pos 1) (pos 1) (dir_sum p q) (dir_neg (mirrored_dir w zero_dir))

reflected-cons : (b : Bool) (p q m y : FormalPoint) → negative (p *ₚ q *ₚ conj (reflected b m y)) ≡ reflected (not b) (p *ₚ q *ₚ conj m) y
unfolding reflected
reflected-cons true p q m y =
    simp (conj-negative, conj-*ₚ, conj-conj)
    (ring point_ring (p ∷ q ∷ conj m ∷ y ∷ []) (opp (var 0 ⊠ var 1 ⊠ opp (var 2 ⊠ var 3))) (var 0 ⊠ var 1 ⊠ var 2 ⊠ var 3) refl)
reflected-cons false p q m y =
    simp conj-*ₚ
    (ring point_ring (p ∷ q ∷ conj m ∷ conj y ∷ []) (opp (var 0 ⊠ var 1 ⊠ (var 2 ⊠ var 3))) (opp (var 0 ⊠ var 1 ⊠ var 2 ⊠ var 3)) refl)

-- a vector that is added inside the mirrors comes out as it is seen after them
abbrev seen_vector : List ℕ → FormalPoint → FormalPoint
seen_vector w y = reflected (is_reversed w) (turned w) y

vector_at_start : (y : FormalPoint) → y ≡ seen_vector [] y
unfolding reflected
vector_at_start y = ring point_ring (y ∷ []) (var 0) (num 1 ⊠ var 0) refl

mirrors-vector : (w : List ℕ) (x y : FormalPoint) → mirrors w (x +ₚ y) ≡ mirrors w x +ₚ seen_vector w y
mirrors-vector [] x y = ap (λ t. x +ₚ t) (vector_at_start y)
mirrors-vector (d ∷ w) x y =
    ap (mirror d) (mirrors-vector w x y)
    ∙ mirror-+ₚ d (mirrors w x) (seen_vector w y)
    ∙ ap (λ t. mirror d (mirrors w x) +ₚ t)
    (reflected-cons (is_reversed w) (start_of d) (end_of d) (turned w) y ∙ ap (λ m. reflected (not (is_reversed w)) m y) (turned-cons d w))

-- so a vector is seen as the way between the images of its ends
vector_is : (w : List ℕ) (y : FormalPoint) → seen_vector w y ≡ mirrors w y -ₚ mirrors w zero_point
vector_is w y =
    let from_origin : mirrors w y ≡ mirrors w zero_point +ₚ seen_vector w y =
    ap (mirrors w) (ring point_ring (y ∷ []) (var 0) (num 0 ⊞ var 0) refl) ∙ mirrors-vector w zero_point y in
    ring point_ring (seen_vector w y ∷ mirrors w zero_point ∷ []) (var 0) (var 1 ⊞ var 0 ⊟ var 1) refl
    ∙ ap (λ t. t -ₚ mirrors w zero_point) (sym from_origin)

pub mirrors_sum : (w : List ℕ) (x y : FormalPoint) → mirrors w (x +ₚ y) ≡ mirrors w x +ₚ (mirrors w y -ₚ mirrors w zero_point)
mirrors_sum w x y = mirrors-vector w x y ∙ ap (λ t. mirrors w x +ₚ t) (vector_is w y)

-- n times more
pub whole_point-suc : (n : ℕ) (v : FormalPoint) → whole_point (suc n) *ₚ v ≡ whole_point n *ₚ v +ₚ v
whole_point-suc n v =
    let more : whole_point (suc n) ≡ whole_point n +ₚ one_point = ap (λ k. whole_point k) (omega arith) ∙ monomial-+ₚ (pos n) (pos 1) zero_dir in
    ap (λ t. t *ₚ v) more ∙ ring point_ring (whole_point n ∷ v ∷ []) ((var 0 ⊞ num 1) ⊠ var 1) (var 0 ⊠ var 1 ⊞ var 1) refl

-- the same vector n times inside the mirrors
pub mirrors_multiple : (w : List ℕ) (n : ℕ) (x y : FormalPoint) → mirrors w (x +ₚ whole_point n *ₚ y)
    ≡ mirrors w x +ₚ whole_point n *ₚ (mirrors w y -ₚ mirrors w zero_point)
mirrors_multiple w zero x y =
    let v = mirrors w y -ₚ mirrors w zero_point in
    ap (mirrors w) (ring point_ring (x ∷ y ∷ []) (var 0 ⊞ num 0 ⊠ var 1) (var 0) refl)
    ∙ ring point_ring (mirrors w x ∷ v ∷ []) (var 0) (var 0 ⊞ num 0 ⊠ var 1) refl
mirrors_multiple w (suc n) x y =
    let v = mirrors w y -ₚ mirrors w zero_point in
    ap (mirrors w) (ap (λ t. x +ₚ t) (whole_point-suc n y)
    ∙ ring point_ring (x ∷ whole_point n *ₚ y ∷ y ∷ []) (var 0 ⊞ (var 1 ⊞ var 2)) (var 0 ⊞ var 1 ⊞ var 2) refl)
    ∙ mirrors_sum w (x +ₚ whole_point n *ₚ y) y
    ∙ ap (λ t. t +ₚ v) (mirrors_multiple w n x y)
    ∙ ring point_ring (mirrors w x ∷ whole_point n *ₚ v ∷ v ∷ []) (var 0 ⊞ var 1 ⊞ var 2) (var 0 ⊞ (var 1 ⊞ var 2)) refl
    ∙ ap (λ t. mirrors w x +ₚ t) (sym (whole_point-suc n v))

-- a list of even length in which each letter is balanced moves each point alike
pub translation : (w : List ℕ) → All IsLetter w → length w % 2 ≡ 0 → IsStable w → (z : FormalPoint) → mirrors w z ≡ z +ₚ mirrors w zero_point
unfolding reflected
translation w h even stable z =
    let here : seen_vector w z ≡ one_point *ₚ z =
    ap (λ b. reflected b (turned w) z) (is_reversed-even w even) ∙ ap (λ d. monomial (pos 1) d *ₚ z) (mirrored_from_stable w zero_dir h even stable) in
    ap (mirrors w) (ring point_ring (z ∷ []) (var 0) (num 0 ⊞ var 0) refl)
    ∙ mirrors-vector w zero_point z
    ∙ ap (λ t. mirrors w zero_point +ₚ t) here
    ∙ ring point_ring (z ∷ mirrors w zero_point ∷ []) (var 1 ⊞ num 1 ⊠ var 0) (var 0 ⊞ var 1) refl
