-- Corners as they are seen from the centres: the walk is the nested mirrors.
use Rattle.std.proofs.Common.{◌≡◌, ℕ, Bool, true, false, not, List, [], ◌∷◌, ◌++◌, pos, neg_ℤ, ◌*ℤ◌, refl, ap, ap₂, ◌∙◌}
use Rattle.ring_solver.specs.Expression.{var, num, opp, ◌⊞◌, ◌⊟◌, ◌⊠◌}
use Rattle.ring_solver.proofs.Solver.{ring}
use Rattle.exp_sums.specs.declared.direction.Dir.{Dir}
use Rattle.exp_sums.specs.FormalPoint.{FormalPoint, monomial, zero_point, negative, conj, dir_sum, dir_neg, ◌+ₚ◌, ◌-ₚ◌, ◌*ₚ◌}
use Rattle.exp_sums.proofs.PointRing.{point_ring, monomial-negative, monomial-*ₚ, monomial-conj, conj-+ₚ, conj-whole_point}
use Rattle.unfolding.specs.Triangle.{next_corner, corner_dir, first_corner, mirror, mirrors}
use Rattle.unfolding.specs.Signed.{sign_of, signed_point}
use Rattle.unfolding.specs.Walk.{is_reversed, mirrored_dir, seen_of}
use Rattle.unfolding.proofs.Mirrors.{start_of, end_of, mirrors-snoc}

sign_of-not : (b : Bool) → neg_ℤ (pos 1 *ℤ pos 1 *ℤ sign_of b) ≡ sign_of (not b)
sign_of-not true = refl
sign_of-not false = refl

-- a direction as it is seen from the centre, after the mirrors of a word
abbrev seen_point : List ℕ → Dir → FormalPoint
seen_point w e = monomial (sign_of (is_reversed w)) (mirrored_dir w e)

seen_point-cons : (d : ℕ) (w : List ℕ) (e : Dir) → negative (start_of d *ₚ end_of d *ₚ conj (seen_point w e)) ≡ seen_point (d ∷ w) e
unfolding first_corner
seen_point-cons d w e =
    let s = sign_of (is_reversed w) in
    let p = corner_dir (next_corner d) in
    let q = corner_dir (next_corner (next_corner d)) in
    ap negative
    (ap₂ ◌*ₚ◌ (monomial-*ₚ (pos 1) (pos 1) p q) (monomial-conj s (mirrored_dir w e))
    ∙ monomial-*ₚ (pos 1 *ℤ pos 1) s (dir_sum p q) (dir_neg (mirrored_dir w e)))
    ∙ monomial-negative (pos 1 *ℤ pos 1 *ℤ s) (dir_sum (dir_sum p q) (dir_neg (mirrored_dir w e)))
    ∙ ap (λ c. monomial c (dir_sum (dir_sum p q) (dir_neg (mirrored_dir w e)))) (sign_of-not (is_reversed w))

-- what is added inside a mirror comes out reflected
pub mirror-+ₚ : (d : ℕ) (x y : FormalPoint) → mirror d (x +ₚ y) ≡ mirror d x +ₚ negative (start_of d *ₚ end_of d *ₚ conj y)
unfolding mirror
mirror-+ₚ d x y =
    simp conj-+ₚ
    (ring point_ring (start_of d ∷ end_of d ∷ conj x ∷ conj y ∷ [])
    (var 0 ⊞ var 1 ⊟ var 0 ⊠ var 1 ⊠ (var 2 ⊞ var 3)) (var 0 ⊞ var 1 ⊟ var 0 ⊠ var 1 ⊠ var 2 ⊞ opp (var 0 ⊠ var 1 ⊠ var 3)) refl)

-- a direction added inside the mirrors of a word comes out as it is seen from the centre
pub mirrors-+ₚ : (w : List ℕ) (x : FormalPoint) (e : Dir) → mirrors w (x +ₚ monomial (pos 1) e) ≡ mirrors w x +ₚ seen_point w e
mirrors-+ₚ [] x e = refl
mirrors-+ₚ (d ∷ w) x e =
    ap (mirror d) (mirrors-+ₚ w x e)
    ∙ mirror-+ₚ d (mirrors w x) (seen_point w e)
    ∙ ap (λ t. mirror d (mirrors w x) +ₚ t) (seen_point-cons d w e)

-- a corner is the centre and the corner as it is seen from there
pub corner_is_seen : (w : List ℕ) (c : ℕ) → mirrors w (first_corner c) ≡ mirrors w zero_point +ₚ signed_point (seen_of w c)
unfolding first_corner
corner_is_seen w c =
    ap (mirrors w) (ring point_ring (monomial (pos 1) (corner_dir c) ∷ []) (var 0) (num 0 ⊞ var 0) refl)
    ∙ mirrors-+ₚ w zero_point (corner_dir c)

mirror-zero_point : (d : ℕ) → mirror d zero_point ≡ zero_point +ₚ start_of d +ₚ end_of d
unfolding mirror
mirror-zero_point d =
    ap (λ z. start_of d +ₚ end_of d -ₚ start_of d *ₚ end_of d *ₚ z) (conj-whole_point 0)
    ∙ ring point_ring (start_of d ∷ end_of d ∷ []) (var 0 ⊞ var 1 ⊟ var 0 ⊠ var 1 ⊠ num 0) (num 0 ⊞ var 0 ⊞ var 1) refl

-- the next centre is the old one and the two ends of the crossed edge, as they are seen from there
pub centre-snoc : (w : List ℕ) (d : ℕ) →
    mirrors (w ++ d ∷ []) zero_point ≡ mirrors w zero_point +ₚ signed_point (seen_of w (next_corner d)) +ₚ signed_point (seen_of w
    (next_corner (next_corner d)))
unfolding first_corner
centre-snoc w d =
    let p = corner_dir (next_corner d) in
    let q = corner_dir (next_corner (next_corner d)) in
    mirrors-snoc w d zero_point
    ∙ ap (mirrors w) (mirror-zero_point d)
    ∙ mirrors-+ₚ w (zero_point +ₚ monomial (pos 1) p) q
    ∙ ap (λ t. t +ₚ signed_point (seen_of w (next_corner (next_corner d)))) (mirrors-+ₚ w zero_point p)
