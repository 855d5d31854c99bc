-- What a mirror keeps and what it reflects.
use Rattle.std.proofs.Common.{◌≡◌, ℕ, suc, ◌-◌, ◌<◌, List, [], ◌∷◌, ◌++◌, length, take, refl, sym, ap, subst, ◌∙◌, ◌⊎◌, inl, inr, arith}
use Rattle.std.proofs.Math.Seq.{take-suc}
use Rattle.std.proofs.lemmas.Bool.Decides.{nat_tests}
use Rattle.ring_solver.specs.Expression.{var, num, opp, ◌⊞◌, ◌⊟◌, ◌⊠◌}
use Rattle.ring_solver.proofs.Solver.{ring, ring_by, ring_by₂}
use Rattle.edge_words.specs.Letters.{IsLetter, IsPlace, letter_at}
use Rattle.exp_sums.specs.FormalPoint.{FormalPoint, one_point, negative, conj, ◌-ₚ◌, ◌*ₚ◌}
use Rattle.exp_sums.proofs.PointRing.{point_ring, direction_times_conj, conj-conj, conj-+ₚ, conj-negative, conj-*ₚ}
use Rattle.unfolding.specs.Triangle.{IsCorner, next_corner, corner_dir, first_corner, mirror, mirrors, corner_of}
use Rattle.unfolding.specs.Corners.{IsMirrored}

-- a corner of the first triangle lies on the unit circle
pub corner_times_conj : (c : ℕ) → first_corner c *ₚ conj (first_corner c) ≡ one_point
unfolding first_corner
corner_times_conj c = direction_times_conj (corner_dir c)

-- the ends of edge d
abbrev pub start_of : ℕ → FormalPoint
start_of d = first_corner (next_corner d)

abbrev pub end_of : ℕ → FormalPoint
end_of d = first_corner (next_corner (next_corner d))

-- a mirror keeps the two ends of its edge
pub mirror-start : (d : ℕ) → mirror d (start_of d) ≡ start_of d
unfolding mirror
mirror-start d =
    ring_by point_ring (start_of d ∷ end_of d ∷ conj (start_of d) ∷ [])
    (var 0 ⊞ var 1 ⊟ var 0 ⊠ var 1 ⊠ var 2) (var 0) (opp (var 1)) (var 0 ⊠ var 2) (num 1) refl (corner_times_conj (next_corner d))

pub mirror-end : (d : ℕ) → mirror d (end_of d) ≡ end_of d
unfolding mirror
mirror-end d =
    ring_by point_ring (start_of d ∷ end_of d ∷ conj (end_of d) ∷ [])
    (var 0 ⊞ var 1 ⊟ var 0 ⊠ var 1 ⊠ var 2) (var 1) (opp (var 0)) (var 1 ⊠ var 2) (num 1) refl (corner_times_conj (next_corner (next_corner d)))

-- a corner other than d is an end of edge d
end_cases : (d c : ℕ) → IsLetter d → IsCorner c → (c ≡ d → ⊥) → (c ≡ next_corner d) ⊎ (c ≡ next_corner (next_corner d))
end_cases d c h k n = grind (arith, nat_tests)

pub mirror-kept : (d c : ℕ) → IsLetter d → IsCorner c → (c ≡ d → ⊥) → mirror d (first_corner c) ≡ first_corner c
mirror-kept d c h k n =
    elim (end_cases d c h k n) [
      | inl e ↦ subst (λ c. mirror d (first_corner c) ≡ first_corner c) (sym e) (mirror-start d)
      | inr e ↦ subst (λ c. mirror d (first_corner c) ≡ first_corner c) (sym e) (mirror-end d)
    ]

-- a mirror takes its images back
pub mirror-mirror : (d : ℕ) (z : FormalPoint) → mirror d (mirror d z) ≡ z
unfolding mirror
mirror-mirror d z =
    simp (conj-+ₚ, conj-negative, conj-*ₚ, conj-conj)
    (ring_by₂ point_ring (start_of d ∷ end_of d ∷ conj (start_of d) ∷ conj (end_of d) ∷ z ∷ [])
    (var 0 ⊞ var 1 ⊟ var 0 ⊠ var 1 ⊠ (var 2 ⊞ var 3 ⊟ var 2 ⊠ var 3 ⊠ var 4)) (var 4)
    (var 1 ⊠ var 3 ⊠ var 4 ⊟ var 1) (var 0 ⊠ var 2) (num 1)
    (var 4 ⊟ var 0) (var 1 ⊠ var 3) (num 1)
    refl (corner_times_conj (next_corner d)) (corner_times_conj (next_corner (next_corner d))))

-- the mirror images of two points are as far apart as the points, reflected
mirror-difference : (d : ℕ) (x y : FormalPoint) → mirror d x -ₚ mirror d y ≡ negative (start_of d *ₚ end_of d *ₚ conj (x -ₚ y))
unfolding mirror
mirror-difference d x y =
    simp (conj-+ₚ, conj-negative)
    (ring point_ring (start_of d ∷ end_of d ∷ conj x ∷ conj y ∷ [])
    ((var 0 ⊞ var 1 ⊟ var 0 ⊠ var 1 ⊠ var 2) ⊟ (var 0 ⊞ var 1 ⊟ var 0 ⊠ var 1 ⊠ var 3)) (opp (var 0 ⊠ var 1 ⊠ (var 2 ⊟ var 3))) refl)

-- n is the reflection of o in the line from e to f
abbrev pub IsReflected : FormalPoint → FormalPoint → FormalPoint → FormalPoint → Type 0
IsReflected n o e f = (n -ₚ e) *ₚ conj (f -ₚ e) ≡ conj (o -ₚ e) *ₚ (f -ₚ e)

-- so are their images in one more mirror
IsReflected-mirror : (d : ℕ) (n o e f : FormalPoint) → IsReflected n o e f → IsReflected (mirror d n) (mirror d o) (mirror d e) (mirror d f)
IsReflected-mirror d n o e f h =
    let back : conj (n -ₚ e) *ₚ (f -ₚ e) ≡ (o -ₚ e) *ₚ conj (f -ₚ e) =
    sym (conj-*ₚ (n -ₚ e) (conj (f -ₚ e)) ∙ ap (λ t. conj (n -ₚ e) *ₚ t) (conj-conj (f -ₚ e)))
    ∙ ap conj h
    ∙ conj-*ₚ (conj (o -ₚ e)) (f -ₚ e) ∙ ap (λ t. t *ₚ conj (f -ₚ e)) (conj-conj (o -ₚ e)) in
    rw (mirror-difference d n e, mirror-difference d f e, mirror-difference d o e)
    (simp (conj-negative, conj-*ₚ, conj-conj)
    (ring_by point_ring (start_of d ∷ end_of d ∷ conj (start_of d) ∷ conj (end_of d) ∷ conj (n -ₚ e) ∷ (f -ₚ e) ∷ (o -ₚ e) ∷ conj (f -ₚ e) ∷ [])
    (opp (var 0 ⊠ var 1 ⊠ var 4) ⊠ opp (var 2 ⊠ var 3 ⊠ var 5)) (opp (var 2 ⊠ var 3 ⊠ var 6) ⊠ opp (var 0 ⊠ var 1 ⊠ var 7))
    (var 0 ⊠ var 1 ⊠ var 2 ⊠ var 3) (var 4 ⊠ var 5) (var 6 ⊠ var 7) refl back))

IsReflected-mirrors : (w : List ℕ) (n o e f : FormalPoint) → IsReflected n o e f → IsReflected (mirrors w n) (mirrors w o) (mirrors w e) (mirrors w f)
IsReflected-mirrors [] n o e f h = h
IsReflected-mirrors (d ∷ w) n o e f h = IsReflected-mirror d (mirrors w n) (mirrors w o) (mirrors w e) (mirrors w f) (IsReflected-mirrors w n o e f h)

-- each point is reflected by the mirror, seen from either end of its edge
IsReflected-from_start : (d : ℕ) (z : FormalPoint) → IsReflected (mirror d z) z (start_of d) (end_of d)
unfolding mirror
IsReflected-from_start d z =
    simp (conj-+ₚ, conj-negative)
    (ring_by₂ point_ring (start_of d ∷ end_of d ∷ conj (start_of d) ∷ conj (end_of d) ∷ z ∷ conj z ∷ [])
    ((var 0 ⊞ var 1 ⊟ var 0 ⊠ var 1 ⊠ var 5 ⊟ var 0) ⊠ (var 3 ⊟ var 2)) ((var 5 ⊟ var 2) ⊠ (var 1 ⊟ var 0))
    (var 1 ⊠ var 5 ⊟ num 1) (var 0 ⊠ var 2) (num 1)
    (num 1 ⊟ var 0 ⊠ var 5) (var 1 ⊠ var 3) (num 1)
    refl (corner_times_conj (next_corner d)) (corner_times_conj (next_corner (next_corner d))))

IsReflected-from_end : (d : ℕ) (z : FormalPoint) → IsReflected (mirror d z) z (end_of d) (start_of d)
unfolding mirror
IsReflected-from_end d z =
    simp (conj-+ₚ, conj-negative)
    (ring_by₂ point_ring (start_of d ∷ end_of d ∷ conj (start_of d) ∷ conj (end_of d) ∷ z ∷ conj z ∷ [])
    ((var 0 ⊞ var 1 ⊟ var 0 ⊠ var 1 ⊠ var 5 ⊟ var 1) ⊠ (var 2 ⊟ var 3)) ((var 5 ⊟ var 3) ⊠ (var 0 ⊟ var 1))
    (num 1 ⊟ var 1 ⊠ var 5) (var 0 ⊠ var 2) (num 1)
    (var 0 ⊠ var 5 ⊟ num 1) (var 1 ⊠ var 3) (num 1)
    refl (corner_times_conj (next_corner d)) (corner_times_conj (next_corner (next_corner d))))

-- the last letter's mirror is the innermost
pub mirrors-snoc : (w : List ℕ) (d : ℕ) (z : FormalPoint) → mirrors (w ++ d ∷ []) z ≡ mirrors w (mirror d z)
mirrors-snoc [] d z = refl
mirrors-snoc (x ∷ w) d z = ap (mirror x) (mirrors-snoc w d z)

-- the mirrors of the first k letters are those of the first k − 1 and the k-th
pub corner_of-next : (w : List ℕ) (k c : ℕ) → IsPlace w k → corner_of w k c ≡ mirrors (take (k - 1) w) (mirror (letter_at w k) (first_corner c))
corner_of-next w k c h =
    let below : k - 1 < length w = omega (arith, h) in
    let k_is : k ≡ suc (k - 1) = omega (arith, h) in
    let split : take k w ≡ take (k - 1) w ++ letter_at w k ∷ [] = ap (λ j. take j w) k_is ∙ take-suc w (k - 1) 0 below in
    ap (λ v. mirrors v (first_corner c)) split ∙ mirrors-snoc (take (k - 1) w) (letter_at w k) (first_corner c)

-- each triangle is the mirror image of the one before it, seen from either end of the crossed edge
pub mirrored_from_start : (w : List ℕ) (k : ℕ) → IsPlace w k →
    IsMirrored (corner_of w (k - 1)) (corner_of w k) (letter_at w k) (next_corner (letter_at w k)) (next_corner (next_corner (letter_at w k)))
mirrored_from_start w k h =
    let d = letter_at w k in
    let v = take (k - 1) w in
    record {
      stands = corner_of-next w k (next_corner d) h ∙ ap (mirrors v) (mirror-start d);
      reflected =
          rw (corner_of-next w k d h)
          (IsReflected-mirrors v (mirror d (first_corner d)) (first_corner d) (start_of d) (end_of d) (IsReflected-from_start d (first_corner d)));
    }

pub mirrored_from_end : (w : List ℕ) (k : ℕ) → IsPlace w k →
    IsMirrored (corner_of w (k - 1)) (corner_of w k) (letter_at w k) (next_corner (next_corner (letter_at w k))) (next_corner (letter_at w k))
mirrored_from_end w k h =
    let d = letter_at w k in
    let v = take (k - 1) w in
    record {
      stands = corner_of-next w k (next_corner (next_corner d)) h ∙ ap (mirrors v) (mirror-end d);
      reflected =
          rw (corner_of-next w k d h)
          (IsReflected-mirrors v (mirror d (first_corner d)) (first_corner d) (end_of d) (start_of d) (IsReflected-from_end d (first_corner d)));
    }
