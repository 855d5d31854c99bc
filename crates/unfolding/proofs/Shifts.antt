-- Where a word has a shift.
use Rattle.std.proofs.Common.{◌≡◌, ℕ, ◌%◌, Bool, true, false, List, [], ◌∷◌, length, ℤ, pos, negsuc, ◌+ℤ◌, if◌then◌else◌, refl, sym, ap, ap₂, ◌∙◌, arith}
use Rattle.std.proofs.lemmas.Int.{ints}
use Rattle.std.proofs.lemmas.List.{take_all}
use Rattle.std.specs.List.{All}
use Rattle.ring_solver.specs.Expression.{var, num, opp, ◌⊞◌}
use Rattle.ring_solver.proofs.Solver.{ring_by, ring_by₂}
use Rattle.edge_words.specs.Letters.{IsLetter}
use Rattle.edge_words.specs.Stable.{IsStable}
use Rattle.exp_sums.specs.Terms.{is_same_dir}
use Rattle.exp_sums.specs.FormalPoint.{FormalPoint, coefficient, monomial, zero_point, ◌+ₚ◌}
use Rattle.exp_sums.proofs.PointRing.{point_ring, +ₚ_comm}
use Rattle.exp_sums.proofs.Directions.{is_same_dir-Decides}
use Rattle.exp_sums.proofs.SamePoint.{coefficient-+ₚ, coefficient-monomial}
use Rattle.unfolding.specs.Triangle.{corner_dir, first_corner, mirrors, corner_of}
use Rattle.unfolding.specs.Shift.{IsShift, HasShift}
use Rattle.unfolding.specs.Walk.{mirrored_dir}
use Rattle.unfolding.proofs.MirroredDirs.{is_reversed-even, mirrored_from_stable, stable_from_mirrored}
use Rattle.unfolding.proofs.Seen.{corner_is_seen}

-- two shifts move the first corner to the same place
pub same_shift : (w : List ℕ) (u v : FormalPoint) → IsShift w u → IsShift w v → u ≡ v
same_shift w u v h k =
    let moved : first_corner 1 +ₚ u ≡ first_corner 1 +ₚ v = sym (h 1 (omega arith, omega arith)) ∙ k 1 (omega arith, omega arith) in
    ring_by point_ring (u ∷ v ∷ first_corner 1 ∷ []) (var 0) (var 1) (num 1) (var 2 ⊞ var 0) (var 2 ⊞ var 1) refl moved

-- a corner of the last triangle, after an even number of mirrors
last_corner : (w : List ℕ) (c : ℕ) → length w % 2 ≡ 0 → corner_of w (length w) c ≡ mirrors w zero_point +ₚ monomial (pos 1) (mirrored_dir w (corner_dir c))
last_corner w c even =
    ap (λ v. mirrors v (first_corner c)) (take_all (length w) w (omega arith))
    ∙ corner_is_seen w c
    ∙ ap (λ b. mirrors w zero_point +ₚ monomial (if b then negsuc 0 else pos 1) (mirrored_dir w (corner_dir c))) (is_reversed-even w even)

-- the centre of the last triangle is the shift of a stable word
pub shift_from_stable : (w : List ℕ) → All IsLetter w → length w % 2 ≡ 0 → IsStable w → IsShift w (mirrors w zero_point)
unfolding first_corner
shift_from_stable w h even stable c corner =
    last_corner w c even
    ∙ ap (λ e. mirrors w zero_point +ₚ monomial (pos 1) e) (mirrored_from_stable w (corner_dir c) h even stable)
    ∙ +ₚ_comm (mirrors w zero_point) (first_corner c)

-- 1 where b, and else 0
abbrev bit : Bool → ℤ
bit b = if b then pos 1 else pos 0

the_greater : (a b : Bool) → bit a +ℤ pos 0 ≡ bit b +ℤ pos 1 → a ≡ true
the_greater true b h = refl
the_greater false true h = absurd (omega (arith, ints, h))
the_greater false false h = absurd (omega (arith, ints, h))

-- a shift brings corner 1 back to its direction, since the coefficients at that direction agree
pub mirrored_from_shift : (w : List ℕ) → length w % 2 ≡ 0 → HasShift w → mirrored_dir w (corner_dir 1) ≡ corner_dir 1
unfolding first_corner
mirrored_from_shift w even (v, shift) =
    let d = corner_dir 1 in
    let t = mirrored_dir w d in
    let t' = mirrored_dir w (corner_dir 2) in
    let one : mirrors w zero_point +ₚ monomial (pos 1) t ≡ first_corner 1 +ₚ v = sym (last_corner w 1 even) ∙ shift 1 (omega arith, omega arith) in
    let two : mirrors w zero_point +ₚ monomial (pos 1) t' ≡ first_corner 2 +ₚ v = sym (last_corner w 2 even) ∙ shift 2 (omega arith, omega arith) in
    let points : monomial (pos 1) t +ₚ first_corner 2 ≡ monomial (pos 1) t' +ₚ first_corner 1 =
    ring_by₂ point_ring (mirrors w zero_point ∷ monomial (pos 1) t ∷ monomial (pos 1) t' ∷ first_corner 1 ∷ first_corner 2 ∷ v ∷ [])
    (var 1 ⊞ var 4) (var 2 ⊞ var 3) (num 1) (var 0 ⊞ var 1) (var 3 ⊞ var 5) (opp (num 1)) (var 0 ⊞ var 2) (var 4 ⊞ var 5) refl one two in
    let here : bit (is_same_dir d t) +ℤ pos 0 ≡ bit (is_same_dir d t') +ℤ pos 1 =
    sym (coefficient-+ₚ (monomial (pos 1) t) (first_corner 2) d ∙ ap₂ ◌+ℤ◌ (coefficient-monomial (pos 1) t d) (coefficient-monomial (pos 1) (corner_dir 2) d))
    ∙ ap (λ p. coefficient p d) points
    ∙ coefficient-+ₚ (monomial (pos 1) t') (first_corner 1) d ∙ ap₂ ◌+ℤ◌ (coefficient-monomial (pos 1) t' d) (coefficient-monomial (pos 1) (corner_dir 1) d) in
    sym ((is_same_dir-Decides d t).0 (the_greater (is_same_dir d t) (is_same_dir d t') here))

pub stable_from_shift : (w : List ℕ) → All IsLetter w → length w % 2 ≡ 0 → HasShift w → IsStable w
stable_from_shift w h even shift = stable_from_mirrored w (corner_dir 1) h even (mirrored_from_shift w even shift)
