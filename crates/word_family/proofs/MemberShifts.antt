-- The shifts of members. The mirrors of a stable list of even length are a translation, so b moves what comes after it by one vector, however
-- often it is written; the mirrors of a show that vector as it is seen after them.
use Rattle.std.proofs.Common.{◌≡◌, ℕ, zero, suc, List, [], ◌∷◌, ◌++◌, length, refl, sym, ap, ap₂, subst₂, ◌∙◌, arith}
use Rattle.std.proofs.lemmas.List.{take_all}
use Rattle.ring_solver.specs.Expression.{var, num, ◌⊞◌, ◌⊠◌}
use Rattle.ring_solver.proofs.Solver.{ring}
use Rattle.exp_sums.specs.FormalPoint.{FormalPoint, whole_point, zero_point, ◌+ₚ◌, ◌-ₚ◌, ◌*ₚ◌}
use Rattle.exp_sums.proofs.PointRing.{point_ring, +ₚ_assoc}
use Rattle.unfolding.specs.Triangle.{first_corner, mirrors, centre_of}
use Rattle.unfolding.proofs.Translations.{mirrors-append, mirrors_multiple, translation, whole_point-suc}
use Rattle.word_family.specs.Family.{Parts, times_written, member, AreParts, AreEven, IsFamily, IsStableFamily, AreShiftsOf}
use Rattle.word_family.proofs.Members.{member-even, member-letters}
use Rattle.word_family.proofs.MemberStability.{stable_between}

-- a translation, so many times
times_moved : (b : List ℕ) → ((z : FormalPoint) → mirrors b z ≡ z +ₚ mirrors b zero_point) → (n : ℕ) (z : FormalPoint)
    → mirrors (times_written n b) z ≡ z +ₚ whole_point n *ₚ mirrors b zero_point
times_moved b moves zero z = ring point_ring (z ∷ mirrors b zero_point ∷ []) (var 0) (var 0 ⊞ num 0 ⊠ var 1) refl
times_moved b moves (suc n) z =
    let t = mirrors b zero_point in
    mirrors-append b (times_written n b) z
    ∙ ap (mirrors b) (times_moved b moves n z)
    ∙ moves (z +ₚ whole_point n *ₚ t)
    ∙ ring point_ring (z ∷ whole_point n *ₚ t ∷ t ∷ []) (var 0 ⊞ var 1 ⊞ var 2) (var 0 ⊞ (var 1 ⊞ var 2)) refl
    ∙ ap (λ v. z +ₚ v) (sym (whole_point-suc n t))

-- the centre after all letters
centre_at_end : (w : List ℕ) → mirrors w zero_point ≡ centre_of w (length w)
centre_at_end w = ap (λ v. mirrors v zero_point) (sym (take_all (length w) w (omega arith)))

-- the shift of a c, and the way from the centre after a to that after a b
pub base_of : Parts → FormalPoint
base_of f = centre_of (member f 0) (length (member f 0))

pub step_of : Parts → FormalPoint
step_of f = centre_of (f.first ++ f.middle) (length (f.first ++ f.middle)) -ₚ centre_of f.first (length f.first)

step_is : (f : Parts) → mirrors f.first (mirrors f.middle zero_point) -ₚ mirrors f.first zero_point ≡ step_of f
unfolding step_of
step_is f =
    ap₂ ◌-ₚ◌ (sym (mirrors-append f.first f.middle zero_point) ∙ centre_at_end (f.first ++ f.middle)) (centre_at_end f.first)

pub member_shifts : (f : Parts) → AreParts f → AreEven f → IsStableFamily f → AreShiftsOf f (base_of f) (step_of f)
unfolding base_of
member_shifts f parts even stable n some c corner =
    let between = stable_between f even stable in
    let p = first_corner c in
    let t = mirrors f.middle zero_point in
    let moves = translation f.middle parts.middle.letters even.middle between.middle in
    let w = member f n in
    let step = mirrors f.first t -ₚ mirrors f.first zero_point in
    ap (λ v. mirrors v p) (take_all (length w) w (omega arith))
    ∙ mirrors-append f.first (times_written n f.middle ++ f.last) p
    ∙ ap (mirrors f.first) (mirrors-append (times_written n f.middle) f.last p ∙ times_moved f.middle moves n (mirrors f.last p))
    ∙ mirrors_multiple f.first n (mirrors f.last p) t
    ∙ ap (λ z. z +ₚ whole_point n *ₚ step)
    (sym (mirrors-append f.first f.last p) ∙ translation (member f 0) (member-letters f 0 parts) (member-even f 0 even) between.ends p)
    ∙ +ₚ_assoc p (mirrors (member f 0) zero_point) (whole_point n *ₚ step)
    ∙ ap₂ (λ u v. p +ₚ (u +ₚ whole_point n *ₚ v)) (centre_at_end (member f 0)) (step_is f)

-- the same with lists and points that are made one after another
pub shifts_are : (f : Parts) → IsFamily f → IsStableFamily f → (ac a ab : List ℕ) → ac ≡ member f 0 → a ≡ f.first → ab ≡ f.first ++ f.middle →
    (base before step shift : FormalPoint) → base ≡ centre_of ac (length ac) → before ≡ centre_of a (length a) → step ≡ centre_of ab (length ab) →
    shift ≡ step -ₚ before → AreShiftsOf f base shift
unfolding base_of step_of
shifts_are f is stable ac a ab ac_is a_is ab_is base before step shift base_is before_is step_is shift_is =
    let end : List ℕ → FormalPoint = λ w. centre_of w (length w) in
    subst₂ (AreShiftsOf f)
    (sym (base_is ∙ ap end ac_is))
    (sym (shift_is ∙ ap₂ ◌-ₚ◌ (step_is ∙ ap end ab_is) (before_is ∙ ap end a_is)))
    (member_shifts f is.parts is.even stable)
