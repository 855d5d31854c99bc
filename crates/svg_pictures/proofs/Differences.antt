-- Two whole numbers that stand for one coordinate.
use Rattle.std.proofs.Common.{refl, sym, subst₂, [], ◌∷◌, ℤ, pos, ◌+ℤ◌, ◌≤ℤ◌}
use Rattle.ring_solver.specs.Expression.{num, ◌⊞◌, ◌⊟◌, opp}
use Rattle.ring_solver.specs.Ordered.{le}
use Rattle.ring_solver.proofs.Certificate.{le₃}
use Rattle.rat_core.specs.Fraction.{ℚ, ◌÷◌, whole, ◌+ℚ◌, ◌-ℚ◌, neg_ℚ, ◌≤ℚ◌, abs}
use Rattle.rat_core.proofs.Laws.{ℚ_ordered, int-add, le_trans}
use Rattle.rat_core.proofs.Order.{int_le_back, le_abs, neg_le_abs}
use Rattle.trig_meaning.proofs.FromSomeOnLaws.{onward_both, somewhere}
use Rattle.svg_pictures.specs.Laws.{NumbersDifferByTwo}

near : (z z' : ℤ) (v : ℚ) → abs (z ÷ 1 -ℚ v) ≤ℚ whole 1 → abs (z' ÷ 1 -ℚ v) ≤ℚ whole 1 → z' ≤ℤ (z +ℤ pos 2)
near z z' v h k =
    let above : z' ÷ 1 -ℚ v ≤ℚ whole 1 = le_trans (z' ÷ 1 -ℚ v) (abs (z' ÷ 1 -ℚ v)) (whole 1) (le_abs (z' ÷ 1 -ℚ v)) k in
    let below : neg_ℚ (z ÷ 1 -ℚ v) ≤ℚ whole 1 = le_trans (neg_ℚ (z ÷ 1 -ℚ v)) (abs (z ÷ 1 -ℚ v)) (whole 1) (neg_le_abs (z ÷ 1 -ℚ v)) h in
    let all : z' ÷ 1 ≤ℚ z ÷ 1 +ℚ whole 2 =
    le₃ ℚ_ordered (λ a b v. b) (λ a b v. a ⊞ num 2) (λ a b v. le (b ⊟ v) (num 1) ∷ le (opp (a ⊟ v)) (num 1) ∷ []) refl (z ÷ 1) (z' ÷ 1) v
    (above, (below, tt))
    in
    int_le_back z' (z +ℤ pos 2) (subst₂ (λ s t. s ≤ℚ t) refl (sym (int-add z (pos 2))) all)

pub differ_by_two : NumbersDifferByTwo
differ_by_two v z z' h k = (somewhere (onward_both (λ n first second. near z z' (v n) first second) h k)).1
