-- Boxes in the picture of a covering.
use Rattle.std.proofs.Common.{◌≡◌, sym, ap, ◌∙◌, ℕ, ◌+◌, ◌-◌, ◌*◌, ◌^◌, ◌<◌, ◌≤◌, subst, arith}
use Rattle.std.proofs.Math.Nat.{mul-le-mul_right}
use Rattle.std.proofs.lemmas.Nat.{pow-add}
use Rattle.svg_pictures.specs.CoveringPicture.{side_at}

-- as many sides as there are boxes in a row make the whole
sides_make_all : (level : ℕ) → level ≤ 20 → 2 ^ level * side_at level ≡ 2 ^ 20
sides_make_all level low =
    let all : level + (20 - level) ≡ 20 = omega (arith, low) in
    sym (pow-add 2 level (20 - level)) ∙ ap (λ (k : ℕ). 2 ^ k) all

-- the farther side of a box is within the unit square
pub far_side_within : (i level side : ℕ) → level ≤ 20 → i < 2 ^ level → side ≡ side_at level → (i + 1) * side ≤ 2 ^ 20
far_side_within i level side low within is =
    let next : i + 1 ≤ 2 ^ level = omega (arith, within) in
    let most : (i + 1) * side_at level ≤ 2 ^ 20 =
    subst (λ (n : ℕ). (i + 1) * side_at level ≤ n) (sides_make_all level low) (mul-le-mul_right (side_at level) next) in
    subst (λ (s : ℕ). (i + 1) * s ≤ 2 ^ 20) (sym is) most

-- and so is the nearer one
pub near_side_within : (i level side : ℕ) → level ≤ 20 → i < 2 ^ level → side ≡ side_at level → i * side ≤ 2 ^ 20
near_side_within i level side low within is =
    let far = far_side_within i level side low within is in
    let nearer : i * side ≤ (i + 1) * side = mul-le-mul_right side (omega arith) in
    omega (arith, far, nearer)
