-- What is computed with pairs is the same for pairs with equal cross products.
use Rattle.std.proofs.Common.{◌≡◌, sym, refl, ◌*◌, Bool, true, false, T, pos, ◌*ℤ◌, ◌≤ℤ◌, [], ◌∷◌, mul-pos, arith}
use Rattle.std.specs.Int.Signed.{le_z_yes}
use Rattle.ring_solver.specs.Expression.{var, num, ◌⊞◌, ◌⊠◌, opp}
use Rattle.ring_solver.specs.Ordered.{times, same}
use Rattle.ring_solver.proofs.Solver.{ring_by, ring_by₂}
use Rattle.ring_solver.proofs.Certificate.{certified}
use Rattle.ring_solver.proofs.Whole.{ℤ_ring, ℤ_ordered, pos_le, *ℤ_mono_back}
use Rattle.ring_solver.proofs.Division.{div_euclid_same}
use Rattle.rat_core.specs.Ratio.{Ratio, IsSame, sum_of, product_of, minus_of, is_at_most, floor_of}

pub same_sum : (a a' b b' : Ratio) → IsSame a a' → IsSame b b' → IsSame (sum_of a b) (sum_of a' b')
same_sum a a' b b' =
    ring_by₂ ℤ_ring (a.num ∷ pos a.den ∷ a'.num ∷ pos a'.den ∷ b.num ∷ pos b.den ∷ b'.num ∷ pos b'.den ∷ [])
    ((var 0 ⊠ var 5 ⊞ var 4 ⊠ var 1) ⊠ (var 3 ⊠ var 7)) ((var 2 ⊠ var 7 ⊞ var 6 ⊠ var 3) ⊠ (var 1 ⊠ var 5))
    (var 5 ⊠ var 7) (var 0 ⊠ var 3) (var 2 ⊠ var 1) (var 1 ⊠ var 3) (var 4 ⊠ var 7) (var 6 ⊠ var 5) refl

pub same_product : (a a' b b' : Ratio) → IsSame a a' → IsSame b b' → IsSame (product_of a b) (product_of a' b')
same_product a a' b b' =
    ring_by₂ ℤ_ring (a.num ∷ pos a.den ∷ a'.num ∷ pos a'.den ∷ b.num ∷ pos b.den ∷ b'.num ∷ pos b'.den ∷ [])
    ((var 0 ⊠ var 4) ⊠ (var 3 ⊠ var 7)) ((var 2 ⊠ var 6) ⊠ (var 1 ⊠ var 5))
    (var 4 ⊠ var 7) (var 0 ⊠ var 3) (var 2 ⊠ var 1) (var 2 ⊠ var 1) (var 4 ⊠ var 7) (var 6 ⊠ var 5) refl

pub same_minus : (a a' : Ratio) → IsSame a a' → IsSame (minus_of a) (minus_of a')
same_minus a a' =
    ring_by ℤ_ring (a.num ∷ pos a.den ∷ a'.num ∷ pos a'.den ∷ [])
    (opp (var 0) ⊠ var 3) (opp (var 2) ⊠ var 1) (opp (num 1)) (var 0 ⊠ var 3) (var 2 ⊠ var 1) refl

-- tests that say the same are the same
same_test : (x y : Bool) → (T x → T y) → (T y → T x) → x ≡ y
same_test true true h k = refl
same_test true false h k = absurd (h tt)
same_test false true h k = absurd (k tt)
same_test false false h k = refl

-- an order is kept: its sides times a' and b' are those of the other order times a and b
kept : (a a' b b' : Ratio) → IsSame a a' → IsSame b b' → T (is_at_most a b) → T (is_at_most a' b')
kept a a' b b' h k t =
    let order : (a'.num *ℤ pos b'.den) ≤ℤ (b'.num *ℤ pos a'.den) =
    *ℤ_mono_back (a'.num *ℤ pos b'.den) (b'.num *ℤ pos a'.den) (a.den * b.den) (mul-pos a.den_pos b.den_pos)
    (certified ℤ_ordered (a.num ∷ pos a.den ∷ a'.num ∷ pos a'.den ∷ b.num ∷ pos b.den ∷ b'.num ∷ pos b'.den ∷ []) ((var 2 ⊠ var 7) ⊠ (var 1 ⊠ var 5))
    ((var 6 ⊠ var 3) ⊠ (var 1 ⊠ var 5))
    (times (var 3 ⊠ var 7) (var 0 ⊠ var 5) (var 4 ⊠ var 1) ∷ same (var 5 ⊠ var 7) (var 2 ⊠ var 1) (var 0 ⊠ var 3) ∷ same (var 1 ⊠ var 3)
    (var 4 ⊠ var 7) (var 6 ⊠ var 5) ∷ []) refl
    (pos_le 0 (a'.den * b'.den) (omega arith), le_z_yes t, (sym h, (k, tt)))) in
    order.le

pub same_at_most : (a a' b b' : Ratio) → IsSame a a' → IsSame b b' → is_at_most a b ≡ is_at_most a' b'
same_at_most a a' b b' h k = same_test (is_at_most a b) (is_at_most a' b') (kept a a' b b' h k) (kept a' a b' b (sym h) (sym k))

pub same_floor : (a a' : Ratio) → IsSame a a' → floor_of a ≡ floor_of a'
same_floor a a' = div_euclid_same a.num a'.num a.den a'.den a.den_pos a'.den_pos
