-- Margins: a slack above 0 gives a corridor at a point, and a slack in units.
use Rattle.std.proofs.Common.{◌≡◌, refl, ap, ◌∙◌, ℕ, ◌+◌, ◌-◌, ◌^◌, ◌≤◌, pos, [], ◌∷◌, arith}
use Rattle.std.proofs.lemmas.Nat.{pow-add, pow_pos}
use Rattle.ring_solver.specs.Expression.{num, ◌⊠◌}
use Rattle.ring_solver.specs.Ordered.{times}
use Rattle.ring_solver.proofs.Solver.{ring₂, ring₄}
use Rattle.ring_solver.proofs.Certificate.{le₂}
use Rattle.rat_core.specs.Fraction.{ℚ, whole, ◌*ℚ◌, ◌<ℚ◌}
use Rattle.rat_core.proofs.Laws.{ℚ_ring, ℚ_ordered, lt_le, int-mul, over-mul}
use Rattle.rat_core.proofs.Order.{lt_le_trans, whole_le, over_positive}
use Rattle.exp_sums.specs.FormalPoint.{FormalPoint}
use Rattle.exp_sums.specs.Limits.{weight}
use Rattle.trig_meaning.specs.Value.{IsPositiveAt}
use Rattle.defining_functions.specs.Functions.{defining_function}
use Rattle.gradient_bounds.specs.Clear.{slack, margin, IsClearFunction}
use Rattle.gradient_bounds.specs.Laws.{ClearAtPointGivesCorridor}

-- ---- a corridor

pub margin_positive : (e : ℚ) (f : FormalPoint) → whole 0 <ℚ e → whole 0 <ℚ margin e f
margin_positive e f h =
    let u = whole (1 + weight f) in
    lt_le_trans (whole 0) e (e *ℚ u) h
    (le₂ ℚ_ordered (λ e u. e) (λ e u. e ⊠ u) (λ e u. times e (num 1) u ∷ []) refl e u (lt_le (whole 0) e h, whole_le 1 (1 + weight f) (omega arith), tt))

clear_is_positive : (f : FormalPoint) (x y e : ℚ) → whole 0 <ℚ e → IsClearFunction x y e f → IsPositiveAt f x y
clear_is_positive f x y e h k = (margin e f, margin_positive e f h, k)

pub clear_at_point_gives_corridor_lem : ClearAtPointGivesCorridor
clear_at_point_gives_corridor_lem w x y e h k =
    record {
      stable = k.stable;
      shift = k.shift;
      is_shift = k.is_shift;
      each = λ i j p q. clear_is_positive (defining_function k.shift w i j) x y e h (k.each i j p q);
    }

pub slack_positive : (bits : ℕ) → whole 0 <ℚ slack bits
slack_positive bits = over_positive 1 (2 ^ bits) (omega arith) (pow_pos bits)

-- ---- margins in units

-- a slack in units of 2^-bits
pub slack_units : (bits low : ℕ) (u : ℚ) → low ≤ bits → slack low *ℚ u *ℚ whole (2 ^ bits) ≡ whole (2 ^ (bits - low)) *ℚ u
slack_units bits low u h =
    let s = slack low in
    let U = whole (2 ^ (bits - low)) in
    let L = whole (2 ^ low) in
    let split : bits ≡ (bits - low) + low = omega arith in
    let parts : whole (2 ^ bits) ≡ U *ℚ L = ap (λ b. whole (2 ^ b)) split ∙ ap whole (pow-add 2 (bits - low) low)
    ∙ int-mul (pos (2 ^ (bits - low))) (pos (2 ^ low)) in
    ap (λ t. s *ℚ u *ℚ t) parts
    ∙ ring₄ ℚ_ring (λ s u U L. s ⊠ u ⊠ (U ⊠ L)) (λ s u U L. (s ⊠ L) ⊠ (U ⊠ u)) refl s u U L
    ∙ ap (λ t. t *ℚ (U *ℚ u)) (over-mul (pos 1) (2 ^ low) (pow_pos low))
    ∙ ring₂ ℚ_ring (λ U u. num 1 ⊠ (U ⊠ u)) (λ U u. U ⊠ u) refl U u
