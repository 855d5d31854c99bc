-- Heights from one another, by the steps of a word.
use Rattle.std.proofs.Common.{◌≡◌, ℕ, ◌+◌, ◌-◌, ◌<◌, ◌≤◌, List, [], ◌∷◌, length, slice_index_or, refl, sym, ap, ap₂, subst, ◌∙◌, arith}
use Rattle.std.proofs.lemmas.List.{get_or_default}
use Rattle.ring_solver.specs.Expression.{var, ◌⊞◌, ◌⊟◌, ◌⊠◌}
use Rattle.ring_solver.proofs.Solver.{ring}
use Rattle.edge_words.specs.Letters.{IsPlace}
use Rattle.exp_sums.specs.FormalPoint.{FormalPoint, zero_point, negative, conj, ◌+ₚ◌, ◌-ₚ◌, ◌*ₚ◌}
use Rattle.exp_sums.specs.Limits.{weight, greatest_weight}
use Rattle.exp_sums.specs.SineForm.{sine_form}
use Rattle.exp_sums.proofs.PointRing.{point_ring, +ₚ_assoc, +ₚ-negative}
use Rattle.exp_sums.proofs.SineForm.{sine_forms_linear}
use Rattle.exp_sums.proofs.Weights.{weight-+ₚ}
use Rattle.unfolding.specs.Corners.{upper_corner, lower_corner}
use Rattle.unfolding.specs.Shift.{IsShift}
use Rattle.defining_functions.specs.declared.step.Step.{Step}
use Rattle.defining_functions.specs.Functions.{IsWithinFunctionLimits}
use Rattle.defining_functions.specs.Heights.{height, upper_height, lower_height}
use Rattle.defining_functions.specs.Kept.{IsSideSoFar, IsUpperHeight, IsLowerHeight}
use Rattle.defining_functions.specs.Steps.{IsStep, AreSteps}
use Rattle.defining_functions.proofs.Kept.{upper_again}

-- ---- a height and the difference of two forms
pub moved_is : (h p m a b c : FormalPoint) → a ≡ h → b ≡ a +ₚ p → c ≡ b -ₚ m → c ≡ h +ₚ (p -ₚ m)
moved_is h p m a b c is_a is_b is_c =
    is_c ∙ ap (λ z. z -ₚ m) (is_b ∙ ap (λ z. z +ₚ p) is_a) ∙ +ₚ_assoc h p (negative m)

pub moved_light : (h p m a b : FormalPoint) → IsWithinFunctionLimits h → IsWithinFunctionLimits p → IsWithinFunctionLimits m → a ≡ h → b ≡ a +ₚ p
    → weight b + weight m ≤ greatest_weight
moved_light h p m a b first second third is_a is_b =
    subst (λ z. weight z + weight m ≤ greatest_weight) (sym (is_b ∙ ap (λ z. z +ₚ p) is_a))
    (omega (arith, weight-+ₚ h p, first.light, second.light, third.light))

-- ---- the step of an edge
module _ (w : List ℕ) (i : ℕ) (forms : List FormalPoint) (steps : List Step) (s : Step) (all : AreSteps w (length w) forms steps) (place : IsPlace w (i + 1))
    (is_s : s ≡ slice_index_or steps i s) where
  pub step_at : IsStep w forms i s
  step_at = subst (IsStep w forms i) (sym is_s) (all.each.each i s (omega (arith, place.1)))

  module _ (p m : FormalPoint) (is_p : p ≡ slice_index_or forms s.plus p) (is_m : m ≡ slice_index_or forms s.minus m) where
    way_is : (v : FormalPoint) → IsShift w v → upper_height v w (i + 1) ≡ lower_height v w (i + 1) +ₚ (p -ₚ m)
    way_is v shift =
        step_at.way v p shift
        ∙ ap (λ z. lower_height v w (i + 1) +ₚ z)
        (ap₂ ◌-ₚ◌ (sym is_p) (get_or_default forms s.minus p m step_at.minus ∙ sym is_m))

    -- the upper height, from the lower one
    pub upper_by_step : (l f : FormalPoint) → IsLowerHeight w i l → f ≡ l +ₚ (p -ₚ m) → IsUpperHeight w i f
    upper_by_step l f lower is v shift = is ∙ ap (λ z. z +ₚ (p -ₚ m)) (lower v shift) ∙ sym (way_is v shift)

    -- the lower height, from the upper one, where that is of the edge before
    pub lower_by_step : (u f : FormalPoint) → 0 < i → upper_corner w (i + 1) ≡ upper_corner w i → IsUpperHeight w (i - 1) u → f ≡ u +ₚ (m -ₚ p)
        → IsLowerHeight w i f
    lower_by_step u f some same upper is v shift =
        is
        ∙ ap (λ z. z +ₚ (m -ₚ p)) (upper_again w i some same u upper v shift ∙ way_is v shift)
        ∙ ring point_ring (lower_height v w (i + 1) ∷ p ∷ m ∷ []) (var 0 ⊞ (var 1 ⊟ var 2) ⊞ (var 2 ⊟ var 1)) (var 0) refl

-- the first lower height is 0
pub first_lower : (w : List ℕ) (i : ℕ) (f : FormalPoint) → i ≡ 0 → f ≡ zero_point → IsLowerHeight w i f
unfolding height
first_lower w i f first is v shift =
    let t = conj v in
    let o = lower_corner w 1 in
    let here : lower_corner w (i + 1) ≡ o = ap (λ j. lower_corner w (j + 1)) first in
    is
    ∙ sym (+ₚ-negative (sine_form (t *ₚ o)))
    ∙ sym (sine_forms_linear.of_difference (t *ₚ o) (t *ₚ o))
    ∙ ap sine_form (ring point_ring (t ∷ o ∷ []) (var 0 ⊠ var 1 ⊟ var 0 ⊠ var 1) (var 0 ⊠ (var 1 ⊟ var 1)) refl)
    ∙ ap (λ z. sine_form (t *ₚ (z -ₚ o))) (sym here)

-- ---- the last height of a side
module _ (IsWanted : ℕ → FormalPoint → Type 0) (n : ℕ) (heights : List FormalPoint) (places : List ℕ) (h : IsSideSoFar IsWanted n heights places)
    (some : 0 < n) (p : FormalPoint) (is : (q : FormalPoint) → p ≡ slice_index_or heights (length heights - 1) q) where
  pub last_wanted : IsWanted (n - 1) p
  last_wanted = subst (IsWanted (n - 1)) (sym (is p)) ((h.last some).is p)

  pub last_limits : IsWithinFunctionLimits p
  last_limits = subst IsWithinFunctionLimits (sym (is p)) (h.side.limits (length heights - 1) p (h.last some).in_range)
