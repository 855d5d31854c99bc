-- How large shifts, corners and defining functions are.
use Rattle.std.proofs.Common.{◌≡◌, ℕ, ◌*◌, ◌-◌, ◌≤◌, List, length, sym, ap, subst, ◌∙◌, arith}
use Rattle.std.proofs.Math.Nat.{mul-le-mul_left, mul-le-mul_right}
use Rattle.std.proofs.lemmas.List.{take_all}
use Rattle.edge_words.specs.Letters.{IsPlace}
use Rattle.edge_words.specs.Word.{IsWord}
use Rattle.exp_sums.specs.FormalPoint.{FormalPoint, terms, zero_point, conj, ◌-ₚ◌, ◌*ₚ◌}
use Rattle.exp_sums.specs.SineForm.{sine_form}
use Rattle.exp_sums.specs.Limits.{weight, IsWithin, greatest_weight}
use Rattle.exp_sums.proofs.Weights.{weight-conj, weight-*ₚ, weight_difference}
use Rattle.exp_sums.proofs.Within.{IsWithin-conj, IsWithin_difference, IsWithin-*ₚ}
use Rattle.exp_sums.specs.Bend.{bend}
use Rattle.exp_sums.proofs.Reach.{reach_le}
use Rattle.exp_sums.proofs.Bend.{bend_le}
use Rattle.exp_sums.proofs.SineLimits.{weight-sine_form, IsWithin-sine_form}
use Rattle.exp_sums.proofs.ProductLimits.{sums_near}
use Rattle.exp_sums.specs.Products.{SumsAreNear}
use Rattle.unfolding.specs.Triangle.{mirrors, corner_of, centre_of}
use Rattle.unfolding.specs.Corners.{upper_corner, lower_corner}
use Rattle.unfolding.specs.Shift.{IsShift}
use Rattle.unfolding.proofs.Shifts.{same_shift, shift_from_stable, stable_from_shift}
use Rattle.unfolding.proofs.Bounds.{weight-centre, within-centre, weight-corner, within-corner, ends_apart}
use Rattle.defining_functions.specs.Functions.{defining_function, IsWithinFunctionLimits}
use Rattle.defining_functions.specs.Heights.{height, upper_height, lower_height}
use Rattle.defining_functions.specs.Kept.{IsSmall}

-- the shift is the centre of the last triangle
shift_is_centre : (w : List ℕ) (v : FormalPoint) → IsWord w → IsShift w v → v ≡ centre_of w (length w)
shift_is_centre w v word shift =
    let stable = stable_from_shift w word.letters word.even_length.even (v, shift) in
    same_shift w v (mirrors w zero_point) shift (shift_from_stable w word.letters word.even_length.even stable)
    ∙ ap (λ u. mirrors u zero_point) (sym (take_all (length w) w (omega arith)))

pub shift_small : (w : List ℕ) (v : FormalPoint) → IsWord w → IsShift w v → IsSmall v
shift_small w v word shift =
    let light = weight-centre w (length w) (omega arith) in
    subst IsSmall (sym (shift_is_centre w v word shift)) (record {
      light = omega (arith, light, word.even_length.at_most);
      within = within-centre w (length w) word (omega arith);
    })

pub IsSmall-conj : (p : FormalPoint) → IsSmall p → IsSmall (conj p)
IsSmall-conj p h = record { light = omega (arith, weight-conj p, h.light); within = IsWithin-conj 65 p h.within }

corner_small : (w : List ℕ) (k c : ℕ) → IsWord w → IsPlace w k → IsSmall (corner_of w (k - 1) c)
corner_small w k c word place =
    let light = weight-corner w (k - 1) c (omega (arith, place)) in
    record { light = omega (arith, light, place, word.even_length.at_most); within = within-corner w (k - 1) c word (omega (arith, place)) }

pub upper_small : (w : List ℕ) (k : ℕ) → IsWord w → IsPlace w k → IsSmall (upper_corner w k)
upper_small w k word place = corner_small w k _ word place

pub lower_small : (w : List ℕ) (k : ℕ) → IsWord w → IsPlace w k → IsSmall (lower_corner w k)
lower_small w k word place = corner_small w k _ word place

-- the product of two small points
pub light_product : (p q : FormalPoint) → weight p ≤ 128 → weight q ≤ 128 → weight p * weight q ≤ 16384
light_product p q h k = omega (arith, mul-le-mul_left (weight p) k, mul-le-mul_right 128 h)

-- the sine form of a small point times a way between two corners
pub form_limits : (t way : FormalPoint) → IsSmall t → weight way ≤ 128 → IsWithin 65 way → IsWithinFunctionLimits (sine_form (t *ₚ way))
form_limits t way small apart near =
    let within : IsWithin 130 (sine_form (t *ₚ way)) = IsWithin-sine_form 130 (t *ₚ way) (IsWithin-*ₚ 65 65 t way small.within near) in
    record {
      within = within;
      light = omega (arith, weight-sine_form (t *ₚ way), weight-*ₚ t way, light_product t way small.light apart);
      slow = omega (arith, reach_le 130 (sine_form (t *ₚ way)) within);
    }

module _ (w : List ℕ) (v : FormalPoint) (word : IsWord w) (shift : IsShift w v) where
  conjugate_small : IsSmall (conj v)
  conjugate_small = IsSmall-conj v (shift_small w v word shift)

  pub function_limits : (k l : ℕ) → IsPlace w k → IsPlace w l → IsWithinFunctionLimits (defining_function v w k l)
  unfolding defining_function
  function_limits k l upper lower =
      form_limits (conj v) (upper_corner w k -ₚ lower_corner w l) conjugate_small (ends_apart w k l _ _ word upper lower)
      (IsWithin_difference 65 _ _ (upper_small w k word upper).within (lower_small w l word lower).within)

  -- the first edge is there where any is
  first_place : (k : ℕ) → IsPlace w k → IsPlace w 1
  first_place k place = (omega arith, omega (arith, place))

  pub upper_height_limits : (k : ℕ) → IsPlace w k → IsWithinFunctionLimits (upper_height v w k)
  unfolding height
  upper_height_limits k place =
      let first = first_place k place in
      form_limits (conj v) (upper_corner w k -ₚ lower_corner w 1) conjugate_small (ends_apart w k 1 _ _ word place first)
      (IsWithin_difference 65 _ _ (upper_small w k word place).within (lower_small w 1 word first).within)

  pub lower_height_limits : (l : ℕ) → IsPlace w l → IsWithinFunctionLimits (lower_height v w l)
  unfolding height
  lower_height_limits l place =
      let first = first_place l place in
      form_limits (conj v) (lower_corner w l -ₚ lower_corner w 1) conjugate_small (ends_apart w l 1 _ _ word place first)
      (IsWithin_difference 65 _ _ (lower_small w l word place).within (lower_small w 1 word first).within)

-- what a function bends for each unit of weight
pub function_bend : (f : FormalPoint) → IsWithinFunctionLimits f → bend f ≤ 33800 * weight f
function_bend f h = omega (arith, bend_le 130 f h.within)
