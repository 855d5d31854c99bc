-- What holds of each function of a word, and of one.
use Rattle.std.proofs.Common.{ℕ, List, subst}
use Rattle.edge_words.specs.Stable.{IsStable}
use Rattle.edge_words.specs.Word.{IsWord}
use Rattle.exp_sums.specs.FormalPoint.{FormalPoint, zero_point}
use Rattle.unfolding.specs.Shift.{HasShift}
use Rattle.unfolding.specs.Triangle.{mirrors}
use Rattle.unfolding.proofs.Shifts.{shift_from_stable, same_shift}
use Rattle.defining_functions.specs.Functions.{defining_function}
use Rattle.gradient_bounds.specs.Corridor.{EachFunction, SomeFunction}

pub has_shift : (w : List ℕ) → IsWord w → IsStable w → HasShift w
has_shift w h stable = (mirrors w zero_point, shift_from_stable w h.letters h.even_length.even stable)

-- what holds of each and what holds of one hold together of one, since there is only one shift
pub each_meets_some : (P Q : FormalPoint → Type 0) (w : List ℕ) → EachFunction w P → SomeFunction w Q → (f : FormalPoint) × P f × Q f
each_meets_some P Q w each some = (
  defining_function some.shift w some.upper some.lower,
  subst (λ v. P (defining_function v w some.upper some.lower)) (same_shift w each.shift some.shift each.is_shift some.is_shift)
      (each.each some.upper some.lower some.is_upper some.is_lower),
  some.holds,
)

-- a consequence for each
pub each_onward : (P Q : FormalPoint → Type 0) (w : List ℕ) → ((f : FormalPoint) → P f → Q f) → EachFunction w P → EachFunction w Q
each_onward P Q w f h = record {
  stable = h.stable;
  shift = h.shift;
  is_shift = h.is_shift;
  each = λ k l p q. f (defining_function h.shift w k l)
      (h.each k l p q);
}

-- and for one
pub some_onward : (P Q : FormalPoint → Type 0) (w : List ℕ) → ((f : FormalPoint) → P f → Q f) → SomeFunction w P → SomeFunction w Q
some_onward P Q w f h = record {
  stable = h.stable;
  shift = h.shift;
  is_shift = h.is_shift;
  upper = h.upper;
  lower = h.lower;
  is_upper = h.is_upper;
  is_lower = h.is_lower;
  holds = f (defining_function h.shift w h.upper h.lower) h.holds;
}
