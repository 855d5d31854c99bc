-- What functions are at most, and counting up.
use Rattle.std.proofs.Common.{◌≡◌, ◌⊎◌, inl, inr, sym, subst, ℕ, ◌<◌, ◌≤◌, List, arith}
use Rattle.std.proofs.Math.Nat.{eq-or-lt_of_le}
use Rattle.edge_words.specs.Letters.{IsPlace}
use Rattle.edge_words.specs.Word.{IsWord}
use Rattle.exp_sums.specs.FormalPoint.{FormalPoint}
use Rattle.unfolding.specs.Shift.{IsShift}
use Rattle.defining_functions.specs.Functions.{defining_function}
use Rattle.defining_functions.specs.Sizes.{sizes_of, AreAtMost}
use Rattle.defining_functions.proofs.Limits.{function_limits, function_bend}

-- the sizes of each function of a word
pub function_at_most : (w : List ℕ) → IsWord w → (v : FormalPoint) (k l : ℕ) → IsShift w v → IsPlace w k → IsPlace w l
    → AreAtMost (sizes_of (defining_function v w k l)) (record { weight = 16384; reach = 4259840; bend = 553779200 })
function_at_most w word v k l shift upper lower =
    let limits = function_limits w v word shift k l upper lower in
    record {
      weight = limits.light;
      reach = omega (arith, limits.slow, limits.light);
      bend = omega (arith, function_bend (defining_function v w k l) limits, limits.light);
    }

-- what holds below k and of k holds up to k
pub up_to : (P : ℕ → Type 0) (k : ℕ) → ((i : ℕ) → 1 ≤ i → i < k → P i) → P k → (i : ℕ) → 1 ≤ i → i ≤ k → P i
up_to P k earlier last i low high = by_cases (eq-or-lt_of_le high)
  where
    by_cases : (i ≡ k) ⊎ (i < k) → P i
    by_cases (inl is) = subst P (sym is) last
    by_cases (inr below) = earlier i low below
