-- What holds at one edge of each corner holds at every edge.
use Rattle.std.proofs.Common.{◌≡◌, refl, sym, ap₂, ◌∙◌, subst, subst₂, ℕ, ◌-◌, ◌<◌, List, length, slice_index_or, ℤ, pos, ◌-ℤ◌, neg_ℤ, ◌≤ℤ◌}
use Rattle.std.specs.List.{All}
use Rattle.std.proofs.lemmas.List.{get_or_default}
use Rattle.edge_words.specs.Letters.{IsPlace}
use Rattle.exp_sums.specs.FormalPoint.{FormalPoint, ◌-ₚ◌}
use Rattle.unfolding.specs.Shift.{IsShift}
use Rattle.defining_functions.specs.AllHeights.{HaveAllHeights}
use Rattle.defining_functions.specs.Functions.{defining_function}
use Rattle.defining_functions.specs.Heights.{upper_height, lower_height}
use Rattle.defining_functions.proofs.Differences.{function_difference}
use Rattle.gradient_bounds.specs.Decision.{AreNumbers, difference, Reaches, FallsBelow, EachReaches, SomeInRowFalls, SomeFallsBelow}

-- of two edges the corners on one side have one height
abbrev IsSame : List ℕ → (FormalPoint → List ℕ → ℕ → FormalPoint) → ℕ → ℕ → Type 0
IsSame w height k e = (v : FormalPoint) → IsShift w v → height v w k ≡ height v w e

-- an edge that stands for another one
record IsStandIn (w : List ℕ) (height : FormalPoint → List ℕ → ℕ → FormalPoint) (edges : List ℕ) (k : ℕ) : Type 0 where
  index : ℕ
  below : index < length edges
  is_place : IsPlace w (slice_index_or edges index 0)
  same : IsSame w height k (slice_index_or edges index 0)

stand_in : (w : List ℕ) (height : FormalPoint → List ℕ → ℕ → FormalPoint) (edges : List ℕ) → HaveAllHeights w height edges → (k : ℕ) → IsPlace w k
    → IsStandIn w height edges k
stand_in w height edges h k place =
    let any = h.each k place in
    let there = get_or_default edges any.0 any.1 0 any.2 in
    record {
      index = any.0;
      below = any.2;
      is_place = h.places any.0 0 any.2;
      same = subst (IsSame w height k) (sym any.3 ∙ there) any.4;
    }

-- what holds of the numbers at these edges holds of all
pub all_numbers : (w : List ℕ) (height : FormalPoint → List ℕ → ℕ → FormalPoint) (numbers : List ℤ) (edges : List ℕ) (R : ℤ → Type 0)
    → AreNumbers w height numbers → HaveAllHeights w height edges → All (λ e. R (slice_index_or numbers (e - 1) (pos 0))) edges
    → (k : ℕ) → IsPlace w k → R (slice_index_or numbers (k - 1) (pos 0))
all_numbers w height numbers edges R are have all k place =
    let other = stand_in w height edges have k place in
    subst R (sym (are.same k (slice_index_or edges other.index 0) place other.is_place other.same)) (all other.index 0 other.below)

module _ (needs : FormalPoint → ℤ) (w : List ℕ) (uppers lowers : List ℤ) (us : AreNumbers w upper_height uppers) (ls : AreNumbers w lower_height lowers) where
  module _ (k l e m : ℕ) (upper : IsPlace w k) (lower : IsPlace w l) (upper' : IsPlace w e) (lower' : IsPlace w m) (same : IsSame w upper_height k e)
      (same' : IsSame w lower_height l m) where
    same_function : (v : FormalPoint) → IsShift w v → defining_function v w k l ≡ defining_function v w e m
    same_function v shift = function_difference v w k l ∙ ap₂ (λ p q. p -ₚ q) (same v shift) (same' v shift) ∙ sym (function_difference v w e m)

    same_difference : difference uppers lowers k l ≡ difference uppers lowers e m
    same_difference = ap₂ (λ a b. a -ℤ b) (us.same k e upper upper' same) (ls.same l m lower lower' same')

    reaches_same : Reaches needs w e m (difference uppers lowers e m) → Reaches needs w k l (difference uppers lowers k l)
    reaches_same h v shift = subst₂ (λ f z. needs f ≤ℤ z) (sym (same_function v shift)) (sym same_difference) (h v shift)

    falls_same : FallsBelow needs w k l (difference uppers lowers k l) → FallsBelow needs w e m (difference uppers lowers e m)
    falls_same h v shift = subst₂ (λ f z. z ≤ℤ neg_ℤ (needs f)) (same_function v shift) same_difference (h v shift)

  same_edge : (height : FormalPoint → List ℕ → ℕ → FormalPoint) (k : ℕ) → IsSame w height k k
  same_edge height k v shift = refl

  -- a row
  pub row_reached : (k : ℕ) (edges : List ℕ) → IsPlace w k → HaveAllHeights w lower_height edges
      → ((j : ℕ) → j < length edges → Reaches needs w k (slice_index_or edges j 0) (difference uppers lowers k (slice_index_or edges j 0)))
      → (l : ℕ) → IsPlace w l → Reaches needs w k l (difference uppers lowers k l)
  row_reached k edges upper have each l lower =
      let other = stand_in w lower_height edges have l lower in
      reaches_same k l k (slice_index_or edges other.index 0) upper lower upper other.is_place (same_edge upper_height k) other.same
      (each other.index other.below)

  pub no_row_falls : (k : ℕ) (edges : List ℕ) → IsPlace w k → HaveAllHeights w lower_height edges
      → ((j : ℕ) → j < length edges → ¬ (FallsBelow needs w k (slice_index_or edges j 0) (difference uppers lowers k (slice_index_or edges j 0))))
      → ¬ (SomeInRowFalls needs w uppers lowers k)
  no_row_falls k edges upper have none some =
      let other = stand_in w lower_height edges have some.lower some.is_lower in
      none other.index other.below
      (falls_same k some.lower k (slice_index_or edges other.index 0) upper some.is_lower upper other.is_place (same_edge upper_height k) other.same
      some.falls)

  -- all rows
  pub all_reached : (edges : List ℕ) → HaveAllHeights w upper_height edges
      → ((i : ℕ) → i < length edges → (b : ℕ) → IsPlace w b
      → Reaches needs w (slice_index_or edges i 0) b (difference uppers lowers (slice_index_or edges i 0) b))
      → EachReaches needs w uppers lowers
  all_reached edges have each k l upper lower =
      let other = stand_in w upper_height edges have k upper in
      reaches_same k l (slice_index_or edges other.index 0) l upper lower other.is_place lower other.same (same_edge lower_height l)
      (each other.index other.below l lower)

  pub none_falls_at : (edges : List ℕ) → HaveAllHeights w upper_height edges
      → ((i : ℕ) → i < length edges → ¬ (SomeInRowFalls needs w uppers lowers (slice_index_or edges i 0))) → ¬ (SomeFallsBelow needs w uppers lowers)
  none_falls_at edges have none some =
      let other = stand_in w upper_height edges have some.upper some.is_upper in
      let row = some.row in
      none other.index other.below (record {
        lower = row.lower;
        is_lower = row.is_lower;
        falls = falls_same some.upper row.lower (slice_index_or edges other.index 0) row.lower some.is_upper row.is_lower other.is_place row.is_lower
            other.same (same_edge lower_height row.lower) row.falls;
      })
