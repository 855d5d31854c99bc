-- What is kept of a word, read.
use Rattle.std.proofs.Common.{◌≡◌, refl, ℕ, zero, suc, [], ◌∷◌, Some, ◌+◌, ◌-◌, ◌<◌, ◌≤◌, ◌^◌}
use Rattle.std.proofs.Common.{List, length, slice_index_or, pos, FitsSigned, to_z, Option, sym, ap, ap₂, subst, ◌∙◌, arith}
use Rattle.std.specs.Int.{w64}
use Rattle.std.proofs.lemmas.List.{get_or_default}
use Rattle.std.proofs.lemmas.Int.{ints, to_z_pos, fits_signed_from_abs}
use Rattle.edge_words.specs.Letters.{IsPlace}
use Rattle.edge_words.specs.Word.{IsWord}
use Rattle.exp_sums.specs.FormalPoint.{FormalPoint, zero_point, conj, ◌-ₚ◌, ◌*ₚ◌}
use Rattle.exp_sums.specs.SineForm.{sine_form}
use Rattle.exp_sums.specs.Limits.{weight}
use Rattle.exp_sums.specs.Reach.{reach}
use Rattle.exp_sums.specs.Bend.{bend}
use Rattle.exp_sums.specs.declared.sizes.Sizes.{Sizes}
use Rattle.defining_functions.specs.declared.size_row.SizeRow.{SizeRow}
use Rattle.defining_functions.specs.declared.size_table.SizeTable.{SizeTable}
use Rattle.unfolding.specs.Corners.{upper_corner, lower_corner}
use Rattle.unfolding.specs.Shift.{IsShift, HasShift}
use Rattle.defining_functions.specs.Functions.{defining_function, IsWithinFunctionLimits}
use Rattle.defining_functions.specs.Heights.{height, upper_height, lower_height}
use Rattle.defining_functions.specs.Kept.{StandsAt, IsSide, IsUpperHeight, IsLowerHeight, IsSizeRow, IsSizeTable, IsSizeTableIfAny, IsFunctions}
use Rattle.defining_functions.specs.Sizes.{sizes_of, AreAtMost, AreSmall}
use Rattle.defining_functions.proofs.Sizes.{at_most_both, difference_small, sizes_are}
use Rattle.defining_functions.proofs.Limits.{upper_height_limits, lower_height_limits}
use Rattle.defining_functions.proofs.Differences.{function_difference}

-- the place before k, and one more
pub place_of_index : (k : ℕ) → 1 ≤ k → k - 1 + 1 ≡ k
place_of_index k h = omega (arith, h)

-- ---- what is added to a side
module _ (w : List ℕ) (i : ℕ) where
  pub upper_limits : (f : FormalPoint) → IsWord w → HasShift w → IsPlace w (i + 1) → IsUpperHeight w i f → IsWithinFunctionLimits f
  upper_limits f word (v, shift) place is = subst IsWithinFunctionLimits (sym (is v shift)) (upper_height_limits w v word shift (i + 1) place)

  pub lower_limits : (f : FormalPoint) → IsWord w → HasShift w → IsPlace w (i + 1) → IsLowerHeight w i f → IsWithinFunctionLimits f
  lower_limits f word (v, shift) place is = subst IsWithinFunctionLimits (sym (is v shift)) (lower_height_limits w v word shift (i + 1) place)

  before : 0 < i → i - 1 + 1 ≡ i
  before some = omega (arith, some)

  pub upper_again : 0 < i → upper_corner w (i + 1) ≡ upper_corner w i → (p : FormalPoint) → IsUpperHeight w (i - 1) p → IsUpperHeight w i p
  upper_again some same p is v shift = is v shift ∙ ap (upper_height v w) (before some) ∙ ap (height v w) (sym same)

  pub lower_again : 0 < i → lower_corner w (i + 1) ≡ lower_corner w i → (p : FormalPoint) → IsLowerHeight w (i - 1) p → IsLowerHeight w i p
  lower_again some same p is v shift = is v shift ∙ ap (lower_height v w) (before some) ∙ ap (height v w) (sym same)

-- ---- what is kept
-- what a side says of the k-th edge
pub side_at : (IsWanted : ℕ → FormalPoint → Type 0) (n : ℕ) (heights : List FormalPoint) (places : List ℕ) → IsSide IsWanted n heights places →
    (k z : ℕ) → 1 ≤ k → k ≤ n → StandsAt (IsWanted (k - 1)) heights (slice_index_or places (k - 1) z)
side_at IsWanted n heights places h k z some below = h.each.each (k - 1) z (omega (arith, some, below))

-- an element of a list
entry_at : {X : Type 0} (xs : List X) (i : ℕ) → i < length xs → (x : X) × (x ≡ slice_index_or xs i x)
entry_at [] i below = absurd (omega (arith, below))
entry_at (x ∷ xs) zero below = (x, refl)
entry_at (x ∷ xs) (suc i) below = entry_at xs i (omega (arith, below))

module _ (w : List ℕ) (us : List FormalPoint) (ups : List ℕ) (ls : List FormalPoint) (lps ues les : List ℕ) (table : Option SizeTable)
    (h : IsFunctions w us ups ls lps ues les table) where
  -- at the place of the k-th edge stands the height of its corner
  pub upper_stands : (k i : ℕ) → IsPlace w k → i ≡ slice_index_or ups (k - 1) i → StandsAt (IsUpperHeight w (k - 1)) us i
  upper_stands k i place here =
      subst (StandsAt (IsUpperHeight w (k - 1)) us) (sym here) (side_at (IsUpperHeight w) (length w) us ups h.each_upper k i place.0 place.1)

  pub lower_stands : (l j : ℕ) → IsPlace w l → j ≡ slice_index_or lps (l - 1) j → StandsAt (IsLowerHeight w (l - 1)) ls j
  lower_stands l j place here =
      subst (StandsAt (IsLowerHeight w (l - 1)) ls) (sym here) (side_at (IsLowerHeight w) (length w) ls lps h.each_lower l j place.0 place.1)

  upper_is : (k i : ℕ) (v : FormalPoint) → IsPlace w k → IsShift w v → i ≡ slice_index_or ups (k - 1) i → slice_index_or us i zero_point ≡ upper_height v w k
  upper_is k i v place shift here = (upper_stands k i place here).is zero_point v shift ∙ ap (upper_height v w) (place_of_index k place.0)

  lower_is : (l j : ℕ) (v : FormalPoint) → IsPlace w l → IsShift w v → j ≡ slice_index_or lps (l - 1) j → slice_index_or ls j zero_point ≡ lower_height v w l
  lower_is l j v place shift here = (lower_stands l j place here).is zero_point v shift ∙ ap (lower_height v w) (place_of_index l place.0)

  -- the row of the k-th upper corner
  pub row_at : (k i : ℕ) (t : SizeTable) (row : SizeRow) → IsPlace w k → i ≡ slice_index_or ups (k - 1) i → IsSizeTable us ls t
      → row ≡ slice_index_or t.rows.items i row → IsSizeRow (slice_index_or us i zero_point) ls row
  row_at k i t row place here kept is_row =
      subst (λ (r : SizeRow). IsSizeRow (slice_index_or us i zero_point) ls r) (sym is_row)
      (kept.each.each i row (upper_stands k i place here).in_range zero_point)

  -- the difference of the heights at two places is the function of their corners
  module _ (k l i j : ℕ) (upper : IsPlace w k) (lower : IsPlace w l) (here : i ≡ slice_index_or ups (k - 1) i) (there : j ≡ slice_index_or lps (l - 1) j) where
    pub difference_is : (v : FormalPoint) → IsShift w v → slice_index_or us i zero_point -ₚ slice_index_or ls j zero_point ≡ defining_function v w k l
    difference_is v shift =
        ap₂ (λ p q. p -ₚ q) (upper_is k i v upper shift here) (lower_is l j v lower shift there) ∙ sym (function_difference v w k l)

    -- so it is small
    pub function_small : (v : FormalPoint) → IsShift w v → AreSmall (sizes_of (defining_function v w k l))
    function_small v shift =
        subst (λ f. AreSmall (sizes_of f)) (difference_is v shift)
        (difference_small (slice_index_or us i zero_point) (slice_index_or ls j zero_point)
        (h.each_upper.limits i zero_point (upper_stands k i upper here).in_range) (h.each_lower.limits j zero_point (lower_stands l j lower there).in_range))

    -- and so are its sizes, from the two heights
    pub made_sizes : (p q : FormalPoint) (s : Sizes) → p ≡ slice_index_or us i p → q ≡ slice_index_or ls j q → s.weight ≡ weight (p -ₚ q)
        → s.reach ≡ reach (p -ₚ q) → s.bend ≡ bend (p -ₚ q) → (v : FormalPoint) → IsShift w v → s ≡ sizes_of (defining_function v w k l)
    made_sizes p q s p_is q_is weight_is reach_is bend_is v shift =
        let p_at = p_is ∙ get_or_default us i p zero_point (upper_stands k i upper here).in_range in
        let q_at = q_is ∙ get_or_default ls j q zero_point (lower_stands l j lower there).in_range in
        sizes_are s (p -ₚ q) weight_is reach_is bend_is ∙ ap sizes_of (ap₂ (λ p q. p -ₚ q) p_at q_at ∙ difference_is v shift)

    -- or from the table
    pub kept_sizes : (t : SizeTable) (row : SizeRow) (s : Sizes) → IsSizeTable us ls t → row ≡ slice_index_or t.rows.items i row
        → s ≡ slice_index_or row.sizes.items j s → (v : FormalPoint) → IsShift w v → s ≡ sizes_of (defining_function v w k l)
    kept_sizes t row s kept is_row is_s v shift =
        is_s
        ∙ (row_at k i t row upper here kept is_row).each.each j s (lower_stands l j lower there).in_range zero_point
        ∙ ap sizes_of (difference_is v shift)

    -- what is at least the sizes of the row is at least those of the function
    pub row_greatest : (t : SizeTable) (row : SizeRow) → IsSizeTable us ls t → row ≡ slice_index_or t.rows.items i row → (v : FormalPoint) → IsShift w v
        → AreAtMost (sizes_of (defining_function v w k l)) row.greatest
    row_greatest t row kept is_row v shift =
        let is = row_at k i t row upper here kept is_row in
        let below = (lower_stands l j lower there).in_range in
        subst (λ s. AreAtMost s row.greatest) (is.each.each j row.greatest below zero_point ∙ ap sizes_of (difference_is v shift))
        (is.greatest j row.greatest (omega (arith, is.each.count, below)))

    -- and what is at most the sizes of the row is at most those of the function
    pub row_lesser : (t : SizeTable) (row : SizeRow) → IsSizeTable us ls t → row ≡ slice_index_or t.rows.items i row → (v : FormalPoint) → IsShift w v
        → AreAtMost row.least (sizes_of (defining_function v w k l))
    row_lesser t row kept is_row v shift =
        let is = row_at k i t row upper here kept is_row in
        let below = (lower_stands l j lower there).in_range in
        subst (λ s. AreAtMost row.least s) (is.each.each j row.least below zero_point ∙ ap sizes_of (difference_is v shift))
        (is.least j row.least (omega (arith, is.each.count, below)))

  -- the place of an edge's height
  upper_here : (k i : ℕ) → IsPlace w k → slice_index_or ups (k - 1) 0 ≡ slice_index_or ups (k - 1) i
  upper_here k i place = get_or_default ups (k - 1) 0 i (omega (arith, place.0, place.1, h.each_upper.each.count))

  lower_here : (l j : ℕ) → IsPlace w l → slice_index_or lps (l - 1) 0 ≡ slice_index_or lps (l - 1) j
  lower_here l j place = get_or_default lps (l - 1) 0 j (omega (arith, place.0, place.1, h.each_lower.each.count))

  -- the greatest sizes of a row are at least those of each function of it
  pub row_most : (k i : ℕ) (t : SizeTable) (row : SizeRow) → IsPlace w k → i ≡ slice_index_or ups (k - 1) i → IsSizeTable us ls t
      → row ≡ slice_index_or t.rows.items i row → (v : FormalPoint) (l : ℕ) → IsShift w v → IsPlace w l
      → AreAtMost (sizes_of (defining_function v w k l)) row.greatest
  row_most k i t row upper here kept is_row v l shift lower =
      let j = slice_index_or lps (l - 1) 0 in
      row_greatest k l i j upper lower here (lower_here l j lower) t row kept is_row v shift

  -- the least sizes of a row are at most those of each function of it
  pub row_least : (k i : ℕ) (t : SizeTable) (row : SizeRow) → IsPlace w k → i ≡ slice_index_or ups (k - 1) i → IsSizeTable us ls t
      → row ≡ slice_index_or t.rows.items i row → (v : FormalPoint) (l : ℕ) → IsShift w v → IsPlace w l
      → AreAtMost row.least (sizes_of (defining_function v w k l))
  row_least k i t row upper here kept is_row v l shift lower =
      let j = slice_index_or lps (l - 1) 0 in
      row_lesser k l i j upper lower here (lower_here l j lower) t row kept is_row v shift

  -- and the greatest sizes of all are at least those of each function
  pub table_most : (t : SizeTable) → IsSizeTable us ls t → (v : FormalPoint) (k l : ℕ) → IsShift w v → IsPlace w k → IsPlace w l
      → AreAtMost (sizes_of (defining_function v w k l)) t.greatest
  table_most t kept v k l shift upper lower =
      let i = slice_index_or ups (k - 1) 0 in
      let here = upper_here k i upper in
      let below : i < length t.rows.items = omega (arith, (upper_stands k i upper here).in_range, kept.each.count) in
      let entry = entry_at t.rows.items i below in
      at_most_both (sizes_of (defining_function v w k l)) entry.0.greatest t.greatest
      (row_most k i t entry.0 upper here kept entry.1 v l shift lower)
      (subst (λ (row : SizeRow). AreAtMost row.greatest t.greatest) (sym entry.1) (kept.greatest i entry.0 below))

-- the table that is kept
pub table_of : (us ls : List FormalPoint) (kept : Option SizeTable) (t : SizeTable) → kept ≡ Some t → IsSizeTableIfAny us ls kept → IsSizeTable us ls t
table_of us ls kept t is h = subst (IsSizeTableIfAny us ls) is h

-- a size that is cast to a signed number
pub cast_fits : (n m : ℕ) → n ≡ m → m ≤ 2 ^ 32 → FitsSigned w64 (pos n)
cast_fits n m is small = fits_signed_from_abs w64 (pos n) (omega (arith, ints, is, small))

pub cast_is : (n m : ℕ) → n ≡ m → m ≤ 2 ^ 32 → to_z w64 n ≡ pos m
cast_is n m is small = to_z_pos w64 n (omega (arith, is, small)) ∙ ap pos is
