-- What a `Functions` keeps: the heights of the corners on both sides of the path, and the sizes of their differences.

use Rattle.std.specs.Prelude.{◌≡◌, ℕ, ◌+◌, ◌-◌, ◌<◌, ◌≤◌, List, length, slice_index_or, Option, Some, None}
use Rattle.std.specs.List.{All, Any}
use Rattle.edge_words.specs.Word.{IsWord}
use Rattle.exp_sums.specs.FormalPoint.{FormalPoint, ◌-ₚ◌}
use Rattle.exp_sums.specs.Limits.{weight, IsWithin}
use Rattle.unfolding.specs.Shift.{IsShift, HasShift}
use Rattle.defining_functions.specs.declared.size_row.SizeRow.{SizeRow}
use Rattle.defining_functions.specs.declared.size_table.SizeTable.{SizeTable}
use Rattle.defining_functions.specs.Functions.{IsWithinFunctionLimits}
use Rattle.defining_functions.specs.Heights.{upper_height, lower_height}
use Rattle.defining_functions.specs.Sizes.{sizes_of, AreAtMost, AreSmall}
use Rattle.defining_functions.specs.Tables.{IsTable}

-- a shift or a corner is so small that products of two are within the limits of sums
pub record IsSmall (p : FormalPoint) : Type 0 where
  pub light : weight p ≤ 128
  pub within : IsWithin 65 p

-- the height at a place among those that are kept
pub record StandsAt (IsWanted : FormalPoint → Type 0) (heights : List FormalPoint) (place : ℕ) : Type 0 where
  pub in_range : place < length heights
  pub is : (p : FormalPoint) → IsWanted (slice_index_or heights place p)

-- heights that are within the limits
abbrev pub AreWithinLimits : List FormalPoint → Type 0
AreWithinLimits heights = (i : ℕ) (p : FormalPoint) → i < length heights → IsWithinFunctionLimits (slice_index_or heights i p)

-- one side of the path: all heights are within the limits, and for each of n edges there is the place of its corner's height
pub record IsSide (IsWanted : ℕ → FormalPoint → Type 0) (n : ℕ) (heights : List FormalPoint) (places : List ℕ) : Type 0 where
  pub limits : AreWithinLimits heights
  pub each : IsTable (λ i place. StandsAt (IsWanted i) heights place) n places

-- the side of the first n edges, whose last height is that of the last edge's corner
pub record IsSideSoFar (IsWanted : ℕ → FormalPoint → Type 0) (n : ℕ) (heights : List FormalPoint) (places : List ℕ) : Type 0 where
  pub side : IsSide IsWanted n heights places
  pub last : 0 < n → StandsAt (IsWanted (n - 1)) heights (length heights - 1)

-- the height of the corner of the (i + 1)-th edge, on the upper and on the lower side
abbrev pub IsUpperHeight : List ℕ → ℕ → FormalPoint → Type 0
IsUpperHeight w i p = (v : FormalPoint) → IsShift w v → p ≡ upper_height v w (i + 1)

abbrev pub IsLowerHeight : List ℕ → ℕ → FormalPoint → Type 0
IsLowerHeight w i p = (v : FormalPoint) → IsShift w v → p ≡ lower_height v w (i + 1)

-- the sizes of the differences of one height and others, sizes that are at least these, and sizes that are at most these
pub record IsSizeRow (p : FormalPoint) (lowers : List FormalPoint) (row : SizeRow) : Type 0 where
  pub each : IsTable (λ j sizes. (q : FormalPoint) → sizes ≡ sizes_of (p -ₚ slice_index_or lowers j q)) (length lowers) row.sizes.items
  pub greatest : All (λ s. AreAtMost s row.greatest) row.sizes.items
  pub small : AreSmall row.greatest
  pub least : All (λ s. AreAtMost row.least s) row.sizes.items
  pub least_small : AreSmall row.least

-- a row for each height of the upper side, and sizes that are at least those of each row
pub record IsSizeTable (uppers lowers : List FormalPoint) (table : SizeTable) : Type 0 where
  pub each : IsTable (λ i row. (p : FormalPoint) → IsSizeRow (slice_index_or uppers i p) lowers row) (length uppers) table.rows.items
  pub greatest : All (λ (row : SizeRow). AreAtMost row.greatest table.greatest) table.rows.items
  pub small : AreSmall table.greatest

-- the sizes of all differences, if they are kept
abbrev pub IsSizeTableIfAny : List FormalPoint → List FormalPoint → Option SizeTable → Type 0
IsSizeTableIfAny uppers lowers None = Unit {0}
IsSizeTableIfAny uppers lowers (Some table) = IsSizeTable uppers lowers table

-- edges, counted from 1, at whose places all heights stand that stand at the places of the first n edges
pub record HaveAllPlaces (places : List ℕ) (n : ℕ) (edges : List ℕ) : Type 0 where
  pub in_range : All (λ e. (1 ≤ e) × (e ≤ n)) edges
  pub each : (i : ℕ) → i < n → Any (λ e. (z : ℕ) → slice_index_or places i z ≡ slice_index_or places (e - 1) z) edges

-- what a `Functions` keeps of a word
pub record IsFunctions (w : List ℕ) (uppers : List FormalPoint) (upper_places : List ℕ) (lowers : List FormalPoint) (lower_places : List ℕ)
    (upper_edges lower_edges : List ℕ) (table : Option SizeTable) : Type 0 where
  pub word : IsWord w
  pub shift : HasShift w
  pub each_upper : IsSide (IsUpperHeight w) (length w) uppers upper_places
  pub each_lower : IsSide (IsLowerHeight w) (length w) lowers lower_places
  pub all_uppers : HaveAllPlaces upper_places (length w) upper_edges
  pub all_lowers : HaveAllPlaces lower_places (length w) lower_edges
  pub each_size : IsSizeTableIfAny uppers lowers table
