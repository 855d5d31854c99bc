-- What a `Prepared` keeps of its word.

use Rattle.std.specs.Prelude.{◌≡◌, ℕ, zero, suc, ◌+◌, ◌^◌, ◌≤◌, List, [], ◌∷◌, ◌++◌, length, Option, Some, None, ℤ, pos, unsigned_abs}
use Rattle.std.specs.Prelude.{Bool, false, ◌||◌, if◌then◌else◌}
use Rattle.std.specs.List.{All}
use Rattle.rat_core.specs.Written.{Written, value}
use Rattle.edge_words.specs.Stable.{IsStable}
use Rattle.edge_words.specs.Word.{IsWord}
use Rattle.exp_sums.specs.declared.direction.Dir.{Dir}
use Rattle.exp_sums.specs.declared.terms.Term.{Term}
use Rattle.exp_sums.specs.Terms.{is_same_dir}
use Rattle.exp_sums.specs.FormalPoint.{FormalPoint, terms, coefficient}
use Rattle.exp_sums.specs.Limits.{IsNear}
use Rattle.unfolding.specs.Shift.{IsShift}
use Rattle.defining_functions.specs.Heights.{upper_height, lower_height}
use Rattle.defining_functions.specs.Tables.{IsTable}
use Rattle.gradient_bounds.specs.declared.height_sums.HeightSums.{HeightSums}
use Rattle.gradient_bounds.specs.declared.sine_low.SineLow.{SineLow}
use Rattle.gradient_bounds.specs.HeightSums.{IsHeightSums, dirs_of}
use Rattle.gradient_bounds.specs.Table.{IsTableOf, IsLowAt, number_in}

-- the table was filled at the point, if at any
abbrev pub IsFilledAt : ℕ → Option (Written × Written) → List SineLow → Type 0
IsFilledAt bits None table = Unit {0}
IsFilledAt bits (Some p) table = All (IsLowAt bits (value p.0) (value p.1)) table

-- directions and numbers are so small that sums over a height's terms fit
pub record IsSmallEntry (e : SineLow) : Type 0 where
  pub near : IsNear 130 e.dir
  pub low : unsigned_abs e.low ≤ 2 ^ 62

-- whether a term of the list has the direction
abbrev pub has_dir : List Term → Dir → Bool
has_dir [] d = false
has_dir (t ∷ ts) d = is_same_dir t.dir d || has_dir ts d

-- the point has the coefficient 1 at each direction of the terms, and 0 elsewhere
abbrev pub IsMarkOf : List Term → FormalPoint → Type 0
IsMarkOf ts p = (d : Dir) → coefficient p d ≡ (if has_dir ts d then pos 1 else pos 0)

-- the terms of the heights of the first edges
abbrev pub height_terms : FormalPoint → List ℕ → ℕ → List Term
height_terms v w zero = []
height_terms v w (suc i) = height_terms v w i ++ (terms (upper_height v w (suc i)) ++ terms (lower_height v w (suc i)))

-- the number of a height, which depends on the shift
pub record IsNumberOf (w : List ℕ) (table : List SineLow) (height : FormalPoint → FormalPoint) (z : ℤ) : Type 0 where
  pub small : unsigned_abs z ≤ 2 ^ 76
  pub is : (v : FormalPoint) → IsShift w v → z ≡ number_in table (height v)

-- the numbers of the upper heights, from the first edge to the last, and those of the lower ones
abbrev pub AreUppers : List ℕ → List SineLow → List ℤ → Type 0
AreUppers w table numbers = IsTable (λ i z. IsNumberOf w table (λ v. upper_height v w (i + 1)) z) (length w) numbers

abbrev pub AreLowers : List ℕ → List SineLow → List ℤ → Type 0
AreLowers w table numbers = IsTable (λ i z. IsNumberOf w table (λ v. lower_height v w (i + 1)) z) (length w) numbers

-- what a `Prepared` keeps of its word
pub record IsPrepared (bits : ℕ) (w u : List ℕ) (s : HeightSums) (p : Option (Written × Written)) (table : List SineLow) (us ls : List ℤ) : Type 0 where
  pub word : IsWord w
  pub stable : IsStable w
  pub same_word : u ≡ w
  pub directions : IsTableOf w table
  pub small : All IsSmallEntry table
  pub filled : IsFilledAt bits p table
  pub uppers : AreUppers w table us
  pub lowers : AreLowers w table ls
  pub sums : IsHeightSums w (dirs_of table) s
