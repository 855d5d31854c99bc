-- Where a direction stands in a list of terms, or belongs.
use Rattle.std.specs.Prelude.{◌≡◌, ℕ, ◌<◌, ◌≤◌, List, length, slice_index_or}
use Rattle.std.specs.declared.cmp.Ordering.TheVariants.{Less, Greater}
use Rattle.exp_sums.specs.declared.direction.Dir.{Dir}
use Rattle.exp_sums.specs.declared.terms.Term.{Term}
use Rattle.exp_sums.specs.Terms.{dir_cmp}

-- the term at place i has the direction
pub record IsPlaceOf (ts : List Term) (d : Dir) (i : ℕ) : Type 0 where
  pub in_range : i < length ts
  pub is_there : (x : Term) → (slice_index_or ts i x).dir ≡ d

-- a term with the direction would stand at place i: earlier directions before it, and later ones from it on
pub record IsGapFor (ts : List Term) (d : Dir) (i : ℕ) : Type 0 where
  pub in_range : i ≤ length ts
  pub earlier_before : (j : ℕ) (x : Term) → j < i → dir_cmp (slice_index_or ts j x).dir d ≡ Less
  pub later_from : (j : ℕ) (x : Term) → i ≤ j → j < length ts → dir_cmp (slice_index_or ts j x).dir d ≡ Greater
