-- What the numbers of a word's heights are made from: the steps between the heights, and the terms of their forms by their places in the table.

use Rattle.std.specs.Prelude.{◌≡◌, ◌≢◌, ℕ, ◌<◌, ◌≤◌, List, length, map, slice_index_or}
use Rattle.std.specs.Global.{Vec}
use Rattle.std.specs.List.{All}
use Rattle.ring_solver.specs.Whole.{ℤ_ring, ℤ_image}
use Rattle.exp_sums.specs.declared.direction.Dir.{Dir}
use Rattle.exp_sums.specs.declared.terms.Term.{Term}
use Rattle.exp_sums.specs.FormalPoint.{FormalPoint, terms, zero_dir}
use Rattle.exp_sums.specs.Limits.{terms_weight}
use Rattle.exp_sums.specs.Weigh.{weigh_terms}
use Rattle.defining_functions.specs.Steps.{AreSteps}
use Rattle.defining_functions.specs.Tables.{IsTable}
use Rattle.gradient_bounds.specs.declared.height_sums.HeightSums.{HeightSums}
use Rattle.gradient_bounds.specs.declared.placed_term.PlacedTerm.{PlacedTerm}
use Rattle.gradient_bounds.specs.declared.sine_low.SineLow.{SineLow}
use Rattle.gradient_bounds.specs.Table.{low_in}

-- the directions of a table
abbrev pub dirs_of : List SineLow → List Dir
dirs_of table = map (λ e. e.dir) table

-- where a direction stands among others
pub record IsPlaceOf (dirs : List Dir) (d : Dir) (p : ℕ) : Type 0 where
  pub below : p < length dirs
  pub is : (e : Dir) → slice_index_or dirs p e ≡ d

-- a direction that does not stand there
abbrev pub IsAbsent : List Dir → Dir → Type 0
IsAbsent dirs d = (j : ℕ) (e : Dir) → j < length dirs → slice_index_or dirs j e ≢ d

-- the terms that are given by the places of their directions
abbrev pub dir_at : List Dir → ℕ → Dir
dir_at dirs p = slice_index_or dirs p zero_dir

abbrev pub terms_at : List Dir → List PlacedTerm → List Term
terms_at dirs row = map (λ p. record { dir = dir_at dirs p.place; c = p.c }) row

-- terms by their places, which have the same number as the terms of the list by each table with these directions
pub record IsRowOf (dirs : List Dir) (ts : List Term) (row : List PlacedTerm) : Type 0 where
  pub placed : All (λ p. p.place < length dirs) row
  pub light : terms_weight (terms_at dirs row) ≤ terms_weight ts
  pub same : (table : List SineLow) → dirs_of table ≡ dirs
      → weigh_terms ℤ_ring ℤ_image (low_in table) (terms_at dirs row) ≡ weigh_terms ℤ_ring ℤ_image (low_in table) ts

-- a row for each form
abbrev pub AreRowsOf : List Dir → List FormalPoint → List (Vec PlacedTerm) → Type 0
AreRowsOf dirs forms rows = IsTable (λ i row. (f : FormalPoint) → IsRowOf dirs (terms (slice_index_or forms i f)) row.items) (length forms) rows

-- what a `HeightSums` keeps of a word and the directions of its table: the steps, the rows, and room for a number for each form
pub record IsHeightSums (w : List ℕ) (dirs : List Dir) (s : HeightSums) : Type 0 where
  pub each : AreSteps w (length w) s.steps.forms.items s.steps.steps.items
  pub rows : AreRowsOf dirs s.steps.forms.items s.places.rows.items
  pub room : length s.numbers.items ≡ length s.steps.forms.items
