use Rattle.std.proofs.Common.{◌≡◌, ◌<◌, ◌≤ℤ◌, ℕ, length, slice_index_or}
use Rattle.word_search.specs.declared.place.Place.{Place}
use Rattle.word_search.specs.Places.{height_over}
use Rattle.word_search.proofs.extremes.least_height.Given as goal

-- the least height so far, and a place that has it
abbrev pub invariant-loop-place : goal.invariant-loop-place
invariant-loop-place l = record {
  least : (j : ℕ) (z : Place) → j < l.place-index → l.least ≤ℤ height_over l.fn.shift (slice_index_or l.fn.places j z);
  met : (i : ℕ) × (i < length l.fn.places) × ((z : Place) → l.least ≡ height_over l.fn.shift (slice_index_or l.fn.places i z));
}
