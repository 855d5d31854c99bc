use Rattle.std.proofs.Common.{◌≡◌, ◌<◌, ℕ, length, slice_index_or}
use Rattle.std.specs.List.{All}
use Rattle.rat_core.specs.Written.{value}
use Rattle.word_search.specs.declared.place.Place.{Place}
use Rattle.word_search.specs.Places.{IsUnit, IsSmallPlace, dir_at}
use Rattle.word_search.proofs.plane.Plane.at.Given as goal

-- the places of the first directions
abbrev pub invariant-loop-number : goal.invariant-loop-number
invariant-loop-number l = record {
  count : length l.units.items ≡ l.number;
  small : All (IsSmallPlace 1) l.units.items;
  near : (i : ℕ) (p : Place) → i < l.number → IsUnit (value l.fn.x) (value l.fn.y) (dir_at i) (slice_index_or l.units.items i p);
}
