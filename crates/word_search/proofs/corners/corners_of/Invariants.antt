use Rattle.std.proofs.Common.{◌≡◌, ◌+◌, ◌<◌, ℕ, length, slice_index_or, take}
use Rattle.unfolding.specs.Corners.{upper_corner, lower_corner}
use Rattle.word_search.specs.declared.place.Place.{Place}
use Rattle.word_search.specs.Places.{place_of}
use Rattle.word_search.specs.Seen.{IsSeen}
use Rattle.word_search.proofs.corners.corners_of.Given as goal

-- the ends of the first edges, and the triangle behind the last of them
abbrev pub invariant-loop-k : goal.invariant-loop-k
invariant-loop-k l = record {
  upper_room : length l.uppers ≡ 24;
  lower_room : length l.lowers ≡ 24;
  uppers : (j : ℕ) (z : Place) → j < l.k → slice_index_or l.uppers j z ≡ place_of l.fn.units (upper_corner l.fn.letters (j + 1));
  lowers : (j : ℕ) (z : Place) → j < l.k → slice_index_or l.lowers j z ≡ place_of l.fn.units (lower_corner l.fn.letters (j + 1));
  seen : IsSeen l.fn.units (take l.k l.fn.letters) l.seen;
}
