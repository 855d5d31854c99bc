-- The triangle after some letters, as it lies in the plane.

use Rattle.std.specs.Prelude.{◌≡◌, ℕ, ◌<◌, List, map}
use Rattle.std.specs.List.{All}
use Rattle.exp_sums.specs.FormalPoint.{zero_point}
use Rattle.unfolding.specs.Triangle.{mirrors}
use Rattle.unfolding.specs.Walk.{is_reversed}
use Rattle.unfolding.specs.Kept.{dirs_of}
use Rattle.word_search.specs.declared.place.Place.{Place}
use Rattle.word_search.specs.declared.seen.Seen.{Seen}
use Rattle.word_search.specs.Places.{dir_at, place_of}

-- its centre, on which side its corners are seen from there, and the numbers of their directions
pub record IsSeen (units : List Place) (v : List ℕ) (s : Seen) : Type 0 where
  pub centre : s.centre ≡ place_of units (mirrors v zero_point)
  pub minus : s.minus ≡ is_reversed v
  pub dirs : map dir_at s.dirs ≡ dirs_of v
  pub known : All (λ i. i < 676) s.dirs
