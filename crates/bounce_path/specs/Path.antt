-- Billiard paths: a level, and the bounce points in the order of the edges.

use Rattle.std.specs.Prelude.{◌≡◌, ℕ, ◌-◌, List, length, slice_index_or, ℤ}
use Rattle.rat_core.specs.Fraction.{ℚ}
use Rattle.edge_words.specs.Letters.{IsPlace}
use Rattle.edge_words.specs.Stable.{IsStable}
use Rattle.exp_sums.specs.FormalPoint.{FormalPoint}
use Rattle.unfolding.specs.Shift.{IsShift}
use Rattle.gradient_bounds.specs.Clear.{slack}
use Rattle.gradient_bounds.specs.Corridor.{HasCorridor}
use Rattle.bounce_path.specs.declared.bounce.Bounce.{Bounce}
use Rattle.bounce_path.specs.Level.{IsLevel}
use Rattle.bounce_path.specs.Bounces.{IsRightBounce}

-- the level in units of 2^−60
pub record BouncePath : Type 0 where
  pub level : ℤ
  pub bounces : List Bounce

-- the path of the word w in the triangle (x, y): there is room for it, it runs at a level, and each bounce is right for the level
pub record IsPath (w : List ℕ) (x y : ℚ) (p : BouncePath) : Type 0 where
  pub stable : IsStable w
  pub shift : FormalPoint
  pub is_shift : IsShift w shift
  pub corridor : HasCorridor w x y
  pub level : IsLevel shift w x y p.level
  pub count : length p.bounces ≡ length w
  pub each : (k : ℕ) (b : Bounce) → IsPlace w k → IsRightBounce shift w x y p.level k (slice_index_or p.bounces (k - 1) b)

-- where a word is clear with this slack, its path is found; it is this program's own
abbrev pub room_for_path : ℚ
room_for_path = slack 20
