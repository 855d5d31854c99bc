-- Edges that stand for all edges of a path.
-- At a corner several edges may end. So a property of corners that holds at one edge of each corner holds at every edge.

use Rattle.std.specs.Prelude.{◌≡◌, ℕ, List}
use Rattle.std.specs.List.{All, Any}
use Rattle.edge_words.specs.Letters.{IsPlace}
use Rattle.exp_sums.specs.FormalPoint.{FormalPoint}
use Rattle.unfolding.specs.Shift.{IsShift}

-- the height of each edge's corner is that of the corner of one of these edges
pub record HaveAllHeights (w : List ℕ) (height : FormalPoint → List ℕ → ℕ → FormalPoint) (edges : List ℕ) : Type 0 where
  pub places : All (IsPlace w) edges
  pub each : (k : ℕ) → IsPlace w k → Any (λ e. (v : FormalPoint) → IsShift w v → height v w k ≡ height v w e) edges
