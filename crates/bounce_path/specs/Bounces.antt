-- Where a path meets the edges that it crosses: its bounce points.
-- Over the k-th edge the height rises evenly from the lower corner to the upper one, so the level tells the place at which the path meets the edge.

use Rattle.std.specs.Prelude.{◌≡◌, ℕ, ◌+◌, ◌-◌, ◌%◌, ◌^◌, ◌==◌, ◌<◌, ◌≤◌, List, ℤ, pos, if◌then◌else◌}
use Rattle.rat_core.specs.Fraction.{ℚ, ◌÷◌, ◌-ℚ◌, ◌*ℚ◌, ◌≤ℚ◌}
use Rattle.edge_words.specs.Letters.{IsLetter, letter_at}
use Rattle.exp_sums.specs.FormalPoint.{FormalPoint}
use Rattle.trig_meaning.specs.FromSomeOn.{FromSomeOn}
use Rattle.bounce_path.specs.declared.bounce.Bounce.{Bounce}
use Rattle.bounce_path.specs.declared.shares.Shares.{Shares}
use Rattle.bounce_path.specs.Level.{height_of, upper_at, lower_at}

-- a number of parts of which an edge has 2^40
abbrev pub share : ℕ → ℚ
share a = pos a ÷ 2 ^ 40

-- A place on edge 1, 2 or 3, inside the edge and known within 2^24 parts. The way along edge d goes from corner d + 1 to corner d + 2.
pub record IsOnEdge (b : Bounce) : Type 0 where
  pub edge : IsLetter b.edge
  pub above : 0 < b.low
  pub in_order : b.low ≤ b.high
  pub below : b.high < 2 ^ 40
  pub narrow : b.high ≤ b.low + 2 ^ 24

-- The same place on the way from the lower corner of the k-th edge to the upper one. The triangle before the edge runs counterclockwise where k is odd,
-- and then the lower corner is d + 1. Where k is even it is d + 2.
abbrev pub from_lower : ℕ → Bounce → Shares
from_lower k b = if k % 2 == 1 then record { least = b.low; greatest = b.high } else record { least = 2 ^ 40 - b.high; greatest = 2 ^ 40 - b.low }

-- the height is so far up from the lower corner of the k-th edge to the upper one, from some n on
abbrev pub IsUpBy : FormalPoint → List ℕ → ℚ → ℚ → ℤ → ℕ → Shares → Type 0
IsUpBy v w x y h k s = FromSomeOn (λ n.
    let way = upper_at v w x y n k -ℚ lower_at v w x y n k in
    let rise = height_of h -ℚ lower_at v w x y n k in
    (share s.least *ℚ way ≤ℚ rise) × (rise ≤ℚ share s.greatest *ℚ way))

-- a path at the level h meets the k-th edge here
pub record IsRightBounce (v : FormalPoint) (w : List ℕ) (x y : ℚ) (h : ℤ) (k : ℕ) (b : Bounce) : Type 0 where
  pub edge : b.edge ≡ letter_at w k
  pub on_edge : IsOnEdge b
  pub place : IsUpBy v w x y h k (from_lower k b)
