-- What is kept of the edges that a path crosses, and of the room between their corners. No public clause speaks of this.

use Rattle.std.specs.Prelude.{◌≡◌, ℕ, ◌+◌, ◌-◌, ◌*◌, ◌^◌, ◌<◌, ◌≤◌, List, length, slice_index_or, ℤ, pos, ◌+ℤ◌, ◌-ℤ◌, ◌*ℤ◌, ◌≤ℤ◌}
use Rattle.std.specs.List.{All, Any}
use Rattle.rat_core.specs.Fraction.{ℚ}
use Rattle.edge_words.specs.Letters.{IsLetter, letter_at}
use Rattle.exp_sums.specs.FormalPoint.{FormalPoint}
use Rattle.trig_meaning.specs.FromSomeOn.{FromSomeOn}
use Rattle.trig_meaning.specs.Value.{value_at}
use Rattle.unfolding.specs.Shift.{IsShift}
use Rattle.directed_fixed.specs.Ends.{Ends, Encloses, IsWithin}
use Rattle.defining_functions.specs.Heights.{upper_height, lower_height}
use Rattle.defining_functions.specs.Tables.{IsTable}
use Rattle.bounce_path.specs.declared.bounce.Bounce.{Bounce}
use Rattle.bounce_path.specs.declared.crossing.Crossing.{Crossing}
use Rattle.bounce_path.specs.declared.gap.Gap.{Gap}
use Rattle.bounce_path.specs.declared.shares.Shares.{Shares}
use Rattle.bounce_path.specs.Bounces.{IsOnEdge, from_lower}

-- ---- crossings

-- ends of small numbers, near each other
pub record AreNear (e : Ends) : Type 0 where
  pub in_order : e.lo ≤ℤ e.hi
  pub small : IsWithin (2 ^ 76) e
  pub narrow : e.hi ≤ℤ (e.lo +ℤ pos (2 ^ 23))

-- the value of the height lies between the ends, from some n on
abbrev pub LiesIn : List ℕ → (FormalPoint → FormalPoint) → ℚ → ℚ → Ends → Type 0
LiesIn w height x y e = (v : FormalPoint) → IsShift w v → FromSomeOn (λ n. Encloses 60 e (value_at n (height v) x y))

-- an edge that is crossed, with ends that are near each other
pub record IsNearCrossing (c : Crossing) : Type 0 where
  pub edge : IsLetter c.edge
  pub upper : AreNear c.upper
  pub lower : AreNear c.lower

-- the k-th edge of a word, with the heights of its two corners
pub record IsCrossing (w : List ℕ) (x y : ℚ) (k : ℕ) (c : Crossing) : Type 0 where
  pub is : c.edge ≡ letter_at w k
  pub near : IsNearCrossing c
  pub upper : LiesIn w (λ v. upper_height v w k) x y c.upper
  pub lower : LiesIn w (λ v. lower_height v w k) x y c.lower

-- all edges of a word
abbrev pub AreCrossings : List ℕ → ℚ → ℚ → List Crossing → Type 0
AreCrossings w x y cs = IsTable (λ i c. IsCrossing w x y (i + 1) c) (length w) cs

-- ---- the room between the corners

-- the floor is the greatest upper end of a lower corner, and the ceiling the least lower end of an upper one
pub record IsGap (cs : List Crossing) (g : Gap) : Type 0 where
  pub floor_all : All (λ c. c.lower.hi ≤ℤ g.floor) cs
  pub floor_one : Any (λ c. c.lower.hi ≡ g.floor) cs
  pub ceiling_all : All (λ c. g.ceiling ≤ℤ c.upper.lo) cs
  pub ceiling_one : Any (λ c. c.upper.lo ≡ g.ceiling) cs

-- both numbers are small
pub record IsSmallGap (g : Gap) : Type 0 where
  pub floor : IsWithin (2 ^ 76) (record { lo = g.floor; hi = g.floor })
  pub ceiling : IsWithin (2 ^ 76) (record { lo = g.ceiling; hi = g.ceiling })

-- the number in the middle of a gap that is not too small, rounded down
pub record IsMiddle (g : Gap) (h : ℤ) : Type 0 where
  pub room : (g.floor +ℤ pos (2 ^ 40 - 2 ^ 24)) ≤ℤ g.ceiling
  pub low : (pos 2 *ℤ h) ≤ℤ (g.floor +ℤ g.ceiling)
  pub high : (g.floor +ℤ g.ceiling) ≤ℤ (pos 2 *ℤ h +ℤ pos 1)

-- ---- shares of an edge

-- half of the least gap
abbrev pub half_room : ℕ
half_room = 2 ^ 39 - 2 ^ 23

-- the level is well above the lower corner and well below the upper one
pub record IsWellInside (c : Crossing) (h : ℤ) : Type 0 where
  pub low : (c.lower.hi +ℤ pos half_room) ≤ℤ h
  pub high : (h +ℤ pos half_room) ≤ℤ c.upper.lo

-- a is the share of r in s in parts of 2^−40, rounded down, and b that of u in t, rounded up
pub record IsRoundedDown (r s a : ℕ) : Type 0 where
  pub at_most : a * s ≤ 2 ^ 40 * r
  pub near : 2 ^ 40 * r < a * s + s

pub record IsRoundedUp (u t b : ℕ) : Type 0 where
  pub at_least : 2 ^ 40 * u ≤ b * t
  pub near : b * t < 2 ^ 40 * u + t

-- the greatest number of parts that is at most the least share, and the least one that is at least the greatest
pub record AreShares (c : Crossing) (h : ℤ) (s : Shares) : Type 0 where
  pub least : (pos s.least *ℤ (c.upper.hi -ℤ c.lower.hi)) ≤ℤ (pos (2 ^ 40) *ℤ (h -ℤ c.lower.hi))
  pub greatest : (pos (2 ^ 40) *ℤ (h -ℤ c.lower.lo)) ≤ℤ (pos s.greatest *ℤ (c.upper.lo -ℤ c.lower.lo))
  pub above : 0 < s.least
  pub in_order : s.least ≤ s.greatest
  pub below : s.greatest < 2 ^ 40
  pub narrow : s.greatest ≤ s.least + 2 ^ 24

-- ---- bounces

-- where a path at this level meets the k-th edge, by the shares of its crossing
pub record IsBounceAt (h : ℤ) (c : Crossing) (k : ℕ) (b : Bounce) : Type 0 where
  pub edge : b.edge ≡ c.edge
  pub on_edge : IsOnEdge b
  pub shares : AreShares c h (from_lower k b)

-- a bounce for each crossing
abbrev pub AreBounces : ℤ → List Crossing → List Bounce → Type 0
AreBounces h cs bs = IsTable (λ i b. (c : Crossing) → IsBounceAt h (slice_index_or cs i c) (i + 1) b) (length cs) bs
