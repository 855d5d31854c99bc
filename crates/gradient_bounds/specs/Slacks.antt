-- The slacks with which claims on boxes are judged: how far beyond its drift or its sag a function has to reach, for each unit of its weight and one more.
-- All are this program's own.

use Rattle.rat_core.specs.Fraction.{ℚ}
use Rattle.gradient_bounds.specs.Clear.{slack}

-- one slack for each way of judging a box: from its centre, and from its corners
pub record Slacks : Type 0 where
  pub gradient : ℚ
  pub corner : ℚ

-- a claim that is passed holds with these
abbrev pub sound : Slacks
sound = record { gradient = slack 60; corner = slack 36 }

-- a claim that holds with these is never refused
abbrev pub sure : Slacks
sure = record { gradient = slack 40; corner = slack 32 }

-- a word that is clear with these is never passed over by the coverer
abbrev pub findable : Slacks
findable = record { gradient = slack 28; corner = slack 28 }
