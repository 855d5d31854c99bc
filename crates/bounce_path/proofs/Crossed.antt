-- Crossings, from what is known of the heights of their corners.
use Rattle.std.proofs.Common.{◌≡◌, sym, subst, ℕ, ◌+◌, ◌-◌, List, [], ◌∷◌, ◌++◌, Some, None, Option, arith}
use Rattle.std.specs.Prelude.{IfSome}
use Rattle.rat_core.specs.Written.{Written, value}
use Rattle.edge_words.specs.Letters.{IsLetter, IsPlace, letter_at}
use Rattle.edge_words.specs.Word.{IsWord}
use Rattle.exp_sums.specs.FormalPoint.{FormalPoint}
use Rattle.unfolding.specs.Shift.{IsShift, HasShift}
use Rattle.directed_fixed.specs.Ends.{Ends}
use Rattle.defining_functions.specs.Heights.{upper_height, lower_height}
use Rattle.defining_functions.specs.Tables.{IsTable}
use Rattle.defining_functions.proofs.Limits.{upper_height_limits, lower_height_limits}
use Rattle.defining_functions.proofs.Tables.{IsTable-snoc}
use Rattle.gradient_bounds.specs.declared.sine_low.SineLow.{SineLow}
use Rattle.gradient_bounds.specs.Table.{number_in, bounds_in}
use Rattle.bounce_path.specs.declared.crossing.Crossing.{Crossing}
use Rattle.bounce_path.specs.Crossings.{LiesIn, IsCrossing}
use Rattle.bounce_path.proofs.Heights.{ends_near}

-- what a height lies in at the point of a table, if it was filled
abbrev HoldsAt : List ℕ → (FormalPoint → FormalPoint) → Option (Written × Written) → Ends → Type 0
HoldsAt w height point e = IfSome point (λ p. LiesIn w height (value p.0) (value p.1) e)

-- its ends are the bounds of its number
abbrev AreBoundsOf : List ℕ → (FormalPoint → FormalPoint) → List SineLow → Ends → Type 0
AreBoundsOf w height table e = (v : FormalPoint) → IsShift w v → e ≡ bounds_in table (height v)

pub crossing_from : (w : List ℕ) (k edge : ℕ) (point : Option (Written × Written)) (table : List SineLow) (u l : Ends) → IsWord w → IsPlace w k
    → edge ≡ letter_at w k → HasShift w → AreBoundsOf w (λ v. upper_height v w k) table u → AreBoundsOf w (λ v. lower_height v w k) table l
    → HoldsAt w (λ v. upper_height v w k) point u → HoldsAt w (λ v. lower_height v w k) point l
    → IfSome point (λ p. IsCrossing w (value p.0) (value p.1) k (record { edge = edge; upper = u; lower = l }))
crossing_from w k edge None table u l word place is shift u_is l_is u_holds l_holds = tt
crossing_from w k edge (Some p) table u l word place is (v, shift) u_is l_is u_holds l_holds =
    let x = value p.0 in
    let y = value p.1 in
    record {
      is = is;
      near = record {
        edge = subst IsLetter (sym is) (word.letters (k - 1) 0 (omega (arith, place)));
        upper = ends_near (number_in table (upper_height v w k)) x y (upper_height v w k) u (upper_height_limits w v word shift k place).light
            (u_is v shift) (u_holds v shift);
        lower = ends_near (number_in table (lower_height v w k)) x y (lower_height v w k) l (lower_height_limits w v word shift k place).light
            (l_is v shift) (l_holds v shift);
      };
      upper = u_holds;
      lower = l_holds;
    }

-- the first crossings of a word at the point of a table
abbrev pub AreFirst : List ℕ → Option (Written × Written) → ℕ → List Crossing → Type 0
AreFirst w point n cs = IfSome point (λ p. IsTable (λ i c. IsCrossing w (value p.0) (value p.1) (i + 1) c) n cs)

pub one_crossing_more : (w : List ℕ) (point : Option (Written × Written)) (n : ℕ) (cs : List Crossing) (c : Crossing) → AreFirst w point n cs
    → IfSome point (λ p. IsCrossing w (value p.0) (value p.1) (n + 1) c) → AreFirst w point (n + 1) (cs ++ c ∷ [])
one_crossing_more w None n cs c before here = tt
one_crossing_more w (Some p) n cs c before here = IsTable-snoc (λ i c. IsCrossing w (value p.0) (value p.1) (i + 1) c) n cs c before here
