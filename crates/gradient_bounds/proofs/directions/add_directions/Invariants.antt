use Rattle.std.proofs.Common.{List, ◌++◌, ◌≤◌, ◌+◌, take}
use Rattle.exp_sums.specs.declared.terms.Term.{Term}
use Rattle.exp_sums.specs.Limits.{IsWithin, weight}
use Rattle.gradient_bounds.specs.Kept.{IsMarkOf}
use Rattle.gradient_bounds.proofs.directions.add_directions.Given as goal

-- the directions of the terms so far are taken in
abbrev pub invariant-loop-term : goal.invariant-loop-term
invariant-loop-term l =
    ((known : List Term) → IsMarkOf known l.initial.directions → IsMarkOf (known ++ take l.term-index l.terms) l.directions)
    × (IsWithin 130 l.directions)
    × (weight l.directions ≤ weight l.initial.directions + l.term-index)
