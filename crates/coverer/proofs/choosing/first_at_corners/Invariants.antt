use Rattle.std.proofs.Common.{◌≡◌, ℕ, ◌<◌}
use Rattle.gradient_bounds.specs.CornerClear.{IsCornerClear}
use Rattle.gradient_bounds.specs.Slacks as slacks
use Rattle.covering_file.specs.Faults.{word_at, IsListed}
use Rattle.coverer.proofs.choosing.first_at_corners.Given as goal

-- no word before this one is clear at the corners with the findable slack
abbrev pub invariant-loop-i : goal.invariant-loop-i
invariant-loop-i l =
    (l.tests ≡ l.fn.tests)
    × ((j : ℕ) → IsListed l.fn.tests j → j < l.i → ¬ (IsCornerClear (word_at l.fn.tests j) l.place slacks.findable.corner))
