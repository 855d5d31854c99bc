use Rattle.std.proofs.Common.{◌≡◌, ℕ, ◌<◌}
use Rattle.gradient_bounds.specs.Clear.{slack, IsClear}
use Rattle.covering_file.specs.Faults.{word_at, IsListed}
use Rattle.covering_claims.proofs.shown.first_shown.Given as goal

-- no word before this one is clear with the wider slack
abbrev pub invariant-loop-i : goal.invariant-loop-i
invariant-loop-i g l =
    (l.tests ≡ l.fn.tests)
    × ((j : ℕ) → IsListed l.fn.tests j → j < l.i → ¬ (IsClear (word_at l.fn.tests j) l.place (slack g.S.Scale.HIGH_BITS)))
