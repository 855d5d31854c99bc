-- What holds of all long enough partial sums.
use Rattle.std.specs.Prelude.{ℕ, ◌≤◌}

-- P holds from some n on
abbrev pub FromSomeOn : (ℕ → Type 0) → Type 0
FromSomeOn P = (start : ℕ) × ((n : ℕ) → start ≤ n → P n)
