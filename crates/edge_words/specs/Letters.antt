-- Letters, and the places at which they stand in a closed list.
-- A billiard path hits the edges 1, 2 and 3; unfolded, it crosses them. A periodic one crosses the same ones again and again, so that the first
-- crossing comes after the last.

use Rattle.std.specs.Prelude.{ℕ, ◌-◌, ◌%◌, ◌≤◌, List, length, slice_index}

-- a letter is an edge: 1, 2 or 3
abbrev pub IsLetter : ℕ → Type 0
IsLetter x = (1 ≤ x) × (x ≤ 3)

-- places are counted from 1
abbrev pub IsPlace : List ℕ → ℕ → Type 0
IsPlace w i = (1 ≤ i) × (i ≤ length w)

-- what stands at a place
abbrev pub letter_at : List ℕ → ℕ → ℕ
letter_at w i = slice_index w (i - 1)

-- what stands after a place, where the first comes after the last
abbrev pub letter_after : List ℕ → ℕ → ℕ
letter_after w i = slice_index w (i % length w)
