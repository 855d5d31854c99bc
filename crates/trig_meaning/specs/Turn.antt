-- The n-th approximation of sin(pi·t), for every fraction t.
--
-- An even whole number brings t to 0 ≤ t < 2, one turn. There the sine is made of four pieces, each the n-th sine sum at
-- the n-th approximation of pi times a number from 0 to 1/2, and the first piece that fits is taken:
--
--      t            0  ..  1/2      1/2  ..  1       1  ..  3/2       3/2  ..  2
--      sine sum at      t              1 − t           t − 1            2 − t
--      sign             +                +               −                −
use Rattle.std.specs.Prelude.{ℕ, cond, pos}
use Rattle.rat_core.specs.Fraction.{ℚ, ◌÷◌, whole, ◌-ℚ◌, ◌*ℚ◌, neg_ℚ, at_most, wrapped}
use Rattle.trig_meaning.specs.PartialSums.{pi_sum, sine_sum}

-- the four pieces, from left to right
abbrev pub first_piece : ℕ → ℚ → ℚ
first_piece n t = sine_sum n (pi_sum n *ℚ t)

abbrev pub second_piece : ℕ → ℚ → ℚ
second_piece n t = sine_sum n (pi_sum n *ℚ (whole 1 -ℚ t))

abbrev pub third_piece : ℕ → ℚ → ℚ
third_piece n t = neg_ℚ (sine_sum n (pi_sum n *ℚ (t -ℚ whole 1)))

abbrev pub fourth_piece : ℕ → ℚ → ℚ
fourth_piece n t = neg_ℚ (sine_sum n (pi_sum n *ℚ (whole 2 -ℚ t)))

-- the first piece that fits, for 0 ≤ t < 2
abbrev pub sine_within_turn : ℕ → ℚ → ℚ
sine_within_turn n t =
    cond (at_most t (pos 1 ÷ 2)) (first_piece n t)
    (cond (at_most t (whole 1)) (second_piece n t)
    (cond (at_most t (pos 3 ÷ 2)) (third_piece n t)
    (fourth_piece n t)))

-- the n-th approximation of sin(pi·t)
unfoldable pub sine_of_turn : ℕ → ℚ → ℚ
sine_of_turn n t = sine_within_turn n (wrapped t)
