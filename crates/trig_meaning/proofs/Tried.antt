-- The definitions tried on numbers from outside. The right sides were worked out with Python's module `fractions`, from
-- the textbook's formulas: 16·arctan(1/5) − 4·arctan(1/239), the Taylor polynomials of the sine and the cosine, and sin(pi·t) by the four
-- pieces with t brought to 0 ≤ t < 2 by t − 2·floor(t/2). Each line is computed by the checker.
use mathlib.Core.Quot.{sound}
use Rattle.std.proofs.Common.{◌≡◌, refl, pos, neg_ℤ}
use Rattle.rat_core.specs.Fraction.{◌÷◌, ◌+ℚ◌, ◌-ℚ◌, ◌*ℚ◌, neg_ℚ, at_most, ◌≤ℚ◌, abs, floor}
use Rattle.trig_meaning.specs.PartialSums.{arctan_sum, pi_sum, sine_sum, cosine_sum}
use Rattle.trig_meaning.specs.Turn.{sine_of_turn}

pi_sum_0 : pi_sum 0 ≡ pos 3804 ÷ 1195
unfolding pi_sum arctan_sum ◌+ℚ◌ ◌*ℚ◌ neg_ℚ ◌÷◌
pi_sum_0 = sound refl

pi_sum_1 : pi_sum 1 ≡ pos 5359397032 ÷ 1706489875
unfolding pi_sum arctan_sum ◌+ℚ◌ ◌*ℚ◌ neg_ℚ ◌÷◌
pi_sum_1 = sound refl

pi_sum_2 : pi_sum 2 ≡ pos 38279241713339684 ÷ 12184551018734375
unfolding pi_sum arctan_sum ◌+ℚ◌ ◌*ℚ◌ neg_ℚ ◌÷◌
pi_sum_2 = sound refl

cosine_sum_1_at_2_3 : cosine_sum 1 (pos 2 ÷ 3) ≡ pos 7 ÷ 9
unfolding cosine_sum ◌+ℚ◌ ◌*ℚ◌ neg_ℚ ◌÷◌
cosine_sum_1_at_2_3 = sound refl

cosine_sum_2_at_1_2 : cosine_sum 2 (pos 1 ÷ 2) ≡ pos 337 ÷ 384
unfolding cosine_sum ◌+ℚ◌ ◌*ℚ◌ neg_ℚ ◌÷◌
cosine_sum_2_at_1_2 = sound refl

cosine_sum_3_at_minus_3_2 : cosine_sum 3 (neg_ℤ (pos 3) ÷ 2) ≡ pos 359 ÷ 5120
unfolding cosine_sum ◌+ℚ◌ ◌*ℚ◌ neg_ℚ ◌÷◌
cosine_sum_3_at_minus_3_2 = sound refl

sine_0_at_1_6 : sine_of_turn 0 (pos 1 ÷ 6) ≡ pos 634 ÷ 1195
unfolding sine_of_turn sine_sum pi_sum arctan_sum at_most floor ◌+ℚ◌ ◌*ℚ◌ neg_ℚ ◌÷◌
sine_0_at_1_6 = sound refl

sine_0_at_1_4 : sine_of_turn 0 (pos 1 ÷ 4) ≡ pos 951 ÷ 1195
unfolding sine_of_turn sine_sum pi_sum arctan_sum at_most floor ◌+ℚ◌ ◌*ℚ◌ neg_ℚ ◌÷◌
sine_0_at_1_4 = sound refl

sine_0_at_1_2 : sine_of_turn 0 (pos 1 ÷ 2) ≡ pos 1902 ÷ 1195
unfolding sine_of_turn sine_sum pi_sum arctan_sum at_most floor ◌+ℚ◌ ◌*ℚ◌ neg_ℚ ◌÷◌
sine_0_at_1_2 = sound refl

sine_0_at_3_4 : sine_of_turn 0 (pos 3 ÷ 4) ≡ pos 951 ÷ 1195
unfolding sine_of_turn sine_sum pi_sum arctan_sum at_most floor ◌+ℚ◌ ◌*ℚ◌ neg_ℚ ◌÷◌
sine_0_at_3_4 = sound refl

sine_0_at_5_4 : sine_of_turn 0 (pos 5 ÷ 4) ≡ neg_ℤ (pos 951) ÷ 1195
unfolding sine_of_turn sine_sum pi_sum arctan_sum at_most floor ◌+ℚ◌ ◌*ℚ◌ neg_ℚ ◌÷◌
sine_0_at_5_4 = sound refl

sine_0_at_7_4 : sine_of_turn 0 (pos 7 ÷ 4) ≡ neg_ℤ (pos 951) ÷ 1195
unfolding sine_of_turn sine_sum pi_sum arctan_sum at_most floor ◌+ℚ◌ ◌*ℚ◌ neg_ℚ ◌÷◌
sine_0_at_7_4 = sound refl

sine_0_at_minus_1_4 : sine_of_turn 0 (neg_ℤ (pos 1) ÷ 4) ≡ neg_ℤ (pos 951) ÷ 1195
unfolding sine_of_turn sine_sum pi_sum arctan_sum at_most floor ◌+ℚ◌ ◌*ℚ◌ neg_ℚ ◌÷◌
sine_0_at_minus_1_4 = sound refl

sine_0_at_23_6 : sine_of_turn 0 (pos 23 ÷ 6) ≡ neg_ℤ (pos 634) ÷ 1195
unfolding sine_of_turn sine_sum pi_sum arctan_sum at_most floor ◌+ℚ◌ ◌*ℚ◌ neg_ℚ ◌÷◌
sine_0_at_23_6 = sound refl

sine_1_at_1_6 : sine_of_turn 1 (pos 1 ÷ 6) ≡ pos 201075239648032640754870711452 ÷ 402528065800147700291560546875
unfolding sine_of_turn sine_sum pi_sum arctan_sum at_most floor ◌+ℚ◌ ◌*ℚ◌ neg_ℚ ◌÷◌
sine_1_at_1_6 = sound refl

sine_1_at_1_4 : sine_of_turn 1 (pos 1 ÷ 4) ≡ pos 10502709959796802282460127994 ÷ 14908446881486951862650390625
unfolding sine_of_turn sine_sum pi_sum arctan_sum at_most floor ◌+ℚ◌ ◌*ℚ◌ neg_ℚ ◌÷◌
sine_1_at_1_4 = sound refl

sine_1_at_1_2 : sine_of_turn 1 (pos 1 ÷ 2) ≡ pos 13789543696579484762567211452 ÷ 14908446881486951862650390625
unfolding sine_of_turn sine_sum pi_sum arctan_sum at_most floor ◌+ℚ◌ ◌*ℚ◌ neg_ℚ ◌÷◌
sine_1_at_1_2 = sound refl

sine_1_at_3_4 : sine_of_turn 1 (pos 3 ÷ 4) ≡ pos 10502709959796802282460127994 ÷ 14908446881486951862650390625
unfolding sine_of_turn sine_sum pi_sum arctan_sum at_most floor ◌+ℚ◌ ◌*ℚ◌ neg_ℚ ◌÷◌
sine_1_at_3_4 = sound refl

sine_1_at_5_4 : sine_of_turn 1 (pos 5 ÷ 4) ≡ neg_ℤ (pos 10502709959796802282460127994) ÷ 14908446881486951862650390625
unfolding sine_of_turn sine_sum pi_sum arctan_sum at_most floor ◌+ℚ◌ ◌*ℚ◌ neg_ℚ ◌÷◌
sine_1_at_5_4 = sound refl

sine_1_at_7_4 : sine_of_turn 1 (pos 7 ÷ 4) ≡ neg_ℤ (pos 10502709959796802282460127994) ÷ 14908446881486951862650390625
unfolding sine_of_turn sine_sum pi_sum arctan_sum at_most floor ◌+ℚ◌ ◌*ℚ◌ neg_ℚ ◌÷◌
sine_1_at_7_4 = sound refl

sine_1_at_minus_1_4 : sine_of_turn 1 (neg_ℤ (pos 1) ÷ 4) ≡ neg_ℤ (pos 10502709959796802282460127994) ÷ 14908446881486951862650390625
unfolding sine_of_turn sine_sum pi_sum arctan_sum at_most floor ◌+ℚ◌ ◌*ℚ◌ neg_ℚ ◌÷◌
sine_1_at_minus_1_4 = sound refl

sine_1_at_23_6 : sine_of_turn 1 (pos 23 ÷ 6) ≡ neg_ℤ (pos 201075239648032640754870711452) ÷ 402528065800147700291560546875
unfolding sine_of_turn sine_sum pi_sum arctan_sum at_most floor ◌+ℚ◌ ◌*ℚ◌ neg_ℚ ◌÷◌
sine_1_at_23_6 = sound refl

-- on the first quarter the approximation at n = 0 is a line, which rises by exactly pi times as much as t
line_0 : abs (sine_of_turn 0 (pos 1 ÷ 6) -ℚ sine_of_turn 0 (pos 1 ÷ 4)) ≡ pi_sum 0 *ℚ abs (pos 1 ÷ 6 -ℚ pos 1 ÷ 4)
unfolding sine_of_turn sine_sum pi_sum arctan_sum at_most floor ◌+ℚ◌ ◌*ℚ◌ neg_ℚ ◌÷◌
line_0 = sound refl

-- across the end of a turn
steep_1 : abs (sine_of_turn 1 (neg_ℤ (pos 1) ÷ 4) -ℚ sine_of_turn 1 (pos 1 ÷ 6)) ≤ℚ pi_sum 1 *ℚ abs (neg_ℤ (pos 1) ÷ 4 -ℚ pos 1 ÷ 6)
unfolding sine_of_turn sine_sum pi_sum arctan_sum at_most floor ◌+ℚ◌ ◌*ℚ◌ neg_ℚ ◌÷◌
steep_1 = record { le = tt }
