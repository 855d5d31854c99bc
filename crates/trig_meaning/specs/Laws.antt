-- The sentences of the laws.
use Rattle.std.specs.Prelude.{◌≡◌, ℕ, ◌^◌, ℤ, pos}
use Rattle.rat_core.specs.Fraction.{ℚ, ◌÷◌, whole, ◌+ℚ◌, ◌-ℚ◌, ◌*ℚ◌, neg_ℚ, ◌≤ℚ◌, abs}
use Rattle.exp_sums.specs.declared.direction.Dir.{Dir}
use Rattle.exp_sums.specs.FormalPoint.{FormalPoint, monomial, ◌+ₚ◌, ◌*ₚ◌, conj}
use Rattle.exp_sums.specs.Limits.{weight}
use Rattle.exp_sums.specs.SineForm.{sine_form}
use Rattle.trig_meaning.specs.PartialSums.{pi_sum, sine_sum, cosine_sum}
use Rattle.trig_meaning.specs.Turn.{first_piece, second_piece, third_piece, fourth_piece, sine_of_turn}
use Rattle.trig_meaning.specs.FromSomeOn.{FromSomeOn}
use Rattle.trig_meaning.specs.Value.{turn_of, value_at, first_coordinate, second_coordinate}

-- ---- the partial sums

-- lo·2^−bits ≤ pi ≤ hi·2^−bits, for the n-th approximation of pi
pub record PiWithin (bits : ℕ) (lo hi : ℤ) (n : ℕ) : Type 0 where
  pub low : lo ÷ 1 ≤ℚ pi_sum n *ℚ whole (2 ^ bits)
  pub high : pi_sum n *ℚ whole (2 ^ bits) ≤ℚ hi ÷ 1

-- from some n on, the approximations of pi lie between two neighbours of 60 bits, and between two of 40 bits
pub record PiBetween : Type 0 where
  pub fine : FromSomeOn (PiWithin 60 (pos 0x3243F6A8885A308D) (pos 0x3243F6A8885A308E))
  pub coarse : FromSomeOn (PiWithin 40 (pos 0x3243F6A8885) (pos 0x3243F6A8886))

-- at half of pi the cosine sum is within 2^−72 of 0, and the sine sum within 2^−72 of 1
pub record QuarterSumsAt (n : ℕ) : Type 0 where
  pub cosine : abs (cosine_sum n (pi_sum n *ℚ (pos 1 ÷ 2))) ≤ℚ pos 1 ÷ 2 ^ 72
  pub sine : abs (sine_sum n (pi_sum n *ℚ (pos 1 ÷ 2)) -ℚ whole 1) ≤ℚ pos 1 ÷ 2 ^ 72

abbrev pub QuarterSums : Type 0
QuarterSums = FromSomeOn QuarterSumsAt

-- ---- the approximation of sin(pi·t)

-- where two pieces meet, they agree: at 0 (which is 2), 1/2, 1 and 3/2
pub record PiecesAgree : Type 0 where
  pub at_0 : (n : ℕ) → fourth_piece n (whole 2) ≡ first_piece n (whole 0)
  pub at_half : (n : ℕ) → first_piece n (pos 1 ÷ 2) ≡ second_piece n (pos 1 ÷ 2)
  pub at_1 : (n : ℕ) → second_piece n (whole 1) ≡ third_piece n (whole 1)
  pub at_3_halves : (n : ℕ) → third_piece n (pos 3 ÷ 2) ≡ fourth_piece n (pos 3 ÷ 2)

abbrev pub SineIsOdd : Type 0
SineIsOdd = (n : ℕ) (t : ℚ) → sine_of_turn n (neg_ℚ t) ≡ neg_ℚ (sine_of_turn n t)

-- half a turn more, which is t + 1, has the opposite sine
abbrev pub HalfTurnNegates : Type 0
HalfTurnNegates = (n : ℕ) (t : ℚ) → sine_of_turn n (t +ℚ whole 1) ≡ neg_ℚ (sine_of_turn n t)

-- k whole turns more, which is t + 2k, have the same sine
abbrev pub WholeTurnsKeep : Type 0
WholeTurnsKeep = (n : ℕ) (t : ℚ) (k : ℤ) → sine_of_turn n (t +ℚ whole 2 *ℚ (k ÷ 1)) ≡ sine_of_turn n t

-- from some n on, the approximation changes by at most pi times as much as t does, for all fractions alike
abbrev pub SineIsLipschitz : Type 0
SineIsLipschitz = FromSomeOn (λ n. (t u : ℚ) → abs (sine_of_turn n t -ℚ sine_of_turn n u) ≤ℚ pi_sum n *ℚ abs (t -ℚ u))

-- from some n on, cos t·sin u − sin t·cos u = sin(u − t) within 2^−66, for all fractions alike; the cosine of pi·t is the sine
-- of pi·(t + 1/2)
abbrev pub Addition : Type 0
Addition =
    FromSomeOn (λ n. (t u : ℚ) →
    abs (sine_of_turn n (t +ℚ pos 1 ÷ 2) *ℚ sine_of_turn n u -ℚ sine_of_turn n t *ℚ sine_of_turn n (u +ℚ pos 1 ÷ 2) -ℚ sine_of_turn n (u -ℚ t))
    ≤ℚ pos 1 ÷ 2 ^ 66)

-- the straight line through the values of f at t − h and t + h, at t + u·h
abbrev pub chord : (ℚ → ℚ) → ℚ → ℚ → ℚ → ℚ
chord f t h u = (pos 1 ÷ 2) *ℚ (whole 1 -ℚ u) *ℚ f (t -ℚ h) +ℚ (pos 1 ÷ 2) *ℚ (whole 1 +ℚ u) *ℚ f (t +ℚ h)

-- from some n on, the approximation differs from its chords over 2·h by at most 2·pi²·h² + 2^−50
abbrev pub SecondOrder : Type 0
SecondOrder =
    FromSomeOn (λ n. (t h u : ℚ) → whole 0 ≤ℚ h → h ≤ℚ pos 1 ÷ 8 → neg_ℚ (whole 1) ≤ℚ u → u ≤ℚ whole 1 →
    abs (sine_of_turn n (t +ℚ u *ℚ h) -ℚ chord (sine_of_turn n) t h u) ≤ℚ whole 2 *ℚ (pi_sum n *ℚ pi_sum n) *ℚ (h *ℚ h) +ℚ pos 1 ÷ 2 ^ 50)

-- ---- values and coordinates

-- the value of a single term, and of a sum
pub record ValuesAddUp : Type 0 where
  pub of_term : (n : ℕ) (c : ℤ) (d : Dir) (x y : ℚ) → value_at n (monomial c d) x y ≡ (c ÷ 1) *ℚ sine_of_turn n (turn_of d x y)
  pub of_sum : (n : ℕ) (p q : FormalPoint) (x y : ℚ) → value_at n (p +ₚ q) x y ≡ value_at n p x y +ℚ value_at n q x y

-- the sine form of a point has the point's second coordinate as its value
abbrev pub SineFormsAreSecondCoordinates : Type 0
SineFormsAreSecondCoordinates = (n : ℕ) (p : FormalPoint) (x y : ℚ) → value_at n (sine_form p) x y ≡ second_coordinate n p x y

-- the first coordinate of a single term is its second one a quarter turn further, which is 1/2 more; and that of a sum
pub record FirstCoordinatesAddUp : Type 0 where
  pub of_term : (n : ℕ) (c : ℤ) (d : Dir) (x y : ℚ) → first_coordinate n (monomial c d) x y ≡ (c ÷ 1) *ℚ sine_of_turn n (turn_of d x y +ℚ pos 1 ÷ 2)
  pub of_sum : (n : ℕ) (p q : FormalPoint) (x y : ℚ) → first_coordinate n (p +ₚ q) x y ≡ first_coordinate n p x y +ℚ first_coordinate n q x y

-- the conjugate of a point is its mirror image in the first axis
pub record ConjugatesAreMirrored : Type 0 where
  pub first : (n : ℕ) (p : FormalPoint) (x y : ℚ) → first_coordinate n (conj p) x y ≡ first_coordinate n p x y
  pub second : (n : ℕ) (p : FormalPoint) (x y : ℚ) → second_coordinate n (conj p) x y ≡ neg_ℚ (second_coordinate n p x y)

-- from some n on, the cross product of two points is the second coordinate of the conjugate of one times the other, within
-- 2^−66 for each unit of both weights
abbrev pub CrossProducts : Type 0
CrossProducts =
    FromSomeOn (λ n. (p q : FormalPoint) (x y : ℚ) →
    abs (first_coordinate n p x y *ℚ second_coordinate n q x y -ℚ second_coordinate n p x y *ℚ first_coordinate n q x y
    -ℚ second_coordinate n (conj p *ₚ q) x y) ≤ℚ whole (weight p) *ℚ (whole (weight q) *ℚ (pos 1 ÷ 2 ^ 66)))
