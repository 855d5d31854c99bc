-- The partial sums of Machin's formula for pi and of the series of the sine and the cosine, as fractions.
use Rattle.std.specs.Prelude.{ℕ, zero, suc, ◌+◌, ◌*◌, ◌^◌, pos}
use Rattle.rat_core.specs.Fraction.{ℚ, ◌÷◌, whole, ◌+ℚ◌, ◌-ℚ◌, ◌*ℚ◌, neg_ℚ}

-- f 0 + f 1 + .. + f n
abbrev pub sum_to : (ℕ → ℚ) → ℕ → ℚ
sum_to f zero = f 0
sum_to f (suc n) = sum_to f n +ℚ f (suc n)

-- (−1)^j
abbrev pub sign : ℕ → ℚ
sign zero = whole 1
sign (suc j) = neg_ℚ (sign j)

-- x^n
abbrev pub power : ℚ → ℕ → ℚ
power x zero = whole 1
power x (suc n) = x *ℚ power x n

-- n!
abbrev pub factorial : ℕ → ℕ
factorial zero = 1
factorial (suc n) = suc n * factorial n

-- The arctangent of 1/k: the sum over j = 0..n of (−1)^j / ((2j + 1)·k^(2j + 1)).
unfoldable pub arctan_sum : ℕ → ℕ → ℚ
arctan_sum k = sum_to (λ j. sign j *ℚ (pos 1 ÷ ((2 * j + 1) * k ^ (2 * j + 1))))

-- The n-th approximation of pi: pi = 16·arctan(1/5) − 4·arctan(1/239) (John Machin, 1706), both cut after the term n.
unfoldable pub pi_sum : ℕ → ℚ
pi_sum n = whole 16 *ℚ arctan_sum 5 n -ℚ whole 4 *ℚ arctan_sum 239 n

-- The n-th sine sum, which is the Taylor polynomial of the sine at 0: the sum over j = 0..n of (−1)^j·z^(2j + 1) / (2j + 1)!.
unfoldable pub sine_sum : ℕ → ℚ → ℚ
sine_sum n z = sum_to (λ j. sign j *ℚ (power z (2 * j + 1) *ℚ (pos 1 ÷ factorial (2 * j + 1)))) n

-- The n-th cosine sum, which is the Taylor polynomial of the cosine at 0: the sum over j = 0..n of (−1)^j·z^(2j) / (2j)!.
unfoldable pub cosine_sum : ℕ → ℚ → ℚ
cosine_sum n z = sum_to (λ j. sign j *ℚ (power z (2 * j) *ℚ (pos 1 ÷ factorial (2 * j)))) n
