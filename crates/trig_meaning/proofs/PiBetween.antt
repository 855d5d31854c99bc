-- The approximations of pi come to lie between neighbours of 60 bits, and of 40 bits: four orders between fixed fractions,
-- which are computed.
use Rattle.std.proofs.Common.{subst₂, ℕ, ◌^◌, ℤ, pos}
use Rattle.ring_solver.proofs.Certificate.{mul_mono}
use Rattle.rat_core.specs.Fraction.{ℚ, ◌÷◌, whole, ◌+ℚ◌, ◌*ℚ◌, neg_ℚ, ◌≤ℚ◌, at_most}
use Rattle.rat_core.proofs.Laws.{ℚ_ordered, le_trans, mul_comm}
use Rattle.rat_core.proofs.Order.{whole_nonneg}
use Rattle.trig_meaning.specs.PartialSums.{pi_sum}
use Rattle.trig_meaning.specs.FromSomeOn.{FromSomeOn}
use Rattle.trig_meaning.specs.Laws.{PiWithin, PiBetween}
use Rattle.trig_meaning.proofs.PiSums.{lower, upper, pi_at_least, pi_at_most}

-- an order in units of 2^−bits
pub scaled : (bits : ℕ) (x y : ℚ) → x ≤ℚ y → x *ℚ whole (2 ^ bits) ≤ℚ y *ℚ whole (2 ^ bits)
scaled bits x y h =
    subst₂ ◌≤ℚ◌ (mul_comm (whole (2 ^ bits)) x) (mul_comm (whole (2 ^ bits)) y)
    (mul_mono ℚ_ordered (whole (2 ^ bits)) x y (whole_nonneg (2 ^ bits)) h)

-- what holds of `lower` and `upper` holds of all later approximations
between : (bits : ℕ) (lo hi : ℤ) → lo ÷ 1 ≤ℚ lower *ℚ whole (2 ^ bits) → upper *ℚ whole (2 ^ bits) ≤ℚ hi ÷ 1
    → FromSomeOn (PiWithin bits lo hi)
between bits lo hi low high = (
  16,
  λ n h. record {
    low = le_trans (lo ÷ 1) (lower *ℚ whole (2 ^ bits)) (pi_sum n *ℚ whole (2 ^ bits)) low (scaled bits lower (pi_sum n) (pi_at_least n h));
    high = le_trans (pi_sum n *ℚ whole (2 ^ bits)) (upper *ℚ whole (2 ^ bits)) (hi ÷ 1) (scaled bits (pi_sum n) upper (pi_at_most n h)) high;
  },
)

fine_low : pos 0x3243F6A8885A308D ÷ 1 ≤ℚ lower *ℚ whole (2 ^ 60)
unfolding lower at_most ◌+ℚ◌ ◌*ℚ◌ ◌÷◌ neg_ℚ
fine_low = record { le = tt }

fine_high : upper *ℚ whole (2 ^ 60) ≤ℚ pos 0x3243F6A8885A308E ÷ 1
unfolding upper at_most ◌+ℚ◌ ◌*ℚ◌ ◌÷◌ neg_ℚ
fine_high = record { le = tt }

coarse_low : pos 0x3243F6A8885 ÷ 1 ≤ℚ lower *ℚ whole (2 ^ 40)
unfolding lower at_most ◌+ℚ◌ ◌*ℚ◌ ◌÷◌ neg_ℚ
coarse_low = record { le = tt }

coarse_high : upper *ℚ whole (2 ^ 40) ≤ℚ pos 0x3243F6A8886 ÷ 1
unfolding upper at_most ◌+ℚ◌ ◌*ℚ◌ ◌÷◌ neg_ℚ
coarse_high = record { le = tt }

pub pi_between_lem : PiBetween
pi_between_lem =
    record {
      fine = between 60 (pos 0x3243F6A8885A308D) (pos 0x3243F6A8885A308E) fine_low fine_high;
      coarse = between 40 (pos 0x3243F6A8885) (pos 0x3243F6A8886) coarse_low coarse_high;
    }
