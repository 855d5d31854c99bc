-- At half of pi the cosine sum is near 0, and the sine sum near 1: the sums of 29 terms at a fraction near half of pi are
-- computed, and so is what is left to the later sums and to the other approximations of pi.
use Rattle.std.proofs.Common.{refl, sym, ap, ◌∙◌, ℕ, suc, ◌^◌, ◌≤◌, pos, [], ◌∷◌, arith}
use Rattle.ring_solver.specs.Expression.{var, num, ◌⊞◌, ◌⊟◌, ◌⊠◌}
use Rattle.ring_solver.specs.Ordered.{le, times}
use Rattle.ring_solver.proofs.Solver.{ring₁, ring₄}
use Rattle.ring_solver.proofs.Certificate.{le₃, certified, moved}
use Rattle.rat_core.specs.Fraction.{ℚ, ◌÷◌, whole, ◌+ℚ◌, ◌-ℚ◌, ◌*ℚ◌, neg_ℚ, ◌≤ℚ◌, at_most, abs}
use Rattle.rat_core.proofs.Laws.{ℚ_ring, ℚ_ordered, le_trans}
use Rattle.rat_core.proofs.Order.{over_nonneg, abs_of_nonneg}
use Rattle.rat_core.proofs.Sizes.{abs_add_three}
use Rattle.trig_meaning.specs.PartialSums.{pi_sum, sine_sum, cosine_sum}
use Rattle.trig_meaning.specs.Laws.{QuarterSums}
use Rattle.trig_meaning.proofs.Sums.{sum_to_at_most}
use Rattle.trig_meaning.proofs.Alternating.{twice}
use Rattle.trig_meaning.proofs.Odd.{odd_is}
use Rattle.trig_meaning.proofs.PiSums.{lower, upper, pi_at_least, pi_at_most}
use Rattle.trig_meaning.proofs.Exponential.{exponential_term, exponential_sum, exponential_term_mono, exponential_later}
use Rattle.trig_meaning.proofs.Turned.{turned_sum, sine_sum-turned_sum, cosine_sum-turned_sum, turned_tail, turned_change, one_small, zero_small}

-- two neighbours of 77 bits between which half of pi lies
abbrev before : ℚ
before = pos 0x3243F6A8885A308D3131 ÷ 2 ^ 77

abbrev after : ℚ
after = pos 0x3243F6A8885A308D3132 ÷ 2 ^ 77

before_lower : before ≤ℚ lower *ℚ (pos 1 ÷ 2)
unfolding lower at_most ◌+ℚ◌ ◌*ℚ◌ ◌÷◌ neg_ℚ
before_lower = record { le = tt }

upper_after : upper *ℚ (pos 1 ÷ 2) ≤ℚ after
unfolding upper at_most ◌+ℚ◌ ◌*ℚ◌ ◌÷◌ neg_ℚ
upper_after = record { le = tt }

after_small : after ≤ℚ pos 8 ÷ 5
unfolding at_most ◌÷◌
after_small = record { le = tt }

eight_fifths_in_reach : pos 8 ÷ 5 ≤ℚ pos 16 ÷ 5
unfolding at_most ◌÷◌
eight_fifths_in_reach = record { le = tt }

cosine_closed : abs (turned_sum (whole 1) (whole 0) before 29 -ℚ whole 0) +ℚ (exponential_sum after 29 -ℚ exponential_sum before 29)
    +ℚ exponential_term (pos 8 ÷ 5) 29 ≤ℚ pos 1 ÷ 2 ^ 72
unfolding turned_sum at_most ◌+ℚ◌ ◌*ℚ◌ ◌÷◌ neg_ℚ
cosine_closed = record { le = tt }

sine_closed : abs (turned_sum (whole 0) (whole 1) before 29 -ℚ whole 1) +ℚ (exponential_sum after 29 -ℚ exponential_sum before 29)
    +ℚ exponential_term (pos 8 ÷ 5) 29 ≤ℚ pos 1 ÷ 2 ^ 72
unfolding turned_sum at_most ◌+ℚ◌ ◌*ℚ◌ ◌÷◌ neg_ℚ
sine_closed = record { le = tt }

-- a sum of 29 or more terms between the two neighbours is as near to r as the computed parts say
near_half : (x y r : ℚ) → abs x ≤ℚ whole 1 → abs y ≤ℚ whole 1 → (h : ℚ) → before ≤ℚ h → h ≤ℚ after → (m : ℕ) → 29 ≤ m
    → abs (turned_sum x y h m -ℚ r)
    ≤ℚ abs (turned_sum x y before 29 -ℚ r) +ℚ (exponential_sum after 29 -ℚ exponential_sum before 29) +ℚ exponential_term (pos 8 ÷ 5) 29
near_half x y r x_small y_small h low high m long =
    let first = turned_sum x y before 29 -ℚ r in
    let moving = turned_sum x y h 29 -ℚ turned_sum x y before 29 in
    let later = turned_sum x y h m -ℚ turned_sum x y h 29 in
    let nonneg : whole 0 ≤ℚ h = le_trans (whole 0) before h (over_nonneg 0x3243F6A8885A308D3131 (2 ^ 77)) low in
    let h_small : h ≤ℚ pos 8 ÷ 5 = le_trans h after (pos 8 ÷ 5) high after_small in
    let tail : abs later ≤ℚ exponential_sum h m -ℚ exponential_sum h 29 =
    moved ℚ_ordered refl (ap (λ z. exponential_sum z m -ℚ exponential_sum z 29) (abs_of_nonneg h nonneg)) (turned_tail x y x_small y_small h 29 m long) in
    le_trans _ (abs first +ℚ abs moving +ℚ abs later) _
    (moved ℚ_ordered
    (ap abs (ring₄ ℚ_ring (λ s t u r. s ⊟ r ⊞ (t ⊟ s) ⊞ (u ⊟ t)) (λ s t u r. u ⊟ r) refl
    (turned_sum x y before 29) (turned_sum x y h 29) (turned_sum x y h m) r)) refl
    (abs_add_three first moving later))
    (certified ℚ_ordered
    (abs first ∷ abs moving ∷ abs later ∷ exponential_sum before 29 ∷ exponential_sum h 29 ∷ exponential_sum after 29
    ∷ exponential_sum h m ∷ exponential_term h 29 ∷ exponential_term (pos 8 ÷ 5) 29 ∷ [])
    (var 0 ⊞ var 1 ⊞ var 2) (var 0 ⊞ (var 5 ⊟ var 3) ⊞ var 8)
    (le (var 1) (var 4 ⊟ var 3) ∷ le (var 4) (var 5) ∷ le (var 2) (var 6 ⊟ var 4) ∷ le (var 6 ⊟ var 4) (var 7) ∷ le (var 7) (var 8) ∷ []) refl (
      turned_change x y x_small y_small before h (over_nonneg 0x3243F6A8885A308D3131 (2 ^ 77)) low 29,
      (
        sum_to_at_most (exponential_term h) (exponential_term after) (exponential_term_mono h after nonneg high) 29,
        (
          tail,
          (
            exponential_later h nonneg (le_trans h (pos 8 ÷ 5) (pos 16 ÷ 5) h_small eight_fifths_in_reach) 29 m (omega arith) long,
            (exponential_term_mono h (pos 8 ÷ 5) nonneg h_small 29, tt),
          ),
        ),
      ),
    ))

module _ (n : ℕ) (late : 16 ≤ n) where
  abbrev half_of_pi : ℚ
  half_of_pi = pi_sum n *ℚ (pos 1 ÷ 2)

  halved : (x y : ℚ) → x ≤ℚ y → x *ℚ (pos 1 ÷ 2) ≤ℚ y *ℚ (pos 1 ÷ 2)
  halved x y h = le₃ ℚ_ordered (λ x y q. x ⊠ q) (λ x y q. y ⊠ q) (λ x y q. times q x y ∷ []) refl x y (pos 1 ÷ 2) (over_nonneg 1 2, h, tt)

  low : before ≤ℚ half_of_pi
  low = le_trans before (lower *ℚ (pos 1 ÷ 2)) half_of_pi before_lower (halved lower (pi_sum n) (pi_at_least n late))

  high : half_of_pi ≤ℚ after
  high = le_trans half_of_pi (upper *ℚ (pos 1 ÷ 2)) after (halved (pi_sum n) upper (pi_at_most n late)) upper_after

  long : 29 ≤ suc (twice n)
  long = let e = odd_is n in omega (arith, e, late)

  pub quarter_cosine : abs (cosine_sum n half_of_pi) ≤ℚ pos 1 ÷ 2 ^ 72
  quarter_cosine =
      moved ℚ_ordered
      (ap abs (ring₁ ℚ_ring (λ t. t ⊟ num 0) (λ t. t) refl (turned_sum (whole 1) (whole 0) half_of_pi (suc (twice n)))
      ∙ sym (cosine_sum-turned_sum n half_of_pi (whole 0) refl)))
      refl (le_trans _ _ _ (near_half (whole 1) (whole 0) (whole 0) one_small zero_small half_of_pi low high (suc (twice n)) long) cosine_closed)

  pub quarter_sine : abs (sine_sum n half_of_pi -ℚ whole 1) ≤ℚ pos 1 ÷ 2 ^ 72
  quarter_sine =
      moved ℚ_ordered (ap (λ t. abs (t -ℚ whole 1)) (sym (sine_sum-turned_sum n half_of_pi))) refl
      (le_trans _ _ _ (near_half (whole 0) (whole 1) (whole 1) zero_small one_small half_of_pi low high (suc (twice n)) long) sine_closed)

pub quarter_sums_lem : QuarterSums
quarter_sums_lem = (16, λ n late. record { cosine = quarter_cosine n late; sine = quarter_sine n late })
