-- What the whole number of a function at the centre of a neighbourhood says of two slacks.
use Rattle.std.proofs.Common.{◌≡◌, refl, subst, ℕ, ◌+◌, ◌*◌, ◌^◌, ◌≤◌, ℤ, pos, ◌+ℤ◌, ◌-ℤ◌, ◌*ℤ◌, neg_ℤ, ◌≤ℤ◌, unsigned_abs, arith}
use Rattle.std.proofs.lemmas.Int.{ints}
use Rattle.ring_solver.specs.Expression.{◌⊠◌}
use Rattle.ring_solver.proofs.Solver.{ring₃}
use Rattle.ring_solver.proofs.Whole.{ℤ_ring}
use Rattle.rat_core.specs.Fraction.{◌÷◌, whole, ◌*ℚ◌, ◌≤ℚ◌}
use Rattle.exp_sums.specs.FormalPoint.{FormalPoint}
use Rattle.exp_sums.specs.Limits.{weight}
use Rattle.exp_sums.specs.Reach.{reach}
use Rattle.trig_meaning.specs.PartialSums.{pi_sum}
use Rattle.trig_meaning.specs.FromSomeOn.{FromSomeOn}
use Rattle.trig_meaning.specs.Value.{value_at}
use Rattle.directed_fixed.specs.Rounding.{IsCeiling}
use Rattle.directed_fixed.specs.Ends.{Ends, Encloses}
use Rattle.gradient_bounds.specs.declared.neighbourhood.Neighbourhood.{Neighbourhood}
use Rattle.gradient_bounds.specs.Clear.{slack}
use Rattle.gradient_bounds.specs.Neighbourhood.{IsNeighbourhood, ball_of, threshold_of, IsClearIn, IsShutIn}
use Rattle.gradient_bounds.specs.Decision.{rounded_up, margin_units, threshold_by, needed_by, drift_threshold}
use Rattle.gradient_bounds.proofs.Computed.{rounded_up_is_ceiling}
use Rattle.gradient_bounds.proofs.Drifts.{IsDrift, drift_of, threshold_enough, threshold_little}
use Rattle.gradient_bounds.proofs.Passing.{IsMeasured, reached_clear, clear_reached, reached_shut, shut_reached}

-- what is known of a scale: pi is between two neighbours, and the slacks are apart
pub record IsScale (bits low high : ℕ) (L H : ℤ) : Type 0 where
  pub one_unit : H ≡ L +ℤ pos 1
  pub pi : FromSomeOn (λ n. Encloses bits (record { lo = L; hi = H }) (pi_sum n))
  pub apart : high + 12 ≤ low
  pub room : low ≤ bits

-- the drift in units, of a function with this reach
abbrev pub drift_units : ℤ → Neighbourhood → ℕ → ℤ
drift_units H r reach = rounded_up (H *ℤ r.radius *ℤ pos reach) r.centre.den

-- what the number of a function has to reach at the centre of a neighbourhood
abbrev pub needed : ℕ → ℕ → ℤ → Neighbourhood → FormalPoint → ℤ
needed bits low H r = needed_by (drift_threshold bits low H r)

-- the ends between which a number z allows the value of f to be
abbrev pub allowed : ℤ → FormalPoint → Ends
allowed z f = record { lo = z -ℤ pos (256 * weight f); hi = z +ℤ pos (256 * weight f) }

module _ (bits low high : ℕ) (L H : ℤ) (scale : IsScale bits low high L H) (r : Neighbourhood) (near : IsNeighbourhood r) (f : FormalPoint)
    (slow : reach f ≤ 260 * weight f) where
  is_drift : IsDrift L H (drift_units H r (reach f)) (reach f) (weight f) r.radius (unsigned_abs r.centre.den)
  is_drift = drift_of L H (drift_units H r (reach f)) (reach f) (weight f) r.radius r.centre.den near.angles.positive near.at_least near.at_most slow
      scale.one_unit
      (subst (λ n. IsCeiling (drift_units H r (reach f)) n r.centre.den)
      (ring₃ ℤ_ring (λ h p n. h ⊠ p ⊠ n) (λ h p n. h ⊠ (n ⊠ p)) refl H r.radius (pos (reach f)))
      (rounded_up_is_ceiling (H *ℤ r.radius *ℤ pos (reach f)) r.centre.den near.angles.positive))

  -- the threshold in units is enough for the narrower slack, and little for the wider one
  pub enough : FromSomeOn (λ n. threshold_of n (ball_of r).radius (slack low) f *ℚ whole (2 ^ bits) ≤ℚ threshold_by (drift_threshold bits low H r) f ÷ 1)
  enough = threshold_enough bits low L H (drift_units H r (reach f)) (margin_units bits low (weight f)) f r.radius (unsigned_abs r.centre.den) scale.room refl
      is_drift scale.pi

  pub little : FromSomeOn (λ n. (threshold_by (drift_threshold bits low H r) f +ℤ pos (512 * weight f)) ÷ 1
      ≤ℚ threshold_of n (ball_of r).radius (slack high) f *ℚ whole (2 ^ bits))
  little = threshold_little bits low high L H (drift_units H r (reach f)) (margin_units bits low (weight f)) f r.radius
      (unsigned_abs r.centre.den) scale.apart
      scale.room refl is_drift scale.pi

  module _ (z : ℤ) (number : FromSomeOn (λ n. Encloses bits (allowed z f) (value_at n f (ball_of r).x (ball_of r).y))) where
    is_measured : IsMeasured bits low high (ball_of r) f (threshold_by (drift_threshold bits low H r) f) (allowed z f)
    is_measured = record {
      enough = enough;
      little = little;
      encloses = number;
      narrow = apart z (weight f);
    }
      where
        apart : (z : ℤ) (w : ℕ) → (z +ℤ pos (256 * w)) ≤ℤ (z -ℤ pos (256 * w) +ℤ pos (512 * w))
        apart z w = omega (arith, ints)

    lower : (t z : ℤ) (m : ℕ) → (pos m +ℤ t) ≤ℤ z → t ≤ℤ (z -ℤ pos m)
    lower t z m h = omega (arith, ints)

    back : (t z : ℤ) (m : ℕ) → t ≤ℤ (z -ℤ pos m) → (pos m +ℤ t) ≤ℤ z
    back t z m h = omega (arith, ints)

    upper : (t z : ℤ) (m : ℕ) → z ≤ℤ neg_ℤ (pos m +ℤ t) → t ≤ℤ neg_ℤ (z +ℤ pos m)
    upper t z m h = omega (arith, ints)

    back_down : (t z : ℤ) (m : ℕ) → t ≤ℤ neg_ℤ (z +ℤ pos m) → z ≤ℤ neg_ℤ (pos m +ℤ t)
    back_down t z m h = omega (arith, ints)

    abbrev threshold : ℤ
    threshold = threshold_by (drift_threshold bits low H r) f

    -- a number that reaches what is needed says that the function is clear with the narrower slack ..
    pub reaches_clear : needed bits low H r f ≤ℤ z → IsClearIn (ball_of r) (slack low) f
    reaches_clear h = reached_clear bits low high (ball_of r) f threshold (allowed z f) is_measured (lower threshold z (256 * weight f) h)

    -- .. and that of a function which is clear with the wider one reaches it
    pub clear_reaches : IsClearIn (ball_of r) (slack high) f → needed bits low H r f ≤ℤ z
    clear_reaches clear = back threshold z (256 * weight f) (clear_reached bits low high (ball_of r) f threshold (allowed z f) is_measured clear)

    -- a number that lies as far below 0 says that the function is shut with the narrower slack ..
    pub falls_shut : z ≤ℤ neg_ℤ (needed bits low H r f) → IsShutIn (ball_of r) (slack low) f
    falls_shut h = reached_shut bits low high (ball_of r) f threshold (allowed z f) is_measured (upper threshold z (256 * weight f) h)

    -- .. and that of a function which is shut with the wider one does
    pub shut_falls : IsShutIn (ball_of r) (slack high) f → z ≤ℤ neg_ℤ (needed bits low H r f)
    shut_falls shut = back_down threshold z (256 * weight f) (shut_reached bits low high (ball_of r) f threshold (allowed z f) is_measured shut)
