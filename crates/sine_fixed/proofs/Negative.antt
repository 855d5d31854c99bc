-- The negative of an interval.
use Rattle.std.proofs.Common.{refl, sym, subst, ℕ, ◌^◌, ◌≤◌, ℤ, pos, ◌+ℤ◌, ◌-ℤ◌, ◌≤ℤ◌, unsigned_abs, FitsSigned, [], ◌∷◌, arith}
use Rattle.std.proofs.lemmas.Int.{ints, fits_signed_from_abs}
use Rattle.std.specs.Int.{w128}
use Rattle.ring_solver.specs.Expression.{num, ◌⊟◌, ◌⊠◌, opp}
use Rattle.ring_solver.specs.Ordered.{le}
use Rattle.ring_solver.proofs.Certificate.{le₃}
use Rattle.rat_core.specs.Fraction.{ℚ, ◌÷◌, whole, ◌*ℚ◌, neg_ℚ, ◌≤ℚ◌}
use Rattle.rat_core.proofs.Laws.{ℚ_ordered, int-sub}
use Rattle.directed_fixed.specs.Ends.{Ends, Encloses, IsWithin}

abbrev pub negative_of : Ends → Ends
negative_of x = record { lo = pos 0 -ℤ x.hi; hi = pos 0 -ℤ x.lo }

pub negative_encloses : (bits : ℕ) (x : Ends) (u : ℚ) → Encloses bits x u → Encloses bits (negative_of x) (neg_ℚ u)
negative_encloses bits x u h =
    let unit = whole (2 ^ bits) in
    record {
      low = subst (λ t. t ≤ℚ neg_ℚ u *ℚ unit) (sym (int-sub (pos 0) x.hi))
          (le₃ ℚ_ordered (λ e u b. num 0 ⊟ e) (λ e u b. opp u ⊠ b) (λ e u b. le (u ⊠ b) e ∷ []) refl (x.hi ÷ 1) u unit (h.high, tt));
      high = subst (λ t. neg_ℚ u *ℚ unit ≤ℚ t) (sym (int-sub (pos 0) x.lo))
          (le₃ ℚ_ordered (λ e u b. opp u ⊠ b) (λ e u b. num 0 ⊟ e) (λ e u b. le e (u ⊠ b) ∷ []) refl (x.lo ÷ 1) u unit (h.low, tt));
    }

pub negative_width : (x : Ends) (w : ℕ) → x.hi ≤ℤ (x.lo +ℤ pos w) → (negative_of x).hi ≤ℤ ((negative_of x).lo +ℤ pos w)
negative_width x w h = omega (arith, ints)

pub negative_within : (size : ℕ) (x : Ends) → IsWithin size x → IsWithin size (negative_of x)
negative_within size x h = record { low = omega (arith, ints, h.high); high = omega (arith, ints, h.low) }

pub negative_fits : (a : ℤ) → unsigned_abs a ≤ 2 ^ 100 → FitsSigned w128 (pos 0 -ℤ a)
negative_fits a h = fits_signed_from_abs w128 (pos 0 -ℤ a) (omega (arith, ints))
