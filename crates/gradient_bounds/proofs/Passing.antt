-- What the ends of an interval for a value say of two slacks.
use Rattle.std.proofs.Common.{refl, sym, subst, ℕ, ◌*◌, ◌^◌, ℤ, pos, ◌+ℤ◌, ◌-ℤ◌, neg_ℤ, ◌≤ℤ◌, ◌≤◌, unsigned_abs, FitsSigned, Bool, true, false}
use Rattle.std.proofs.Common.{T, [], ◌∷◌, arith}
use Rattle.std.proofs.lemmas.Int.{ints, fits_signed_from_abs}
use Rattle.std.specs.Int.{w128}
use Rattle.std.proofs.lemmas.Nat.{pow_pos}
use Rattle.std.specs.Int.Signed.{le_z_yes}
use Rattle.std.specs.Prelude.{int_le as is_at_most, IsTrue}
use Rattle.ring_solver.specs.Expression.{◌⊠◌, opp}
use Rattle.ring_solver.specs.Ordered.{le, times}
use Rattle.ring_solver.proofs.Certificate.{le₂, le₃, le₄}
use Rattle.rat_core.specs.Fraction.{ℚ, ◌÷◌, whole, neg_ℚ, ◌*ℚ◌, ◌≤ℚ◌}
use Rattle.rat_core.proofs.Laws.{ℚ_ordered, le_trans, int-neg}
use Rattle.rat_core.proofs.Order.{int_le, int_le_back, whole_nonneg, cancel_le}
use Rattle.exp_sums.specs.FormalPoint.{FormalPoint}
use Rattle.exp_sums.specs.Limits.{weight}
use Rattle.trig_meaning.specs.FromSomeOn.{FromSomeOn}
use Rattle.trig_meaning.specs.Value.{value_at}
use Rattle.trig_meaning.proofs.FromSomeOnLaws.{onward_both, somewhere}
use Rattle.directed_fixed.specs.Ends.{Ends, Encloses}
use Rattle.gradient_bounds.specs.Clear.{slack}
use Rattle.gradient_bounds.specs.Neighbourhood.{Ball, threshold_of, IsClearIn, IsShutIn}

is_true : (b : Bool) → T b → IsTrue b
is_true true t = refl
is_true false t = absurd t

module _ (bits : ℕ) (r : Ends) (v : ℚ) (e : Encloses bits r v) where
  -- a lower end at t says that the value reaches what is at most t
  lower_end_reaches : (a : ℚ) (t : ℤ) → a *ℚ whole (2 ^ bits) ≤ℚ t ÷ 1 → t ≤ℤ r.lo → a ≤ℚ v
  lower_end_reaches a t h k =
      cancel_le (2 ^ bits) (pow_pos bits) a v
      (le_trans (a *ℚ whole (2 ^ bits)) (r.lo ÷ 1) (v *ℚ whole (2 ^ bits)) (le_trans (a *ℚ whole (2 ^ bits)) (t ÷ 1) (r.lo ÷ 1) h (int_le t r.lo k)) e.low)

  -- a value that reaches what is at least t and a width has such a lower end
  reached_is_seen : (a : ℚ) (t : ℤ) (w : ℕ) → (t +ℤ pos w) ÷ 1 ≤ℚ a *ℚ whole (2 ^ bits) → r.hi ≤ℤ (r.lo +ℤ pos w) → a ≤ℚ v → t ≤ℤ r.lo
  reached_is_seen a t w h narrow k =
      let u = whole (2 ^ bits) in
      let upper : (t +ℤ pos w) ÷ 1 ≤ℚ r.hi ÷ 1 =
      le_trans ((t +ℤ pos w) ÷ 1) (v *ℚ u) (r.hi ÷ 1)
      (le₄ ℚ_ordered (λ x a v u. x) (λ x a v u. v ⊠ u) (λ x a v u. le x (a ⊠ u) ∷ times u a v ∷ []) refl ((t +ℤ pos w) ÷ 1) a v u
      (h, (whole_nonneg (2 ^ bits), k, tt))) e.high
      in
      rest t r.lo r.hi (pos w) (int_le_back (t +ℤ pos w) r.hi upper) narrow
    where
      rest : (t lo hi w : ℤ) → (t +ℤ w) ≤ℤ hi → hi ≤ℤ (lo +ℤ w) → t ≤ℤ lo
      rest t lo hi w h k = omega (arith, ints)

-- the negative of an interval
abbrev turned : Ends → Ends
turned r = record { lo = neg_ℤ r.hi; hi = neg_ℤ r.lo }

turned_encloses : (bits : ℕ) (r : Ends) (v : ℚ) → Encloses bits r v → Encloses bits (turned r) (neg_ℚ v)
turned_encloses bits r v e =
    let u = whole (2 ^ bits) in
    record {
      low = subst (λ t. t ≤ℚ neg_ℚ v *ℚ u) (sym (int-neg r.hi))
          (le₃ ℚ_ordered (λ h v u. opp h) (λ h v u. opp v ⊠ u) (λ h v u. le (v ⊠ u) h ∷ []) refl (r.hi ÷ 1) v u (e.high, tt));
      high = subst (λ t. neg_ℚ v *ℚ u ≤ℚ t) (sym (int-neg r.lo))
          (le₃ ℚ_ordered (λ l v u. opp v ⊠ u) (λ l v u. opp l) (λ l v u. le l (v ⊠ u) ∷ []) refl (r.lo ÷ 1) v u (e.low, tt));
    }

turned_narrow : (lo hi : ℤ) (w : ℕ) → hi ≤ℤ (lo +ℤ pos w) → neg_ℤ lo ≤ℤ (neg_ℤ hi +ℤ pos w)
turned_narrow lo hi w h = omega (arith, ints)

-- what is said of a threshold t and of an interval for the value of f at the centre of a ball
pub record IsMeasured (bits low high : ℕ) (b : Ball) (f : FormalPoint) (t : ℤ) (r : Ends) : Type 0 where
  pub enough : FromSomeOn (λ n. threshold_of n b.radius (slack low) f *ℚ whole (2 ^ bits) ≤ℚ t ÷ 1)
  pub little : FromSomeOn (λ n. (t +ℤ pos (512 * weight f)) ÷ 1 ≤ℚ threshold_of n b.radius (slack high) f *ℚ whole (2 ^ bits))
  pub encloses : FromSomeOn (λ n. Encloses bits r (value_at n f b.x b.y))
  pub narrow : r.hi ≤ℤ (r.lo +ℤ pos (512 * weight f))

module _ (bits low high : ℕ) (b : Ball) (f : FormalPoint) (t : ℤ) (r : Ends) (h : IsMeasured bits low high b f t r) where
  -- a function whose lower end reaches the threshold is clear with the narrower slack ..
  pub reached_clear : t ≤ℤ r.lo → IsClearIn b (slack low) f
  reached_clear reach =
      onward_both (λ n e k. lower_end_reaches bits r (value_at n f b.x b.y) e (threshold_of n b.radius (slack low) f) t k reach) h.encloses h.enough

  -- .. and one that is clear with the wider one has such a lower end
  pub clear_reached : IsClearIn b (slack high) f → t ≤ℤ r.lo
  clear_reached clear = seen (somewhere (onward_both (λ n e k. (e, k)) h.encloses (onward_both (λ n l k. (l, k)) h.little clear)))
    where
      seen : (n : ℕ) × (Encloses bits r (value_at n f b.x b.y)
          × (((t +ℤ pos (512 * weight f)) ÷ 1 ≤ℚ threshold_of n b.radius (slack high) f *ℚ whole (2 ^ bits))
          × (threshold_of n b.radius (slack high) f ≤ℚ value_at n f b.x b.y))) → t ≤ℤ r.lo
      seen (n, (e, (l, k))) = reached_is_seen bits r (value_at n f b.x b.y) e (threshold_of n b.radius (slack high) f) t (512 * weight f) l h.narrow k

  -- a function whose upper end lies as far below 0 is shut with the narrower slack ..
  pub reached_shut : t ≤ℤ neg_ℤ r.hi → IsShutIn b (slack low) f
  reached_shut reach =
      onward_both
      (λ n e k. turned_le (threshold_of n b.radius (slack low) f) (value_at n f b.x b.y)
      (lower_end_reaches bits (turned r) (neg_ℚ (value_at n f b.x b.y)) (turned_encloses bits r (value_at n f b.x b.y) e)
      (threshold_of n b.radius (slack low) f) t k reach))
      h.encloses h.enough
    where
      turned_le : (a v : ℚ) → a ≤ℚ neg_ℚ v → v ≤ℚ neg_ℚ a
      turned_le a v k = le₂ ℚ_ordered (λ a v. v) (λ a v. opp a) (λ a v. le a (opp v) ∷ []) refl a v (k, tt)

  -- .. and one that is shut with the wider one has such an upper end
  pub shut_reached : IsShutIn b (slack high) f → t ≤ℤ neg_ℤ r.hi
  shut_reached shut = seen (somewhere (onward_both (λ n e k. (e, k)) h.encloses (onward_both (λ n l k. (l, k)) h.little shut)))
    where
      turned_le : (a v : ℚ) → v ≤ℚ neg_ℚ a → a ≤ℚ neg_ℚ v
      turned_le a v k = le₂ ℚ_ordered (λ a v. a) (λ a v. opp v) (λ a v. le v (opp a) ∷ []) refl a v (k, tt)

      seen : (n : ℕ) × (Encloses bits r (value_at n f b.x b.y)
          × (((t +ℤ pos (512 * weight f)) ÷ 1 ≤ℚ threshold_of n b.radius (slack high) f *ℚ whole (2 ^ bits))
          × (value_at n f b.x b.y ≤ℚ neg_ℚ (threshold_of n b.radius (slack high) f)))) → t ≤ℤ neg_ℤ r.hi
      seen (n, (e, (l, k))) =
          let v = value_at n f b.x b.y in
          let a = threshold_of n b.radius (slack high) f in
          reached_is_seen bits (turned r) (neg_ℚ v) (turned_encloses bits r v e) a t (512 * weight f) l
          (turned_narrow r.lo r.hi (512 * weight f) h.narrow) (turned_le a v k)

  -- the same for the machine's comparisons
  pub passes_clear : IsTrue (is_at_most t r.lo) → IsClearIn b (slack low) f
  passes_clear passed = reached_clear (le_z_yes (subst T (sym passed) tt))

  pub clear_passes : IsClearIn b (slack high) f → IsTrue (is_at_most t r.lo)
  clear_passes clear = is_true (is_at_most t r.lo) (clear_reached clear).le

  pub passes_shut : IsTrue (is_at_most r.hi (pos 0 -ℤ t)) → IsShutIn b (slack low) f
  passes_shut passed = reached_shut (below_zero r.hi t (le_z_yes (subst T (sym passed) tt)))
    where
      below_zero : (hi t : ℤ) → hi ≤ℤ (pos 0 -ℤ t) → t ≤ℤ neg_ℤ hi
      below_zero hi t k = omega (arith, ints)

  pub shut_passes : IsShutIn b (slack high) f → IsTrue (is_at_most r.hi (pos 0 -ℤ t))
  shut_passes shut = is_true (is_at_most r.hi (pos 0 -ℤ t)) (below_zero r.hi t (shut_reached shut)).le
    where
      below_zero : (hi t : ℤ) → t ≤ℤ neg_ℤ hi → hi ≤ℤ (pos 0 -ℤ t)
      below_zero hi t k = omega (arith, ints)

-- the negative of a threshold fits its type
pub negative_fits : (t : ℤ) → unsigned_abs t ≤ 2 ^ 100 → FitsSigned w128 (pos 0 -ℤ t)
negative_fits t h = fits_signed_from_abs w128 (pos 0 -ℤ t) (omega (arith, ints))
