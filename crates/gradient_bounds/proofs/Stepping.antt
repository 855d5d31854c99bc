-- The numbers of heights, edge by edge, by the numbers of forms.
use Rattle.std.proofs.Common.{◌≡◌, refl, sym, ap, ap₂, subst, ◌∙◌, ℕ, ◌+◌, ◌^◌, ◌<◌, ◌≤◌}
use Rattle.std.proofs.Common.{List, length, get_or, set, slice_index_or, ℤ, pos, ◌+ℤ◌, ◌-ℤ◌, unsigned_abs, arith}
use Rattle.std.proofs.Common.{FitsSigned}
use Rattle.std.specs.Int.{w128}
use Rattle.std.specs.List.{All}
use Rattle.std.specs.Global.{Vec}
use Rattle.std.proofs.lemmas.Int.{ints, fits_signed_from_abs}
use Rattle.ring_solver.proofs.Whole.{ℤ_ring, ℤ_image}
use Rattle.edge_words.specs.Letters.{IsPlace}
use Rattle.edge_words.specs.Word.{IsWord}
use Rattle.exp_sums.specs.FormalPoint.{FormalPoint, terms, zero_point, ◌-ₚ◌}
use Rattle.exp_sums.specs.Limits.{weight}
use Rattle.exp_sums.specs.Weigh.{weigh_terms}
use Rattle.exp_sums.proofs.Numbers.{weighing_linear}
use Rattle.unfolding.specs.Corners.{upper_corner, lower_corner}
use Rattle.unfolding.specs.Shift.{IsShift, HasShift}
use Rattle.defining_functions.specs.Heights.{height, upper_height, lower_height}
use Rattle.defining_functions.specs.Steps.{IsStep}
use Rattle.defining_functions.specs.declared.step.Step.{Step}
use Rattle.defining_functions.proofs.Limits.{upper_height_limits, lower_height_limits}
use Rattle.gradient_bounds.specs.declared.placed_term.PlacedTerm.{PlacedTerm}
use Rattle.gradient_bounds.specs.declared.sine_low.SineLow.{SineLow}
use Rattle.gradient_bounds.specs.HeightSums.{AreRowsOf, dirs_of, terms_at}
use Rattle.gradient_bounds.specs.HeightNumbers.{IsFormNumber, AreFormNumbers, IsWayNumber}
use Rattle.gradient_bounds.specs.Kept.{IsSmallEntry, IsNumberOf}
use Rattle.gradient_bounds.specs.Table.{low_in, number_in}
use Rattle.gradient_bounds.proofs.Numbering.{table_step}
use Rattle.gradient_bounds.proofs.Sums.{low_small}
use Rattle.sine_fixed.proofs.Turning.{fits_128}
use Rattle.sine_fixed.proofs.Weighing.{sum_small}

-- ---- how large the numbers of heights are

small_number : (table : List SineLow) (f : FormalPoint) → All IsSmallEntry table → weight f ≤ 16384 → unsigned_abs (number_in table f) ≤ 2 ^ 76
small_number table f entries light = let all = sum_small (low_in table) (λ d. low_small table d entries) (terms f) in omega (arith, all, light)

module _ (w : List ℕ) (table : List SineLow) (word : IsWord w) (has : HasShift w) (entries : All IsSmallEntry table) (k : ℕ) (place : IsPlace w k) where
  pub upper_number_of : (z : ℤ) → ((v : FormalPoint) → IsShift w v → z ≡ number_in table (upper_height v w k)) → IsNumberOf w table (λ v. upper_height v w k) z
  upper_number_of z is =
      let v = has.0 in
      record {
        small = subst (λ y. unsigned_abs y ≤ 2 ^ 76) (sym (is v has.1))
            (small_number table (upper_height v w k) entries (upper_height_limits w v word has.1 k place).light);
        is = is;
      }

  pub lower_number_of : (z : ℤ) → ((v : FormalPoint) → IsShift w v → z ≡ number_in table (lower_height v w k)) → IsNumberOf w table (λ v. lower_height v w k) z
  lower_number_of z is =
      let v = has.0 in
      record {
        small = subst (λ y. unsigned_abs y ≤ 2 ^ 76) (sym (is v has.1))
            (small_number table (lower_height v w k) entries (lower_height_limits w v word has.1 k place).light);
        is = is;
      }

-- ---- one step

pub difference_fits : (a b : ℤ) → unsigned_abs a ≤ 2 ^ 77 → unsigned_abs b ≤ 2 ^ 77 → FitsSigned w128 (a -ℤ b)
difference_fits a b h k = fits_128 (a -ℤ b) (omega (arith, ints))

pub sum_fits : (a b : ℤ) → unsigned_abs a ≤ 2 ^ 77 → unsigned_abs b ≤ 2 ^ 77 → FitsSigned w128 (a +ℤ b)
sum_fits a b h k = fits_128 (a +ℤ b) (omega (arith, ints))

module _ (w : List ℕ) (table : List SineLow) (i : ℕ) (way : ℤ) (h : IsWayNumber w table i way) where
  -- the lower height's number, from the upper one's where the upper end is that of the edge before
  pub below_upper : (upper : ℤ) → upper_corner w (i + 1) ≡ upper_corner w i → IsNumberOf w table (λ v. upper_height v w i) upper
      → (v : FormalPoint) → IsShift w v
      → upper -ℤ way ≡ number_in table (lower_height v w (i + 1))
  below_upper upper same is v shift =
      let before : upper ≡ number_in table (upper_height v w (i + 1)) = is.is v shift ∙ ap (λ p. number_in table (height v w p)) (sym same) in
      back upper (number_in table (upper_height v w (i + 1))) (number_in table (lower_height v w (i + 1))) way before (h.is v shift)
    where
      back : (z u l way : ℤ) → z ≡ u → u ≡ l +ℤ way → z -ℤ way ≡ l
      back z u l way e f = omega (arith, ints, e, f)

  -- the upper height's, from the lower one's
  pub above_lower : (lower : ℤ) → IsNumberOf w table (λ v. lower_height v w (i + 1)) lower → (v : FormalPoint) → IsShift w v
      → lower +ℤ way ≡ number_in table (upper_height v w (i + 1))
  above_lower lower is v shift = ap (λ z. z +ℤ way) (is.is v shift) ∙ sym (h.is v shift)

-- the same corner has the same number
pub same_lower : (w : List ℕ) (table : List SineLow) (i : ℕ) (z : ℤ) → lower_corner w (i + 1) ≡ lower_corner w i
    → IsNumberOf w table (λ v. lower_height v w i) z → IsNumberOf w table (λ v. lower_height v w (i + 1)) z
same_lower w table i z same h = record { small = h.small; is = λ v shift. h.is v shift ∙ ap (λ p. number_in table (height v w p)) (sym same) }

-- the way from end to end has the number of its two forms' difference
pub record IsWay (w : List ℕ) (table : List SineLow) (i : ℕ) (a b : ℤ) : Type 0 where
  pub plus_fits : FitsSigned w128 a
  pub minus_fits : FitsSigned w128 b
  pub fits : FitsSigned w128 (a -ℤ b)
  pub is : IsWayNumber w table i (a -ℤ b)

pub way_of : (w : List ℕ) (table : List SineLow) (forms : List FormalPoint) (numbers : List ℤ) (i : ℕ) (s : Step) → IsStep w forms i s
    → AreFormNumbers table forms numbers → IsWay w table i (slice_index_or numbers s.plus (pos 0)) (slice_index_or numbers s.minus (pos 0))
way_of w table forms numbers i s step h =
    let a = slice_index_or numbers s.plus (pos 0) in
    let b = slice_index_or numbers s.minus (pos 0) in
    let p = slice_index_or forms s.plus zero_point in
    let q = slice_index_or forms s.minus zero_point in
    let plus = h.each s.plus (pos 0) step.plus zero_point in
    let minus = h.each s.minus (pos 0) step.minus zero_point in
    record {
      plus_fits = fits_128 a (omega (arith, plus.small));
      minus_fits = fits_128 b (omega (arith, minus.small));
      fits = difference_fits a b (omega (arith, plus.small)) (omega (arith, minus.small));
      is = record {
        small = apart a b plus.small minus.small;
        is = λ v shift.
            let low = lower_height v w (i + 1) in
            ap (number_in table) (step.way v zero_point shift)
            ∙ weighing_linear.of_sum (low_in table) low (p -ₚ q)
            ∙ ap (λ x. number_in table low +ℤ x) (weighing_linear.of_difference (low_in table) p q ∙ ap₂ ◌-ℤ◌ (sym plus.is) (sym minus.is));
      };
    }
  where
    apart : (a b : ℤ) → unsigned_abs a ≤ 2 ^ 76 → unsigned_abs b ≤ 2 ^ 76 → unsigned_abs (a -ℤ b) ≤ 2 ^ 77
    apart a b h k = omega (arith, ints, h, k)

-- ---- the numbers of forms

pub next_form : (table : List SineLow) (forms : List FormalPoint) (rows : List (Vec PlacedTerm)) (numbers : List ℤ) (i : ℕ) (row : Vec PlacedTerm) (z : ℤ)
    → i < length numbers → i < length forms → AreRowsOf (dirs_of table) forms rows
    → z ≡ weigh_terms ℤ_ring ℤ_image (low_in table) (terms_at (dirs_of table) (slice_index_or rows i row).items) → unsigned_abs z ≤ 2 ^ 76
    → ((j : ℕ) (d : ℤ) → j < i → (f : FormalPoint) → IsFormNumber table (slice_index_or forms j f) (get_or numbers j d))
    → (j : ℕ) (d : ℤ) → j < i + 1 → (f : FormalPoint) → IsFormNumber table (slice_index_or forms j f) (get_or (set numbers i z) j d)
next_form table forms rows numbers i row z below below' are z_is size before =
    table_step (λ j y. (f : FormalPoint) → IsFormNumber table (slice_index_or forms j f) y) numbers i z below before
    (λ f. record { small = size; is = z_is ∙ (are.each i row below' f).same table refl })
