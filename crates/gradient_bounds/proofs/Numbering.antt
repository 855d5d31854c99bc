-- Lists of numbers, one for each edge.
use Rattle.std.proofs.Common.{◌≡◌, ◌≢◌, sym, ap, ap₂, ◌∙◌, subst, ℕ, ◌+◌, ◌-◌, ◌^◌, ◌<◌, ◌≤◌, List, length, get_or, set, ℤ, pos, ◌-ℤ◌, unsigned_abs}
use Rattle.std.proofs.Common.{arith, below_more}
use Rattle.std.proofs.Common.{get_or-set_other, get_or-set_same}
use Rattle.ring_solver.proofs.Whole.{ℤ_ring, ℤ_image}
use Rattle.edge_words.specs.Letters.{IsPlace}
use Rattle.exp_sums.specs.declared.terms.Term.{Term}
use Rattle.exp_sums.specs.FormalPoint.{FormalPoint, terms}
use Rattle.exp_sums.specs.Weigh.{weigh_terms}
use Rattle.unfolding.specs.Shift.{IsShift, HasShift}
use Rattle.defining_functions.specs.Functions.{defining_function}
use Rattle.defining_functions.specs.Heights.{upper_height, lower_height}
use Rattle.defining_functions.specs.Tables.{IsTable}
use Rattle.gradient_bounds.specs.declared.sine_low.SineLow.{SineLow}
use Rattle.gradient_bounds.specs.Table.{low_in, number_in}
use Rattle.gradient_bounds.specs.Decision.{AreNumbers, difference}
use Rattle.gradient_bounds.specs.Kept.{IsNumberOf, AreUppers, AreLowers}
use Rattle.gradient_bounds.proofs.Sums.{number_difference}

-- one more entry of a table is written
pub table_step : {A : Type 0} (E : ℕ → A → Type 0) (xs : List A) (i : ℕ) (x : A) → i < length xs → ((j : ℕ) (d : A) → j < i → E j (get_or xs j d)) → E i x
    → (j : ℕ) (d : A) → j < i + 1 → E j (get_or (set xs i x) j d)
table_step E xs i x below before here j d h =
    below_more (λ k. E k (get_or (set xs i x) k d)) i
    (λ k lt. let other : k ≢ i = omega arith in subst (E k) (sym (get_or-set_other xs i k x d other)) (before k d lt))
    (subst (E i) (sym (get_or-set_same xs i x d below)) here) j h

-- the number of a height that is known by its terms
pub number_of_height : (w : List ℕ) (table : List SineLow) (height : FormalPoint → FormalPoint) (f : FormalPoint) (ts : List Term) (z : ℤ)
    → z ≡ weigh_terms ℤ_ring ℤ_image (low_in table) ts → unsigned_abs z ≤ 2 ^ 76 → ts ≡ terms f → ((v : FormalPoint) → IsShift w v → f ≡ height v)
    → IsNumberOf w table height z
number_of_height w table height f ts z z_is size ts_are f_is = record {
  small = size;
  is = λ v shift. z_is ∙ ap (weigh_terms ℤ_ring ℤ_image (low_in table)) (ts_are ∙ ap terms (f_is v shift));
}

-- the next number is written
pub next_number : (w : List ℕ) (table : List SineLow) (heights : ℕ → FormalPoint → FormalPoint) (numbers : List ℤ) (i : ℕ) (z : ℤ) → i < length numbers
    → ((j : ℕ) (d : ℤ) → j < i → IsNumberOf w table (heights j) (get_or numbers j d)) → IsNumberOf w table (heights i) z
    → (j : ℕ) (d : ℤ) → j < i + 1 → IsNumberOf w table (heights j) (get_or (set numbers i z) j d)
next_number w table heights numbers i z = table_step (λ j y. IsNumberOf w table (heights j) y) numbers i z

-- ---- what the decision asks

-- the number at a place
pub number_at : (w : List ℕ) (table : List SineLow) (heights : ℕ → FormalPoint → FormalPoint) (numbers : List ℤ)
    → IsTable (λ i z. IsNumberOf w table (heights i) z) (length w) numbers → (k : ℕ) (d : ℤ) → IsPlace w k
    → IsNumberOf w table (heights (k - 1)) (get_or numbers (k - 1) d)
number_at w table heights numbers h k d place = let low = place.0 in let high = place.1 in h.each (k - 1) d (omega (arith, low, high))

module _ (w : List ℕ) (table : List SineLow) (height : FormalPoint → List ℕ → ℕ → FormalPoint) (numbers : List ℤ) (shift : HasShift w)
    (h : IsTable (λ i z. IsNumberOf w table (λ v. height v w (i + 1)) z) (length w) numbers) where
  -- the number at a place is that of the height there
  number_is : (k : ℕ) → IsPlace w k → get_or numbers (k - 1) (pos 0) ≡ number_in table (height shift.0 w k)
  number_is k place =
      let low = place.0 in
      let back : k - 1 + 1 ≡ k = omega (arith, low) in
      (number_at w table (λ i v. height v w (i + 1)) numbers h k (pos 0) place).is shift.0 shift.1
      ∙ ap (λ j. number_in table (height shift.0 w j)) back

  pub are_numbers : AreNumbers w height numbers
  are_numbers = record {
    count = h.count;
    small = λ i z below. (h.each i z (omega (arith, below, h.count))).small;
    same = λ i j p q is. number_is i p ∙ ap (number_in table) (is shift.0 shift.1) ∙ sym (number_is j q);
  }

module _ (w : List ℕ) (table : List SineLow) (uppers lowers : List ℤ) (h : AreUppers w table uppers) (h' : AreLowers w table lowers) where
  -- the difference of two numbers is the function's
  pub difference_is : (v : FormalPoint) → IsShift w v → (k l : ℕ) → IsPlace w k → IsPlace w l
      → difference uppers lowers k l ≡ number_in table (defining_function v w k l)
  difference_is v shift k l p q =
      let low = p.0 in
      let low' = q.0 in
      let back : k - 1 + 1 ≡ k = omega (arith, low) in
      let back' : l - 1 + 1 ≡ l = omega (arith, low') in
      let upper = (number_at w table (λ i v. upper_height v w (i + 1)) uppers h k (pos 0) p).is v shift in
      let lower = (number_at w table (λ i v. lower_height v w (i + 1)) lowers h' l (pos 0) q).is v shift in
      ap₂ (λ a b. a -ℤ b) (upper ∙ ap (λ j. number_in table (upper_height v w j)) back) (lower ∙ ap (λ j. number_in table (lower_height v w j)) back')
      ∙ sym (number_difference table v w k l)
