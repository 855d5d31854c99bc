-- What a `Prepared` keeps, and what its tests and bounds answer.
use Rattle.std.proofs.Common.{◌≡◌, refl, sym, ap, ap₂, ◌∙◌, subst, subst₂, ℕ, zero, suc, ◌+◌, ◌-◌, ◌*◌, ◌^◌, ◌<◌, ◌≤◌, List, [], ◌∷◌, map, length}
use Rattle.std.proofs.Common.{get_or, ℤ, pos, ◌+ℤ◌, ◌-ℤ◌, ◌*ℤ◌}
use Rattle.std.proofs.Common.{◌≤ℤ◌, unsigned_abs, FitsSigned, lit<, arith, Some, None, Option}
use Rattle.std.specs.Prelude.{◌↔◌, IfSome}
use Rattle.std.specs.Int.{w64, w128}
use Rattle.std.specs.List.{All}
use Rattle.std.specs.declared.cmp.Ordering.TheVariants.{Less}
use Rattle.std.proofs.Math.Pow.{pow_mono}
use Rattle.std.proofs.lemmas.Nat.{pow_pos}
use Rattle.std.proofs.lemmas.Grind.{pow_more}
use Rattle.std.proofs.lemmas.Int.{ints, fits_signed_from_abs}
use Rattle.std.proofs.lemmas.List.{length-map}
use Rattle.ring_solver.proofs.Whole.{pos_le}
use Rattle.rat_core.specs.Fraction.{whole, ◌≤ℚ◌}
use Rattle.rat_core.specs.Written.{Written, value}
use Rattle.rat_core.proofs.Laws.{over_le}
use Rattle.rat_core.proofs.Order.{over_nonneg}
use Rattle.edge_words.specs.Letters.{IsPlace}
use Rattle.edge_words.specs.Stable.{IsStable}
use Rattle.edge_words.specs.Word.{IsWord}
use Rattle.exp_sums.specs.Terms.{dir_cmp}
use Rattle.exp_sums.specs.FormalPoint.{FormalPoint}
use Rattle.exp_sums.specs.Limits.{weight}
use Rattle.trig_meaning.specs.FromSomeOn.{FromSomeOn}
use Rattle.trig_meaning.specs.Value.{value_at}
use Rattle.unfolding.specs.Shift.{IsShift, HasShift}
use Rattle.rational_polygon.specs.Square.{Square, IsBox}
use Rattle.directed_fixed.specs.Ends.{Ends, Encloses}
use Rattle.defining_functions.specs.Functions.{defining_function}
use Rattle.defining_functions.specs.Heights.{upper_height, lower_height}
use Rattle.gradient_bounds.specs.declared.height_sums.HeightSums.{HeightSums}
use Rattle.gradient_bounds.specs.declared.neighbourhood.Neighbourhood.{Neighbourhood}
use Rattle.gradient_bounds.specs.declared.sine_low.SineLow.{SineLow}
use Rattle.gradient_bounds.specs.Clear.{slack}
use Rattle.gradient_bounds.specs.Corridor.{EachFunction, SomeFunction}
use Rattle.gradient_bounds.specs.declared.threshold.Threshold.{Threshold}
use Rattle.gradient_bounds.specs.Decision.{AreNumbers, threshold_by, needed_by, EachReaches, SomeFallsBelow}
use Rattle.gradient_bounds.specs.Kept.{IsFilledAt, IsSmallEntry, IsNumberOf, AreUppers, AreLowers, IsPrepared}
use Rattle.gradient_bounds.specs.HeightSums.{IsHeightSums, dirs_of}
use Rattle.gradient_bounds.specs.Neighbourhood.{IsNeighbourhood, ball_of, IsClearIn, IsShutIn}
use Rattle.gradient_bounds.specs.Table.{PreparedWord, IsDirOfHeight, IsTableOf, IsLowAt, number_in, bounds_in, centre_of, LowerEndReaches, LowerEndIsAtLeast, UpperEndFalls}
use Rattle.gradient_bounds.proofs.EachFunction.{has_shift}
use Rattle.gradient_bounds.proofs.Numbering.{are_numbers, number_at}
use Rattle.gradient_bounds.proofs.Numbers.{IsScale, needed}
use Rattle.gradient_bounds.proofs.Stepping.{difference_fits}
use Rattle.gradient_bounds.proofs.Sums.{any_at, IsListed, number_difference, upper_listed, lower_listed, function_listed, bounds_hold}
use Rattle.gradient_bounds.proofs.Tested.{IsTested, IsDriftIn, each_above, each_within, each_decided, each_clear, clear_each, some_decided, some_shut, shut_some}

-- ---- a table that is filled again

get_or-dir : (es : List SineLow) (i : ℕ) (e : SineLow) → get_or (map (λ (e : SineLow). e.dir) es) i e.dir ≡ (get_or es i e).dir
get_or-dir [] i e = refl
get_or-dir (x ∷ es) zero e = refl
get_or-dir (x ∷ es) (suc i) e = get_or-dir es i e

-- tables with the same directions
module _ (w : List ℕ) (old new : List SineLow) (same : map (λ (e : SineLow). e.dir) new ≡ map (λ (e : SineLow). e.dir) old) where
  same_at : (i : ℕ) (e : SineLow) → (get_or new i e).dir ≡ (get_or old i e).dir
  same_at i e = sym (get_or-dir new i e) ∙ ap (λ ds. get_or ds i e.dir) same ∙ get_or-dir old i e

  same_length : length new ≡ length old
  same_length = sym (length-map new (λ (e : SineLow). e.dir)) ∙ ap length same ∙ length-map old (λ (e : SineLow). e.dir)

  pub same_table : IsTableOf w old → IsTableOf w new
  same_table h = record {
    rising = λ i j e lt below. subst₂ (λ a b. dir_cmp a b ≡ Less) (sym (same_at i e)) (sym (same_at j e)) (h.rising i j e lt (omega
        (arith, below, same_length)));
    only = λ i e below. subst (IsDirOfHeight w) (sym (same_at i e)) (h.only i e (omega (arith, below, same_length)));
    all = λ d is.
        let any = h.all d is in
        let below = any.2 in
        any_at (λ (e : SineLow). e.dir ≡ d) new any.0 any.1 (omega (arith, below, same_length)) (same_at any.0 any.1
        ∙ ap (λ (e : SineLow). e.dir) any.3 ∙ any.4);
  }

pub filled_again : (bits : ℕ) (w u : List ℕ) (s s' : HeightSums) (p : Option (Written × Written)) (table new table' : List SineLow)
    (us ls us' ls' us'' ls'' : List ℤ) (x y : Written)
    → IsPrepared bits w u s p table us ls → map (λ (e : SineLow). e.dir) new ≡ map (λ (e : SineLow). e.dir) table → All (IsLowAt bits (value x) (value y)) new
    → All IsSmallEntry new → AreUppers u new us' → AreLowers u new ls' → table' ≡ new → us'' ≡ us' → ls'' ≡ ls'
    → IsHeightSums u (dirs_of new) s' → IsPrepared bits w u s' (Some (x, y)) table' us'' ls''
filled_again bits w u s s' p table new table' us ls us' ls' us'' ls'' x y h same lows small uppers lowers table_is us_is ls_is sums =
    subst (λ es. IsPrepared bits w u s' (Some (x, y)) es us'' ls'') (sym table_is)
    (subst₂ (λ a b. IsPrepared bits w u s' (Some (x, y)) new a b) (sym us_is) (sym ls_is) (record {
      word = h.word;
      stable = h.stable;
      same_word = h.same_word;
      directions = same_table w table new same h.directions;
      small = small;
      filled = lows;
      uppers = subst (λ v. AreUppers v new us') h.same_word uppers;
      lowers = subst (λ v. AreLowers v new ls') h.same_word lowers;
      sums = subst (λ v. IsHeightSums v (dirs_of new) s') h.same_word sums;
    }))

-- ---- the table as it was filled

pub filled_lows : (bits : ℕ) (p : Option (Written × Written)) (table : List SineLow) → IsFilledAt bits p table
    → IfSome p (λ q. All (IsLowAt bits (value q.0) (value q.1)) table)
filled_lows bits None table h = h
filled_lows bits (Some q) table h = h

-- a form whose directions are listed has its value within its bounds
pub form_holds : (bits : ℕ) (p : Option (Written × Written)) (table : List SineLow) (P : FormalPoint → Type 0) (form : FormalPoint → FormalPoint) (r : Ends)
    → IsFilledAt bits p table → ((v : FormalPoint) → P v → IsListed table (form v)) → ((v : FormalPoint) → P v → r ≡ bounds_in table (form v))
    → IfSome p (λ q. (v : FormalPoint) → P v → FromSomeOn (λ n. Encloses bits r (value_at n (form v) (value q.0) (value q.1))))
form_holds bits None table P form r h listed is = h
form_holds bits (Some q) table P form r h listed is = λ v here.
    subst (λ e. FromSomeOn (λ n. Encloses bits e (value_at n (form v) (value q.0) (value q.1)))) (sym (is v here)) (bounds_hold bits (value q.0)
    (value q.1) table (form v) h (listed v here))

-- ---- bounds

-- the ends around a number that is a form's, at the form's weight
pub ends_are : (table : List SineLow) (f : FormalPoint) (r : Ends) (z : ℤ) (a : ℕ) → r ≡ record {
  lo = z -ℤ pos (256 * a);
  hi = z +ℤ pos (256 * a);
} → z ≡ number_in table f
    → a ≡ weight f → r ≡ bounds_in table f
ends_are table f r z a r_is z_is a_is = r_is ∙ ap₂ (λ (z : ℤ) (a : ℕ). record { lo = z -ℤ pos (256 * a); hi = z +ℤ pos (256 * a) }) z_is a_is

-- ---- tests

-- what the decision says of the table, and of the functions in a neighbourhood
pub record IsEachTest (bits low high : ℕ) (pi : ℤ) (u : List ℕ) (us ls : List ℤ) (r : Neighbourhood) (drift : FormalPoint
    → ℤ) (now : PreparedWord) : Type 0 where
  pub decided : EachReaches (needed bits low pi r) u us ls ↔ EachFunction now.word (LowerEndReaches bits low drift now.table)
  pub clear : EachReaches (needed bits low pi r) u us ls → EachFunction now.word (IsClearIn (ball_of r) (slack low))
  pub found : EachFunction now.word (IsClearIn (ball_of r) (slack high)) → EachReaches (needed bits low pi r) u us ls

pub record IsSomeTest (bits low high : ℕ) (pi : ℤ) (u : List ℕ) (us ls : List ℤ) (r : Neighbourhood) (drift : FormalPoint
    → ℤ) (now : PreparedWord) : Type 0 where
  pub decided : SomeFallsBelow (needed bits low pi r) u us ls ↔ SomeFunction now.word (UpperEndFalls bits low drift now.table)
  pub shut : SomeFallsBelow (needed bits low pi r) u us ls → SomeFunction now.word (IsShutIn (ball_of r) (slack low))
  pub found : SomeFunction now.word (IsShutIn (ball_of r) (slack high)) → SomeFallsBelow (needed bits low pi r) u us ls

module _ (bits : ℕ) (w u : List ℕ) {s : HeightSums} (p : Option (Written × Written)) (table : List SineLow) (us ls us' ls' : List ℤ)
    (h : IsPrepared bits w u s p table us ls) (us_is : us' ≡ us) (ls_is : ls' ≡ ls) where
  tested : IsTested w table us ls
  tested = record { word = h.word; stable = h.stable; directions = h.directions; uppers = h.uppers; lowers = h.lowers }

  pub numbers_up : AreNumbers u upper_height us'
  numbers_up = subst₂ (λ x a. AreNumbers x upper_height a) (sym h.same_word) (sym us_is)
      (are_numbers w table upper_height us (has_shift w h.word h.stable) h.uppers)

  pub numbers_low : AreNumbers u lower_height ls'
  numbers_low = subst₂ (λ x a. AreNumbers x lower_height a) (sym h.same_word) (sym ls_is)
      (are_numbers w table lower_height ls (has_shift w h.word h.stable) h.lowers)

  -- the same lists under their names
  each_kept : (needs : FormalPoint → ℤ) → EachReaches needs u us' ls' ↔ EachReaches needs w us ls
  each_kept needs = (
    λ e. subst (λ v. EachReaches needs v us ls) h.same_word (subst₂ (λ a b. EachReaches needs u a b) us_is ls_is e),
    λ e. subst (λ v. EachReaches needs v us' ls') (sym h.same_word) (subst₂ (λ a b. EachReaches needs w a b) (sym us_is) (sym ls_is) e),
  )

  some_kept : (needs : FormalPoint → ℤ) → SomeFallsBelow needs u us' ls' ↔ SomeFallsBelow needs w us ls
  some_kept needs = (
    λ e. subst (λ v. SomeFallsBelow needs v us ls) h.same_word (subst₂ (λ a b. SomeFallsBelow needs u a b) us_is ls_is e),
    λ e. subst (λ v. SomeFallsBelow needs v us' ls') (sym h.same_word) (subst₂ (λ a b. SomeFallsBelow needs w a b) (sym us_is) (sym ls_is) e),
  )

  -- what the decision by any threshold says of the table
  pub threshold_test : (now : PreparedWord) → ◌≡◌ {A = PreparedWord} (record { word = w; point = p; table = table }) now → (t : Threshold)
      → EachReaches (needed_by t) u us' ls' ↔ EachFunction now.word (LowerEndIsAtLeast (threshold_by t) now.table)
  threshold_test now view t =
      let above = each_above w table us ls tested t in
      let kept = each_kept (needed_by t) in
      subst (λ (n : PreparedWord). EachReaches (needed_by t) u us' ls' ↔ EachFunction n.word (LowerEndIsAtLeast (threshold_by t) n.table)) view
      (λ e. above.0 (kept.0 e), λ e. kept.1 (above.1 e))

  -- and where the values of the functions lie
  pub values_within : (now : PreparedWord) → ◌≡◌ {A = PreparedWord} (record { word = w; point = p; table = table }) now
      → IfSome now.point (λ q. EachFunction now.word (λ f. FromSomeOn (λ n. Encloses bits (bounds_in now.table f) (value_at n f (value q.0) (value q.1)))))
  values_within now view =
      subst (λ (m : PreparedWord).
      IfSome m.point (λ q. EachFunction m.word (λ f. FromSomeOn (λ n. Encloses bits (bounds_in m.table f) (value_at n f (value q.0) (value q.1)))))) view
      (at p h.filled)
    where
      at : (p : Option (Written × Written)) → IsFilledAt bits p table
          → IfSome p (λ q. EachFunction w (λ f. FromSomeOn (λ n. Encloses bits (bounds_in table f) (value_at n f (value q.0) (value q.1)))))
      at None filled = filled
      at (Some q) filled = each_within w table us ls tested bits (value q.0) (value q.1) filled

  module _ (low high : ℕ) (L H : ℤ) (scale : IsScale bits low high L H) (now : PreparedWord)
      (view : ◌≡◌ {A = PreparedWord} (record { word = w; point = p; table = table }) now) (x y : Written) (at : now.point ≡ Some (x, y))
      (r : Neighbourhood) (near : IsNeighbourhood r) (x_is : (ball_of r).x ≡ value x) (y_is : (ball_of r).y ≡ value y) (drift : FormalPoint
      → ℤ) (drift_is : IsDriftIn H r drift) where
    filled : All (IsLowAt bits (ball_of r).x (ball_of r).y) table
    filled = subst₂ (λ a b. All (IsLowAt bits a b) table) (sym x_is) (sym y_is) (subst (λ q. IsFilledAt bits q table) (ap (λ
        (n : PreparedWord). n.point) view ∙ at) h.filled)

    abbrev needs : FormalPoint → ℤ
    needs = needed bits low H r

    pub each_test : IsEachTest bits low high H u us' ls' r drift now
    each_test =
        let d = each_decided w table us ls tested bits low high L H scale r near filled drift drift_is in
        subst (IsEachTest bits low high H u us' ls' r drift) view (record {
          decided = (λ e. d.0 ((each_kept needs).0 e), λ e. (each_kept needs).1 (d.1 e));
          clear = λ e. each_clear w table us ls tested bits low high L H scale r near filled drift drift_is ((each_kept needs).0 e);
          found = λ e. (each_kept needs).1 (clear_each w table us ls tested bits low high L H scale r near filled drift drift_is e);
        })

    pub some_test : IsSomeTest bits low high H u us' ls' r drift now
    some_test =
        let d = some_decided w table us ls tested bits low high L H scale r near filled drift drift_is in
        subst (IsSomeTest bits low high H u us' ls' r drift) view (record {
          decided = (λ e. d.0 ((some_kept needs).0 e), λ e. (some_kept needs).1 (d.1 e));
          shut = λ e. some_shut w table us ls tested bits low high L H scale r near filled drift drift_is ((some_kept needs).0 e);
          found = λ e. (some_kept needs).1 (shut_some w table us ls tested bits low high L H scale r near filled drift drift_is e);
        })

-- ---- centres of boxes

-- a fraction from 0 to 1 over a denominator of at most 2^21
pub record IsUnitFraction (x : Written) : Type 0 where
  pub least : whole 0 ≤ℚ value x
  pub most : value x ≤ℚ whole 1
  pub small : x.den ≤ 2 ^ 21

centre_fraction : (i level : ℕ) → level ≤ 20 → i < 2 ^ level → IsUnitFraction (record { num = pos (2 * i + 1); den = 2 ^ (level + 1) })
centre_fraction i level deep below =
    let double : 2 ^ (level + 1) ≡ 2 ^ level * 2 = pow_more 2 level in
    let positive : 0 < 2 ^ (level + 1) = pow_pos (level + 1) in
    let shallow : level + 1 ≤ 21 = omega arith in
    record {
      least = over_nonneg (2 * i + 1) (2 ^ (level + 1));
      most = over_le (pos (2 * i + 1)) (pos 1) (2 ^ (level + 1)) 1 positive (lit< tt) (inside (2 * i + 1) (2 ^ (level + 1)) (omega (arith, double, below)));
      small = pow_mono shallow;
    }
  where
    inside : (a b : ℕ) → a ≤ b → (pos a *ℤ pos 1) ≤ℤ (pos 1 *ℤ pos b)
    inside a b h = omega (arith, ints, h)

pub centre_in_unit : (box : Square) (x y : Written) → IsBox box → x ≡ (centre_of box).0 → y ≡ (centre_of box).1 → (IsUnitFraction x) × (IsUnitFraction y)
centre_in_unit box x y h x_is y_is = (
  subst IsUnitFraction (sym x_is) (centre_fraction box.i box.level h.depth h.column),
  subst IsUnitFraction (sym y_is) (centre_fraction box.j box.level h.depth h.row),
)

-- ---- bounds of one form

-- what is said of the bounds of a form by its number c and its weight z
pub record IsBound (bits : ℕ) (now : PreparedWord) (form : List ℕ → FormalPoint → FormalPoint) (c z : ℤ) : Type 0 where
  pub number_fits : FitsSigned w128 c
  pub size : unsigned_abs c ≤ 2 ^ 99
  pub weight_fits : FitsSigned w64 z
  pub least : pos 0 ≤ℤ z
  pub shift : HasShift now.word
  pub ends : (r : Ends) → r ≡ record { lo = c -ℤ pos (256 * unsigned_abs z); hi = c +ℤ pos (256 * unsigned_abs z) } → (v : FormalPoint) → IsShift now.word v
      → r ≡ bounds_in now.table (form now.word v)
  pub holds : (r : Ends) → r ≡ record { lo = c -ℤ pos (256 * unsigned_abs z); hi = c +ℤ pos (256 * unsigned_abs z) }
      → IfSome now.point (λ q. (v : FormalPoint) → IsShift now.word v → FromSomeOn (λ n. Encloses bits r (value_at n (form now.word v) (value q.0)
      (value q.1))))

module _ (bits : ℕ) (w u : List ℕ) {s : HeightSums} (p : Option (Written × Written)) (table : List SineLow) (us ls : List ℤ)
    (h : IsPrepared bits w u s p table us ls)
    (now : PreparedWord) (view : ◌≡◌ {A = PreparedWord} (record { word = w; point = p; table = table }) now) where
  bound_of : (form : List ℕ → FormalPoint → FormalPoint) (c z : ℤ) → ((v : FormalPoint) → IsShift w v → IsListed table (form w v)) → unsigned_abs c ≤ 2 ^ 80
      → ((v : FormalPoint) → IsShift w v → c ≡ number_in table (form w v)) → ((v : FormalPoint) → IsShift u v → z ≡ pos (weight (form u v))) → z ≤ℤ pos 16384
      → IsBound bits now form c z
  bound_of form c z listed size number weighs most =
      let shift = has_shift w h.word h.stable in
      let weight_is = subst (λ x. (v : FormalPoint) → IsShift x v → z ≡ pos (weight (form x v))) h.same_word weighs in
      let here = weight_is shift.0 shift.1 in
      let ends : (r : Ends) → r ≡ record { lo = c -ℤ pos (256 * unsigned_abs z); hi = c +ℤ pos (256 * unsigned_abs z) } → (v : FormalPoint)
      → IsShift w v → r ≡ bounds_in table (form w v) =
      λ r r_is v is. ends_are table (form w v) r c (unsigned_abs z) r_is (number v is) (ap unsigned_abs (weight_is v is)) in
      subst (λ (n : PreparedWord). IsBound bits n form c z) view (record {
        number_fits = fits_signed_from_abs w128 c (omega (arith, size));
        size = omega (arith, size);
        weight_fits = fits_signed_from_abs w64 z (small z (weight (form w shift.0)) here most);
        least = nonneg z (weight (form w shift.0)) here;
        shift = shift;
        ends = ends;
        holds = λ r r_is. form_holds bits p table (IsShift w) (form w) r h.filled listed (ends r r_is);
      })
    where
      nonneg : (z : ℤ) (n : ℕ) → z ≡ pos n → pos 0 ≤ℤ z
      nonneg z n e = omega (arith, ints, e)

      small : (z : ℤ) (n : ℕ) → z ≡ pos n → z ≤ℤ pos 16384 → unsigned_abs z < 2 ^ 63
      small z n e h = omega (arith, ints, e, h)

  place_in : (k : ℕ) → IsPlace now.word k → IsPlace w k
  place_in k = subst (λ (n : PreparedWord). IsPlace n.word k) (sym view)

  upper_number : (k : ℕ) (a : ℤ) → IsPlace w k → a ≡ get_or us (k - 1) a → IsNumberOf w table (λ v. upper_height v w k) a
  upper_number k a place a_is =
      let low = place.0 in
      let back : k - 1 + 1 ≡ k = omega (arith, low) in
      subst (λ j. IsNumberOf w table (λ v. upper_height v w j) a) back
      (subst (IsNumberOf w table (λ v. upper_height v w (k - 1 + 1))) (sym a_is) (number_at w table (λ i v. upper_height v w (i + 1)) us h.uppers k a place))

  lower_number : (l : ℕ) (b : ℤ) → IsPlace w l → b ≡ get_or ls (l - 1) b → IsNumberOf w table (λ v. lower_height v w l) b
  lower_number l b place b_is =
      let low = place.0 in
      let back : l - 1 + 1 ≡ l = omega (arith, low) in
      subst (λ j. IsNumberOf w table (λ v. lower_height v w j) b) back
      (subst (IsNumberOf w table (λ v. lower_height v w (l - 1 + 1))) (sym b_is) (number_at w table (λ i v. lower_height v w (i + 1)) ls h.lowers l b place))

  -- two numbers and their difference fit
  pub record FitTogether (a b : ℤ) : Type 0 where
    pub upper : FitsSigned w128 a
    pub lower : FitsSigned w128 b
    pub difference : FitsSigned w128 (a -ℤ b)

  pub fit_together : (k l : ℕ) (a b : ℤ) → IsPlace now.word k → IsPlace now.word l → a ≡ get_or us (k - 1) a → b ≡ get_or ls (l - 1) b → FitTogether a b
  fit_together k l a b p q a_is b_is =
      let upper = upper_number k a (place_in k p) a_is in
      let lower = lower_number l b (place_in l q) b_is in
      record {
        upper = fits_signed_from_abs w128 a (omega (arith, upper.small));
        lower = fits_signed_from_abs w128 b (omega (arith, lower.small));
        difference = difference_fits a b (omega (arith, upper.small)) (omega (arith, lower.small));
      }

  -- what is said of two numbers
  pub record IsPair (k l : ℕ) (a b z : ℤ) : Type 0 where
    pub upper_fits : FitsSigned w128 a
    pub lower_fits : FitsSigned w128 b
    pub bound : IsBound bits now (λ w v. defining_function v w k l) (a -ℤ b) z

  pub pair : (k l : ℕ) (a b z : ℤ) → IsPlace now.word k → IsPlace now.word l → a ≡ get_or us (k - 1) a → b ≡ get_or ls (l - 1) b
      → ((v : FormalPoint) → IsShift u v → z ≡ pos (weight (defining_function v u k l))) → z ≤ℤ pos 16384 → IsPair k l a b z
  pair k l a b z p q a_is b_is weighs most =
      let upper = upper_number k a (place_in k p) a_is in
      let lower = lower_number l b (place_in l q) b_is in
      record {
        upper_fits = fits_signed_from_abs w128 a (omega (arith, upper.small));
        lower_fits = fits_signed_from_abs w128 b (omega (arith, lower.small));
        bound = bound_of (λ w v. defining_function v w k l) (a -ℤ b) z (λ v shift. function_listed w table h.directions v shift k l (place_in k p)
            (place_in l q))
            (apart a b upper.small lower.small)
            (λ v shift. ap₂ ◌-ℤ◌ (upper.is v shift) (lower.is v shift) ∙ sym (number_difference table v w k l)) weighs most;
      }
    where
      apart : (a b : ℤ) → unsigned_abs a ≤ 2 ^ 76 → unsigned_abs b ≤ 2 ^ 76 → unsigned_abs (a -ℤ b) ≤ 2 ^ 80
      apart a b h k = omega (arith, ints, h, k)

  pub upper_bound : (k : ℕ) (a z : ℤ) (f : FormalPoint) → IsPlace now.word k → a ≡ get_or us (k - 1) a → ((v : FormalPoint) → IsShift u v
      → f ≡ upper_height v u k)
      → z ≡ pos (weight f) → weight f ≤ 16384 → IsBound bits now (λ w v. upper_height v w k) a z
  upper_bound k a z f place a_is f_is z_is light =
      let upper = upper_number k a (place_in k place) a_is in
      bound_of (λ w v. upper_height v w k) a z (λ v shift. upper_listed w table h.directions v shift k (place_in k place)) (omega
      (arith, upper.small)) upper.is
      (λ v shift. z_is ∙ ap (λ f. pos (weight f)) (f_is v shift)) (subst (λ y. y ≤ℤ pos 16384) (sym z_is) (pos_le (weight f) 16384 light))

  pub lower_bound : (l : ℕ) (b z : ℤ) (f : FormalPoint) → IsPlace now.word l → b ≡ get_or ls (l - 1) b → ((v : FormalPoint) → IsShift u v
      → f ≡ lower_height v u l)
      → z ≡ pos (weight f) → weight f ≤ 16384 → IsBound bits now (λ w v. lower_height v w l) b z
  lower_bound l b z f place b_is f_is z_is light =
      let lower = lower_number l b (place_in l place) b_is in
      bound_of (λ w v. lower_height v w l) b z (λ v shift. lower_listed w table h.directions v shift l (place_in l place)) (omega
      (arith, lower.small)) lower.is
      (λ v shift. z_is ∙ ap (λ f. pos (weight f)) (f_is v shift)) (subst (λ y. y ≤ℤ pos 16384) (sym z_is) (pos_le (weight f) 16384 light))

-- ---- a new one

pub prepared_from : (bits : ℕ) (w v u f : List ℕ) (s : HeightSums) (table : List SineLow) (us ls us' ls' : List ℤ)
    → v ≡ w → u ≡ w → f ≡ u → IsWord u → IsStable w
    → IsTableOf f table → All IsSmallEntry table → AreUppers f table us' → AreLowers f table ls' → us ≡ us' → ls ≡ ls'
    → IsHeightSums f (dirs_of table) s → IsPrepared bits v f s None table us ls
prepared_from bits w v u f s table us ls us' ls' v_is u_is f_is word stable directions small uppers lowers us_is ls_is sums =
    let same : f ≡ v = f_is ∙ u_is ∙ sym v_is in
    record {
      word = subst IsWord (u_is ∙ sym v_is) word;
      stable = subst IsStable (sym v_is) stable;
      same_word = same;
      directions = subst (λ x. IsTableOf x table) same directions;
      small = small;
      filled = tt;
      uppers = subst₂ (λ x a. AreUppers x table a) same (sym us_is) uppers;
      lowers = subst₂ (λ x a. AreLowers x table a) same (sym ls_is) lowers;
      sums = subst (λ x. IsHeightSums x (dirs_of table) s) same sums;
    }
