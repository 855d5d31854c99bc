-- Numbers by a table of sines: their size, and how near they are to values.
use Rattle.std.proofs.Common.{◌≡◌, refl, sym, ap, ◌∙◌, subst, subst₂, ℕ, zero, suc, ◌+◌, ◌*◌, ◌^◌, ◌<◌, ◌≤◌, List, [], ◌∷◌, ◌++◌, map, length, get_or}
use Rattle.std.proofs.Common.{Bool, true, false, if◌then◌else◌, ℤ, pos, ◌+ℤ◌, ◌-ℤ◌, ◌*ℤ◌, ◌≤ℤ◌, unsigned_abs, arith, inl, inr}
use Rattle.std.proofs.Common.{take, set, FitsSigned, to_z, of_z}
use Rattle.std.specs.Int.{w64, w128}
use Rattle.std.specs.List.{All, Any, AllWithin}
use Rattle.std.proofs.lemmas.Int.{ints, to_z-of_z, fits_signed_from_abs}
use Rattle.std.proofs.lemmas.List.{get_or_default}
use Rattle.std.proofs.lemmas.List.Sums.{sum_by_more_le}
use Rattle.std.proofs.lemmas.List.Elements.{All-head, All-tail, All-append, All-map, All-weaker, All-get_or, All-set, AllWithin-more_set}
use Rattle.ring_solver.proofs.Whole.{ℤ_ring, ℤ_image}
use Rattle.rat_core.specs.Fraction.{ℚ}
use Rattle.edge_words.specs.Letters.{IsPlace}
use Rattle.exp_sums.specs.declared.direction.Dir.{Dir}
use Rattle.exp_sums.specs.declared.terms.Term.{Term}
use Rattle.std.specs.declared.cmp.Ordering.TheVariants.{Less, Equal}
use Rattle.exp_sums.specs.Terms.{dir_cmp, is_same_dir}
use Rattle.exp_sums.proofs.Totals.{same_dir}
use Rattle.exp_sums.specs.FormalPoint.{FormalPoint, terms, term_neg, zero_dir, ◌+ₚ◌, ◌-ₚ◌, negative}
use Rattle.exp_sums.specs.Limits.{terms_weight, IsNear}
use Rattle.exp_sums.specs.Weigh.{weigh_terms}
use Rattle.exp_sums.proofs.Directions.{is_same_dir-Decides}
use Rattle.exp_sums.proofs.Numbers.{weighing_linear}
use Rattle.exp_sums.proofs.Within.{dirs-point_of}
use Rattle.trig_meaning.specs.FromSomeOn.{FromSomeOn}
use Rattle.trig_meaning.specs.Turn.{sine_of_turn}
use Rattle.trig_meaning.specs.Value.{turn_of, value_at}
use Rattle.unfolding.specs.Shift.{IsShift}
use Rattle.directed_fixed.specs.Ends.{Encloses}
use Rattle.defining_functions.specs.Functions.{defining_function}
use Rattle.defining_functions.specs.Heights.{upper_height, lower_height}
use Rattle.defining_functions.proofs.Differences.{function_difference}
use Rattle.gradient_bounds.specs.declared.sine_low.SineLow.{SineLow}
use Rattle.sine_fixed.proofs.Turning.{fits_128}
use Rattle.sine_fixed.proofs.Weighing.{IsFrom, IsStep, sum_of_first, step_exactly, sum_near}
use Rattle.gradient_bounds.specs.Table.{IsRising, IsTableOf, IsLowAt, low_in, number_in, bounds_in}
use Rattle.gradient_bounds.specs.Kept.{IsSmallEntry}

-- ---- what the table says of a direction

-- an element at its place
pub any_at : {X : Type 0} (P : X → Type 0) (xs : List X) (i : ℕ) (d : X) → i < length xs → P (get_or xs i d) → Any P xs
any_at P xs i d below h = (i, get_or xs i d, below, get_or_default xs i (get_or xs i d) d below, h)

any_rest : (P : SineLow → Type 0) (e : SineLow) (es : List SineLow) → Any P (e ∷ es) → (P e → ⊥) → Any P es
any_rest P e es (zero, x, below, is, h) not = absurd (not (subst P (sym is) h))
any_rest P e es (suc k, x, below, is, h) not = (k, x, omega (arith, below), is, h)

pub low_small : (table : List SineLow) (d : Dir) → All IsSmallEntry table → unsigned_abs (low_in table d) ≤ 2 ^ 62
low_small [] d h = omega arith
low_small (e ∷ es) d h = by_test (is_same_dir e.dir d) (All-head IsSmallEntry e es h).low (low_small es d (All-tail IsSmallEntry e es h))
  where
    by_test : (b : Bool) → unsigned_abs e.low ≤ 2 ^ 62 → unsigned_abs (low_in es d) ≤ 2 ^ 62 → unsigned_abs (if b then e.low else low_in es d) ≤ 2 ^ 62
    by_test true here later = here
    by_test false here later = later

-- where the directions rise, an entry's number is what the table says of its direction
pub low_at_place : (table : List SineLow) (d : Dir) (i : ℕ) (x : SineLow) → IsRising table → i < length table → (get_or table i x).dir ≡ d
    → (get_or table i x).low ≡ low_in table d
low_at_place [] d i x rising below is = absurd (omega (arith, below))
low_at_place (e ∷ es) d zero x rising below is = by_test (is_same_dir e.dir d) ((is_same_dir-Decides e.dir d).1 is)
  where
    by_test : (b : Bool) → b ≡ true → e.low ≡ (if b then e.low else low_in es d)
    by_test b holds = rw holds refl
low_at_place (e ∷ es) d (suc i) x rising below is =
    by_test (is_same_dir e.dir d) refl
    (low_at_place es d i x (λ j k y lt in_range. rising (suc j) (suc k) y (omega (arith, lt)) (omega (arith, in_range))) (omega (arith, below)) is)
  where
    by_test : (b : Bool) → is_same_dir e.dir d ≡ b → (get_or es i x).low ≡ low_in es d → (get_or es i x).low ≡ (if b then e.low else low_in es d)
    by_test false apart later = later
    by_test true holds later =
        let same : e.dir ≡ d = (is_same_dir-Decides e.dir d).0 holds in
        let less : dir_cmp e.dir (get_or es i x).dir ≡ Less = rising 0 (suc i) x (omega arith) below in
        let equal : dir_cmp d d ≡ Equal = same_dir d in
        let less' : dir_cmp d d ≡ Less = subst₂ (λ a b. dir_cmp a b ≡ Less) same is less in
        let clash : Less ≡ Equal = sym less' ∙ equal in
        cc

-- the same as the machine reads it
pub low_read : (table : List SineLow) (d : Dir) (i : ℕ) (x : SineLow) → IsRising table → All IsSmallEntry table → i < length table → (get_or table i x).dir ≡ d
    → to_z w128 (of_z w128 (get_or table i x).low) ≡ low_in table d
low_read table d i x rising small below is =
    let size = (All-get_or IsSmallEntry table i x below small).low in
    to_z-of_z w128 (get_or table i x).low (fits_signed_from_abs w128 (get_or table i x).low (omega (arith, size))) ∙ low_at_place table d i x rising below is

module _ (bits : ℕ) (x y : ℚ) where
  -- the sine of a direction lies above a number, and at most 256 above it
  abbrev pub IsSineFrom : ℤ → Dir → Type 0
  IsSineFrom z d = IsFrom bits z (λ n. sine_of_turn n (turn_of d x y))

  pub low_holds : (table : List SineLow) (d : Dir) → All (IsLowAt bits x y) table → Any (λ e. e.dir ≡ d) table → IsSineFrom (low_in table d) d
  low_holds [] d all any = let below = any.2 in absurd (omega (arith, below))
  low_holds (e ∷ es) d all any = by_test (is_same_dir e.dir d) refl (low_holds es d (All-tail (IsLowAt bits x y) e es all))
    where
      by_test : (b : Bool) → is_same_dir e.dir d ≡ b → (Any (λ e. e.dir ≡ d) es → IsSineFrom (low_in es d) d)
          → IsSineFrom (if b then e.low else low_in es d) d
      by_test true is later = subst (IsSineFrom e.low) ((is_same_dir-Decides e.dir d).0 is) (All-head (IsLowAt bits x y) e es all)
      by_test false is later = later
          (any_rest (λ e. e.dir ≡ d) e es any (λ same. let yes = (is_same_dir-Decides e.dir d).1 same in let no : true ≡ false = sym yes ∙ is in cc))

-- ---- sums over terms

-- the same for numbers that are those
pub step_at : (table : List SineLow) → All IsSmallEntry table → (ts : List Term) (i : ℕ) (e : Term) (total from low : ℤ) → i < length ts
    → terms_weight ts ≤ 16384 → total ≡ weigh_terms ℤ_ring ℤ_image (low_in table) (take i ts) → from ≡ to_z w64 (of_z w64 (get_or ts i e).c)
    → low ≡ low_in table (get_or ts i e).dir → IsStep (low_in table) ts i total from low
step_at table entries ts i e total from low below light total_is from_is low_is =
    let t = get_or ts i e in
    let part = sum_by_more_le (λ (t : Term). unsigned_abs t.c) ts i e below in
    let factor_small : unsigned_abs t.c ≤ 16384 = omega (arith, part, light) in
    let room : terms_weight ts ≤ 2 ^ 31 = omega (arith, light) in
    let c_is : from ≡ t.c = from_is ∙ to_z-of_z w64 t.c (fits_signed_from_abs w64 t.c (omega arith)) in
    subst₂ (λ a b. IsStep (low_in table) ts i a b low) (sym total_is) (sym c_is)
    (subst (IsStep (low_in table) ts i (weigh_terms ℤ_ring ℤ_image (low_in table) (take i ts)) t.c) (sym low_is)
    (step_exactly (low_in table) (λ d. low_small table d entries) ts i e below room))

pub number_size : (table : List SineLow) → All IsSmallEntry table → (ts : List Term) (i : ℕ) (total : ℤ) → terms_weight ts ≤ 16384
    → total ≡ weigh_terms ℤ_ring ℤ_image (low_in table) (take i ts) → unsigned_abs total ≤ 2 ^ 76
number_size table entries ts i total light is =
    let room : terms_weight ts ≤ 2 ^ 31 = omega (arith, light) in
    let first = sum_of_first (low_in table) (λ d. low_small table d entries) ts i room in
    subst (λ z. unsigned_abs z ≤ 2 ^ 76) (sym is) (omega (arith, first, light))

-- ---- forms

-- each direction of a difference comes from one of the two
dirs_difference : (P : Dir → Type 0) (p q : FormalPoint) → All (λ (t : Term). P t.dir) (terms p) → All (λ (t : Term). P t.dir) (terms q)
    → All (λ (t : Term). P t.dir) (terms (p -ₚ q))
unfolding ◌+ₚ◌ negative
dirs_difference P p q h k =
    dirs-point_of P (terms p ++ terms (negative q)) (All-append (λ (t : Term). P t.dir) (terms p) (terms (negative q)) h
    (dirs-point_of P (map term_neg (terms q)) (All-map (λ (t : Term). P t.dir) term_neg (terms q) k)))

-- the direction stands in the table
abbrev StandsIn : List SineLow → Dir → Type 0
StandsIn table d = Any (λ e. e.dir ≡ d) table

-- each direction of the form does
abbrev pub IsListed : List SineLow → FormalPoint → Type 0
IsListed table f = All (λ (t : Term). StandsIn table t.dir) (terms f)

module _ (w : List ℕ) (table : List SineLow) (h : IsTableOf w table) (v : FormalPoint) (shift : IsShift w v) where
  pub upper_listed : (k : ℕ) → IsPlace w k → IsListed table (upper_height v w k)
  upper_listed k place = λ i t below.
      let f = upper_height v w k in
      h.all (get_or (terms f) i t).dir
      (record {
        shift = v;
        is_shift = shift;
        corner = k;
        is_corner = place;
        has = inl (any_at (λ (u : Term). u.dir
            ≡ (get_or (terms f) i t).dir) (terms f) i t below refl);
      })

  pub lower_listed : (l : ℕ) → IsPlace w l → IsListed table (lower_height v w l)
  lower_listed l place = λ i t below.
      let f = lower_height v w l in
      h.all (get_or (terms f) i t).dir
      (record {
        shift = v;
        is_shift = shift;
        corner = l;
        is_corner = place;
        has = inr (any_at (λ (u : Term). u.dir
            ≡ (get_or (terms f) i t).dir) (terms f) i t below refl);
      })

  pub function_listed : (k l : ℕ) → IsPlace w k → IsPlace w l → IsListed table (defining_function v w k l)
  function_listed k l p q =
      subst (IsListed table) (sym (function_difference v w k l))
      (dirs_difference (StandsIn table) (upper_height v w k) (lower_height v w l) (upper_listed k p) (lower_listed l q))

-- the bounds of a form hold its value
pub bounds_hold : (bits : ℕ) (x y : ℚ) (table : List SineLow) (f : FormalPoint) → All (IsLowAt bits x y) table → IsListed table f
    → FromSomeOn (λ n. Encloses bits (bounds_in table f) (value_at n f x y))
bounds_hold bits x y table f all listed =
    sum_near bits (λ n d. sine_of_turn n (turn_of d x y)) (low_in table) (terms f)
    (All-weaker (λ (t : Term). StandsIn table t.dir) (λ (t : Term). IsSineFrom bits x y (low_in table t.dir) t.dir)
    (λ t any. low_holds bits x y table t.dir all any) (terms f) listed)

-- a function's number is the difference of its heights' numbers
pub number_difference : (table : List SineLow) (v : FormalPoint) (w : List ℕ) (k l : ℕ)
    → number_in table (defining_function v w k l) ≡ number_in table (upper_height v w k) -ℤ number_in table (lower_height v w l)
number_difference table v w k l =
    ap (number_in table) (function_difference v w k l) ∙ weighing_linear.of_difference (low_in table) (upper_height v w k) (lower_height v w l)

-- ---- the entries so far

abbrev blank_entry : SineLow
blank_entry = record { dir = zero_dir; low = pos 0 }

same_directions : (es : List SineLow) (i : ℕ) (low : ℤ) → map (λ (e : SineLow). e.dir) (set es i (record {
  dir = (get_or es i blank_entry).dir;
  low = low;
})) ≡ map (λ (e : SineLow). e.dir) es
same_directions [] i low = refl
same_directions (e ∷ es) zero low = refl
same_directions (e ∷ es) (suc i) low = ap (λ ds. e.dir ∷ ds) (same_directions es i low)

pub next_entry : (bits : ℕ) (x y : ℚ) (old : List Dir) (es : List SineLow) (i : ℕ) (low : ℤ) → i < length es → map (λ (e : SineLow). e.dir) es ≡ old
    → All (λ (e : SineLow). IsNear 130 e.dir) es → AllWithin (IsLowAt bits x y) es 0 i → AllWithin IsSmallEntry es 0 i
    → IsSineFrom bits x y low (get_or es i blank_entry).dir → unsigned_abs low ≤ 2 ^ 62
    → let more = set es i (record { dir = (get_or es i blank_entry).dir; low = low }) in
    (map (λ (e : SineLow). e.dir) more ≡ old) × (All (λ (e : SineLow). IsNear 130 e.dir) more) × (AllWithin (IsLowAt bits x y) more 0 (i + 1)) ×
    (AllWithin IsSmallEntry more 0 (i + 1))
next_entry bits x y old es i low below same near lows small sine size =
    let e : SineLow = record { dir = (get_or es i blank_entry).dir; low = low } in
    let here : IsNear 130 e.dir = All-get_or (λ (e : SineLow). IsNear 130 e.dir) es i blank_entry below near in (
      same_directions es i low ∙ same,
      All-set (λ (e : SineLow). IsNear 130 e.dir) es i e here near,
      AllWithin-more_set es i e below (IsLowAt bits x y) lows sine,
      AllWithin-more_set es i e below IsSmallEntry small (record { near = here; low = size }),
    )

-- ---- bounds, as the machine computes them

pub record IsAround (z w from : ℤ) : Type 0 where
  pub number : FitsSigned w128 z
  pub factor : FitsSigned w128 from
  pub error : FitsSigned w128 (pos 256 *ℤ from)
  pub low : FitsSigned w128 (z -ℤ pos 256 *ℤ from)
  pub high : FitsSigned w128 (z +ℤ pos 256 *ℤ from)
  pub lo : z -ℤ pos 256 *ℤ from ≡ z -ℤ pos (256 * unsigned_abs w)
  pub hi : z +ℤ pos 256 *ℤ from ≡ z +ℤ pos (256 * unsigned_abs w)

pub around_computed : (z w from : ℤ) → unsigned_abs z ≤ 2 ^ 99 → pos 0 ≤ℤ w → w ≤ℤ pos 16384 → from ≡ to_z w64 (of_z w64 w) → IsAround z w from
around_computed z w from size least most from_is =
    let w_small : unsigned_abs w ≤ 16384 = omega (arith, ints, least, most) in
    let is : from ≡ w = from_is ∙ to_z-of_z w64 w (fits_signed_from_abs w64 w (omega arith)) in
    subst (IsAround z w) (sym is) (record {
      number = fits_128 z (omega arith);
      factor = fits_128 w (omega arith);
      error = fits_128 (pos 256 *ℤ w) (omega (arith, ints, w_small));
      low = fits_128 (z -ℤ pos 256 *ℤ w) (omega (arith, ints, w_small, size));
      high = fits_128 (z +ℤ pos 256 *ℤ w) (omega (arith, ints, w_small, size));
      lo = omega (arith, ints, least);
      hi = omega (arith, ints, least);
    })
