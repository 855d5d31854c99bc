-- The sum of the directions of a word's heights, and the table that is made of it.
use Rattle.std.proofs.Common.{◌≡◌, ◌≢◌, refl, sym, ap, ap₂, ◌∙◌, subst, ℕ, zero, suc, ◌+◌, add-one, ◌<◌, ◌≤◌, List, [], ◌∷◌, ◌++◌, map, take, length}
use Rattle.std.proofs.Common.{get_or, arith}
use Rattle.std.proofs.Common.{Bool, true, false, ◌||◌, if◌then◌else◌, ℤ, pos, ◌+ℤ◌, unsigned_abs, ◌⊎◌, inl, inr, T, append_assoc}
use Rattle.std.specs.List.{All, Any, AllPairs}
use Rattle.std.specs.Ordering.{is_lt}
use Rattle.std.specs.declared.cmp.Ordering.TheVariants.{Less}
use Rattle.std.proofs.lemmas.Bool.{cases_lt}
use Rattle.std.proofs.lemmas.Int.{ints}
use Rattle.std.proofs.lemmas.List.{get_or_default, take_more, take_all}
use Rattle.std.proofs.lemmas.List.Elements.{All-nil, All-cons, All-map}
use Rattle.std.proofs.lemmas.List.Kept.{AllPairs-cons}
use Rattle.exp_sums.specs.declared.direction.Dir.{Dir}
use Rattle.exp_sums.specs.declared.terms.Term.{Term}
use Rattle.exp_sums.specs.Terms.{dir_cmp, is_same_dir, total_at, is_before_all, is_canonical}
use Rattle.exp_sums.specs.Canonical.{and_parts, canonical_parts, is_less}
use Rattle.exp_sums.specs.FormalPoint.{FormalPoint, terms, terms_canonical, coefficient, monomial, zero_point, zero_dir, ◌+ₚ◌}
use Rattle.exp_sums.specs.Limits.{IsNear, IsWithin, IsWithinLimits, weight, terms_weight, greatest_weight, greatest_exponent}
use Rattle.exp_sums.proofs.Directions.{is_same_dir-Decides}
use Rattle.exp_sums.proofs.Limits.{limits_added}
use Rattle.exp_sums.proofs.Place.{total_at_place}
use Rattle.exp_sums.proofs.SamePoint.{coefficient-+ₚ, coefficient-monomial, coefficient_of_monomial}
use Rattle.exp_sums.proofs.Totals.{is_not_zero}
use Rattle.exp_sums.proofs.Weights.{terms_weight-cons, weight-+ₚ, weight-monomial, weight-zero_point}
use Rattle.exp_sums.proofs.Within.{IsWithin-weaker, IsWithin-+ₚ, IsWithin-monomial, IsWithin-zero_point}
use Rattle.unfolding.specs.Shift.{IsShift, HasShift}
use Rattle.defining_functions.specs.Heights.{upper_height, lower_height}
use Rattle.gradient_bounds.specs.declared.sine_low.SineLow.{SineLow}
use Rattle.gradient_bounds.specs.Table.{HasDir, IsDirOfHeight, IsTableOf}
use Rattle.gradient_bounds.specs.Kept.{IsSmallEntry, has_dir, height_terms, IsMarkOf}

-- ---- tests

true_or_false : (b : Bool) → (b ≡ true) ⊎ (b ≡ false)
true_or_false true = inl refl
true_or_false false = inr refl

has_dir-append : (ts us : List Term) (d : Dir) → has_dir (ts ++ us) d ≡ has_dir ts d || has_dir us d
has_dir-append [] us d = refl
has_dir-append (t ∷ ts) us d = ap (λ b. is_same_dir t.dir d || b) (has_dir-append ts us d) ∙ or_assoc (is_same_dir t.dir d) (has_dir ts d) (has_dir us d)
  where
    or_assoc : (a b c : Bool) → a || (b || c) ≡ (a || b) || c
    or_assoc true b c = refl
    or_assoc false b c = refl

-- the test is true exactly where a term has the direction
has_dir_some : (ts : List Term) (d : Dir) → has_dir ts d ≡ true → Any (λ t. t.dir ≡ d) ts
has_dir_some [] d h = let no : false ≡ true = h in absurd cc
has_dir_some (t ∷ ts) d h = by_test (is_same_dir t.dir d) refl h (has_dir_some ts d)
  where
    by_test : (b : Bool) → is_same_dir t.dir d ≡ b → b || has_dir ts d ≡ true → (has_dir ts d ≡ true → Any (λ t. t.dir ≡ d) ts)
        → Any (λ u. u.dir ≡ d) (t ∷ ts)
    by_test true is k later = (0, t, omega arith, refl, (is_same_dir-Decides t.dir d).0 is)
    by_test false is k later = let any = later k in (suc any.0, any.1, omega (arith, any.2), any.3, any.4)

some_has_dir : (ts : List Term) (d : Dir) → Any (λ t. t.dir ≡ d) ts → has_dir ts d ≡ true
some_has_dir [] d any = let below = any.2 in absurd (omega (arith, below))
some_has_dir (t ∷ ts) d (zero, x, below, is, h) =
    ap (λ b. b || has_dir ts d) ((is_same_dir-Decides t.dir d).1 (subst (λ (u : Term). u.dir ≡ d) (sym is) h))
some_has_dir (t ∷ ts) d (suc k, x, below, is, h) =
    ap (λ b. is_same_dir t.dir d || b) (some_has_dir ts d (k, x, omega (arith, below), is, h)) ∙ or_true (is_same_dir t.dir d)
  where
    or_true : (b : Bool) → b || true ≡ true
    or_true true = refl
    or_true false = refl

-- ---- one more direction

-- the terms so far and one more
mark_step : (ts : List Term) (p q : FormalPoint) (t : Term) → IsMarkOf ts p
    → ((d : Dir) → d ≡ t.dir → coefficient q d ≡ pos 1) → ((d : Dir) → (d ≡ t.dir → ⊥) → coefficient q d ≡ coefficient p d) → IsMarkOf (ts ++ t ∷ []) q
mark_step ts p q t mark here elsewhere d =
    by_test (is_same_dir t.dir d) refl (has_dir ts d) (mark d) ∙ ap (λ b. if b then pos 1 else pos 0) (sym (has_dir-append ts (t ∷ []) d))
  where
    by_test : (b : Bool) → is_same_dir t.dir d ≡ b → (a : Bool) → coefficient p d ≡ (if a then pos 1 else pos 0)
        → coefficient q d ≡ (if a || (b || false) then pos 1 else pos 0)
    by_test true is true h = here d (sym ((is_same_dir-Decides t.dir d).0 is))
    by_test true is false h = here d (sym ((is_same_dir-Decides t.dir d).0 is))
    by_test false is true h = elsewhere d (λ e. let yes = (is_same_dir-Decides t.dir d).1 (sym e) in let no : true ≡ false = sym yes ∙ is in cc) ∙ h
    by_test false is false h = elsewhere d (λ e. let yes = (is_same_dir-Decides t.dir d).1 (sym e) in let no : true ≡ false = sym yes ∙ is in cc) ∙ h

-- a direction that was not there is added
pub mark_added : (ts : List Term) (p : FormalPoint) (t : Term) → IsMarkOf ts p → coefficient p t.dir ≡ pos 0
    → IsMarkOf (ts ++ t ∷ []) (p +ₚ monomial (pos 1) t.dir)
mark_added ts p t mark none =
    mark_step ts p (p +ₚ monomial (pos 1) t.dir) t mark
    (λ d is. subst (λ e. coefficient (p +ₚ monomial (pos 1) t.dir) e ≡ pos 1) (sym is)
    (let sum = coefficient-+ₚ p (monomial (pos 1) t.dir) t.dir in let one = coefficient_of_monomial (pos 1) t.dir in omega (arith, ints, sum, one, none)))
    (λ d other. let sum = coefficient-+ₚ p (monomial (pos 1) t.dir) d in let zero_here = not_there d other in omega (arith, ints, sum, zero_here))
  where
    not_there : (d : Dir) → (d ≡ t.dir → ⊥) → coefficient (monomial (pos 1) t.dir) d ≡ pos 0
    not_there d other = coefficient-monomial (pos 1) t.dir d ∙ by_test (is_same_dir d t.dir) refl
      where
        by_test : (b : Bool) → is_same_dir d t.dir ≡ b → (if b then pos 1 else pos 0) ≡ pos 0
        by_test true is = absurd (other ((is_same_dir-Decides d t.dir).0 is))
        by_test false is = refl

-- one that was there stays
pub mark_kept : (ts : List Term) (p : FormalPoint) (t : Term) → IsMarkOf ts p → coefficient p t.dir ≢ pos 0 → IsMarkOf (ts ++ t ∷ []) p
mark_kept ts p t mark some =
    mark_step ts p p t mark (λ d is. subst (λ e. coefficient p e ≡ pos 1) (sym is) (by_test (has_dir ts t.dir) (mark t.dir))) (λ d other. refl)
  where
    by_test : (b : Bool) → coefficient p t.dir ≡ (if b then pos 1 else pos 0) → coefficient p t.dir ≡ pos 1
    by_test true h = h
    by_test false h = absurd (some h)

-- the directions of the first i terms are taken in
abbrev pub Taken : List Term → ℕ → FormalPoint → FormalPoint → Type 0
Taken ts i start p =
    ((known : List Term) → IsMarkOf known start → IsMarkOf (known ++ take i ts) p) × (IsWithin 130 p) × (weight p ≤ weight start + i)

module _ (ts : List Term) (i : ℕ) (e : Term) (start p q : FormalPoint) (below : i < length ts) (h : Taken ts i start p) where
  next_terms : (known : List Term) → known ++ take (i + 1) ts ≡ (known ++ take i ts) ++ get_or ts i e ∷ []
  next_terms known = ap (λ us. known ++ us) (take_more ts i e below) ∙ sym (append_assoc known (take i ts) (get_or ts i e ∷ []))

  pub taken_added : IsNear 130 (get_or ts i e).dir → coefficient p (get_or ts i e).dir ≡ pos 0 → q ≡ p +ₚ monomial (pos 1) (get_or ts i e).dir
      → Taken ts (i + 1) start q
  taken_added near none is =
      let t = get_or ts i e in
      let one = weight-monomial (pos 1) t.dir in
      let sum = weight-+ₚ p (monomial (pos 1) t.dir) in
      let light = h.2 in
      subst (Taken ts (i + 1) start) (sym is) (
        (λ known mark. subst (λ us. IsMarkOf us (p +ₚ monomial (pos 1) t.dir)) (sym (next_terms known)) (mark_added (known ++ take i ts) p t
            (h.0 known mark) none)),
        IsWithin-+ₚ 130 p (monomial (pos 1) t.dir) h.1 (IsWithin-monomial 130 (pos 1) t.dir near),
        omega (arith, one, sum, light),
      )

  pub taken_kept : coefficient p (get_or ts i e).dir ≢ pos 0 → q ≡ p → Taken ts (i + 1) start q
  taken_kept some is =
      let light = h.2 in
      subst (Taken ts (i + 1) start) (sym is) (
        (λ known mark. subst (λ us. IsMarkOf us p) (sym (next_terms known)) (mark_kept (known ++ take i ts) p (get_or ts i e) (h.0 known mark) some)),
        h.1,
        omega (arith, light),
      )

-- the condition of `add_dir`
pub room_for_one : (p : FormalPoint) (d : Dir) → IsWithin 130 p → weight p < greatest_weight → IsNear 130 d → IsWithinLimits (p +ₚ monomial (pos 1) d)
room_for_one p d within light near =
    limits_added p (pos 1) d (record { near = IsWithin-weaker 130 greatest_exponent p (omega arith) within; light = omega (arith, light) })
    (record { m = omega (arith, near.m); n = omega (arith, near.n) }) (omega (arith, light))

-- ---- how many terms a height has
terms_count : (ts : List Term) → T (is_canonical ts) → length ts ≤ terms_weight ts
terms_count [] h = omega arith
terms_count (t ∷ ts) h =
    let parts = canonical_parts t ts h in
    let more = terms_count ts parts.rest in
    let some : 1 ≤ unsigned_abs t.c = not_nothing t.c (is_not_zero t.c parts.not_zero) in
    omega (arith, more, some, terms_weight-cons t ts)
  where
    not_nothing : (c : ℤ) → (c ≡ pos 0 → ⊥) → 1 ≤ unsigned_abs c
    not_nothing c h = omega (arith, ints, h)

pub count_of_terms : (p : FormalPoint) → length (terms p) ≤ weight p
count_of_terms p = terms_count (terms p) (terms_canonical p)

-- ---- the terms of the heights

pub no_marks : (p : FormalPoint) → p ≡ zero_point → (IsMarkOf [] p) × (IsWithin 130 p) × (weight p ≤ 0)
no_marks p is = subst (λ p. (IsMarkOf [] p) × (IsWithin 130 p) × (weight p ≤ 0)) (sym is) (none_at, IsWithin-zero_point 130, omega (arith, weight-zero_point))
  where
    none_at : IsMarkOf [] zero_point
    none_at d = coefficient-monomial (pos 0) zero_dir d ∙ either (is_same_dir d zero_dir)
      where
        either : (b : Bool) → (if b then pos 0 else pos 0) ≡ pos 0
        either true = refl
        either false = refl

-- what a direction of the first i edges' heights says
heights_have : (v : FormalPoint) (w : List ℕ) (i : ℕ) (d : Dir) → has_dir (height_terms v w i) d ≡ true
    → (k : ℕ) × (1 ≤ k) × (k ≤ i) × (HasDir (upper_height v w k) d ⊎ HasDir (lower_height v w k) d)
heights_have v w zero d h = let no : false ≡ true = h in absurd cc
heights_have v w (suc i) d h =
    let upper = terms (upper_height v w (suc i)) in
    let lower = terms (lower_height v w (suc i)) in
    by_tests (has_dir (height_terms v w i) d) refl (has_dir upper d) refl (has_dir lower d) refl
    (sym (has_dir-append (height_terms v w i) (upper ++ lower) d ∙ ap (λ b. has_dir (height_terms v w i) d || b) (has_dir-append upper lower d)) ∙ h)
    (heights_have v w i d)
  where
    by_tests : (a : Bool) → has_dir (height_terms v w i) d ≡ a → (b : Bool) → has_dir (terms (upper_height v w (suc i))) d ≡ b → (c : Bool)
        → has_dir (terms (lower_height v w (suc i))) d ≡ c → has_dir (height_terms v w i) d || (has_dir (terms (upper_height v w
        (suc i))) d || has_dir (terms (lower_height v w (suc i))) d) ≡ true
        → (has_dir (height_terms v w i) d ≡ true → (k : ℕ) × (1 ≤ k) × (k ≤ i) × (HasDir (upper_height v w k) d ⊎ HasDir (lower_height v w k) d))
        → (k : ℕ) × (1 ≤ k) × (k ≤ suc i) × (HasDir (upper_height v w k) d ⊎ HasDir (lower_height v w k) d)
    by_tests true p b q c r all before = let some = before p in (some.0, some.1, omega (arith, some.2), some.3)
    by_tests false p true q c r all before = (suc i, omega arith, omega arith, inl (has_dir_some (terms (upper_height v w (suc i))) d q))
    by_tests false p false q true r all before = (suc i, omega arith, omega arith, inr (has_dir_some (terms (lower_height v w (suc i))) d r))
    by_tests false p false q false r all before =
        let no : false ≡ true = sym (ap (λ b. b || (has_dir (terms (upper_height v w (suc i))) d || has_dir (terms (lower_height v w (suc i))) d)) p
        ∙ ap (λ b. b || has_dir (terms (lower_height v w (suc i))) d) q ∙ r) ∙ all in absurd cc

have_heights : (v : FormalPoint) (w : List ℕ) (i k : ℕ) (d : Dir) → 1 ≤ k → k ≤ i → HasDir (upper_height v w k) d ⊎ HasDir (lower_height v w k) d
    → has_dir (height_terms v w i) d ≡ true
have_heights v w zero k d low high h = absurd (omega (arith, low, high))
have_heights v w (suc i) k d low high h =
    let upper = terms (upper_height v w (suc i)) in
    let lower = terms (lower_height v w (suc i)) in
    has_dir-append (height_terms v w i) (upper ++ lower) d
    ∙ ap (λ b. has_dir (height_terms v w i) d || b) (has_dir-append upper lower d)
    ∙ at_place (le_cases k i high) h (have_heights v w i k d low)
  where
    le_cases : (k i : ℕ) → k ≤ suc i → (k ≤ i) ⊎ (k ≡ suc i)
    le_cases k i h = elim (cases_lt k (suc i)) [ inl lt ↦ inl (omega (arith, lt)) | inr ge ↦ inr (omega (arith, h, ge)) ]

    at_place : (k ≤ i) ⊎ (k ≡ suc i) → HasDir (upper_height v w k) d ⊎ HasDir (lower_height v w k) d
        → (k ≤ i → HasDir (upper_height v w k) d ⊎ HasDir (lower_height v w k) d → has_dir (height_terms v w i) d ≡ true)
        → has_dir (height_terms v w i) d || (has_dir (terms (upper_height v w (suc i))) d || has_dir (terms (lower_height v w (suc i))) d) ≡ true
    at_place (inl le) h before = ap (λ b. b || (has_dir (terms (upper_height v w (suc i))) d || has_dir (terms (lower_height v w (suc i))) d)) (before le h)
    at_place (inr is) (inl any) before =
        ap (λ b. has_dir (height_terms v w i) d || (b || has_dir (terms (lower_height v w (suc i))) d))
        (some_has_dir (terms (upper_height v w (suc i))) d (subst (λ j. HasDir (upper_height v w j) d) is any)) ∙ or_true (has_dir (height_terms v w i) d)
      where
        or_true : (b : Bool) → b || true ≡ true
        or_true true = refl
        or_true false = refl
    at_place (inr is) (inr any) before =
        ap (λ b. has_dir (height_terms v w i) d || (has_dir (terms (upper_height v w (suc i))) d || b))
        (some_has_dir (terms (lower_height v w (suc i))) d (subst (λ j. HasDir (lower_height v w j) d) is any))
        ∙ ap (λ b. has_dir (height_terms v w i) d || b) (or_true (has_dir (terms (upper_height v w (suc i))) d)) ∙ or_true (has_dir (height_terms v w i) d)
      where
        or_true : (b : Bool) → b || true ≡ true
        or_true true = refl
        or_true false = refl

-- ---- the table

-- an entry without a number
abbrev pub blank_for : Term → SineLow
blank_for t = record { dir = t.dir; low = pos 0 }

all_before : (d : Dir) (ts : List Term) → T (is_before_all d ts) → All (λ (t : Term). dir_cmp d t.dir ≡ Less) ts
all_before d [] h = All-nil (λ (t : Term). dir_cmp d t.dir ≡ Less)
all_before d (t ∷ ts) h =
    let parts = and_parts (is_lt (dir_cmp d t.dir)) (is_before_all d ts) h in
    All-cons (λ (t : Term). dir_cmp d t.dir ≡ Less) t ts (is_less (dir_cmp d t.dir) parts.0) (all_before d ts parts.1)

blanks_rise : (ts : List Term) → T (is_canonical ts) → AllPairs (λ (e e' : SineLow). dir_cmp e.dir e'.dir ≡ Less) (map blank_for ts)
blanks_rise [] h = λ i j d lt below. absurd (omega (arith, below))
blanks_rise (t ∷ ts) h =
    let parts = canonical_parts t ts h in
    AllPairs-cons (λ (e e' : SineLow). dir_cmp e.dir e'.dir ≡ Less) (blank_for t) (map blank_for ts)
    (All-map (λ (e : SineLow). dir_cmp t.dir e.dir ≡ Less) blank_for ts (all_before t.dir ts parts.before)) (blanks_rise ts parts.rest)

all_not_zero : (ts : List Term) → T (is_canonical ts) → All (λ (t : Term). t.c ≢ pos 0) ts
all_not_zero [] h = All-nil (λ (t : Term). t.c ≢ pos 0)
all_not_zero (t ∷ ts) h =
    let parts = canonical_parts t ts h in
    All-cons (λ (t : Term). t.c ≢ pos 0) t ts (is_not_zero t.c parts.not_zero) (all_not_zero ts parts.rest)

-- each term of a point has its coefficient
coefficients_stand : (p : FormalPoint) → All (λ (t : Term). coefficient p t.dir ≢ pos 0) (terms p)
coefficients_stand p i t below none =
    let ts = terms p in
    let here = total_at_place ts (get_or ts i t).dir i t (terms_canonical p) (record {
      in_range = below;
      is_there = λ x. ap (λ (u : Term). u.dir) (get_or_default ts i x t below);
    }) in
    all_not_zero ts (terms_canonical p) i t below (sym here ∙ none)

-- a coefficient that is not 0 stands in a term
total_stands : (ts : List Term) (d : Dir) → total_at d ts ≢ pos 0 → Any (λ t. t.dir ≡ d) ts
total_stands [] d h = absurd (h refl)
total_stands (t ∷ ts) d h = by_test (is_same_dir d t.dir) refl h (total_stands ts d)
  where
    by_test : (b : Bool) → is_same_dir d t.dir ≡ b → (if b then t.c else pos 0) +ℤ total_at d ts ≢ pos 0 → (total_at d ts ≢ pos 0 → Any (λ t. t.dir ≡ d) ts)
        → Any (λ u. u.dir ≡ d) (t ∷ ts)
    by_test true is k later = (0, t, omega arith, refl, sym ((is_same_dir-Decides d t.dir).0 is))
    by_test false is k later =
        let any = later (λ none. k (omega (arith, ints, none))) in (suc any.0, any.1, omega (arith, any.2), any.3, any.4)

any_blank : (d : Dir) (ts : List Term) → Any (λ t. t.dir ≡ d) ts → Any (λ (e : SineLow). e.dir ≡ d) (map blank_for ts)
any_blank d [] any = let below = any.2 in absurd (omega (arith, below))
any_blank d (t ∷ ts) (zero, x, below, is, h) = (0, blank_for t, omega arith, refl, subst (λ (u : Term). u.dir ≡ d) (sym is) h)
any_blank d (t ∷ ts) (suc k, x, below, is, h) = let any = any_blank d ts (k, x, omega (arith, below), is, h) in (
  suc any.0,
  any.1,
  omega
      (arith, any.2),
  any.3,
  any.4,
)

-- the table of a word's directions
pub table_of_marks : (w : List ℕ) (p : FormalPoint) → HasShift w → ((v : FormalPoint) → IsShift w v → IsMarkOf (height_terms v w (length w)) p)
    → IsTableOf w (map blank_for (terms p))
table_of_marks w p shift marks = record {
  rising = blanks_rise (terms p) (terms_canonical p);
  only = All-map (λ (e : SineLow). IsDirOfHeight w e.dir) blank_for (terms p) (λ i t below. one (get_or (terms p) i t).dir (coefficients_stand p i t below));
  all = λ d h. any_blank d (terms p) (total_stands (terms p) d (λ none.
      let one = marks h.shift h.is_shift d ∙ ap (λ b. if b then pos 1 else pos 0) (have_heights h.shift w
      (length w) h.corner d h.is_corner.0 h.is_corner.1 h.has) in
      let no : pos 1 ≡ pos 0 = sym one ∙ none in
      let bad : ⊥ = omega (arith, ints, no) in bad));
}
  where
    one : (d : Dir) → coefficient p d ≢ pos 0 → IsDirOfHeight w d
    one d some = by_test (has_dir (height_terms shift.0 w (length w)) d) refl (marks shift.0 shift.1 d)
      where
        by_test : (b : Bool) → has_dir (height_terms shift.0 w (length w)) d ≡ b → coefficient p d ≡ (if b then pos 1 else pos 0) → IsDirOfHeight w d
        by_test true is h = let some = heights_have shift.0 w (length w) d is in
            record { shift = shift.0; is_shift = shift.1; corner = some.0; is_corner = (some.1, some.2); has = some.3 }
        by_test false is h = absurd (some h)

pub blanks_small : (p : FormalPoint) → IsWithin 130 p → All IsSmallEntry (map blank_for (terms p))
blanks_small p within = All-map IsSmallEntry blank_for (terms p) (λ i t below. record { near = within i t below; low = omega arith })

-- the directions of the next edge's heights
pub next_heights : (v : FormalPoint) (w : List ℕ) (i : ℕ) (p q r : FormalPoint) (uppers lowers : List Term) → uppers ≡ terms (upper_height v w (i + 1))
    → lowers ≡ terms (lower_height v w (i + 1)) → IsMarkOf (height_terms v w i) p
    → ((known : List Term) → IsMarkOf known p → IsMarkOf (known ++ uppers) q) → ((known : List Term) → IsMarkOf known q → IsMarkOf (known ++ lowers) r)
    → IsMarkOf (height_terms v w (i + 1)) r
next_heights v w i p q r uppers lowers uppers_are lowers_are mark first second =
    let place : i + 1 ≡ suc i = add-one i in
    let all : (height_terms v w i ++ uppers) ++ lowers ≡ height_terms v w (i + 1) =
    append_assoc (height_terms v w i) uppers lowers
    ∙ ap₂ (λ us ls. height_terms v w i ++ (us ++ ls)) (uppers_are ∙ ap (λ j. terms (upper_height v w j)) place) (lowers_are
    ∙ ap (λ j. terms (lower_height v w j)) place)
    ∙ ap (height_terms v w) (sym place) in
    subst (λ ts. IsMarkOf ts r) all (second (height_terms v w i ++ uppers) (first (height_terms v w i) mark))

-- the table as it is pushed
pub table_of_pushed : (w : List ℕ) (p : FormalPoint) (ts : List Term) (i : ℕ) (table : List SineLow) → HasShift w
    → ((v : FormalPoint) → IsShift w v → IsMarkOf (height_terms v w (length w)) p) → IsWithin 130 p → ts ≡ terms p → length ts ≤ i
    → table ≡ map blank_for (take i ts)
    → (IsTableOf w table) × (All IsSmallEntry table)
table_of_pushed w p ts i table shift marks within ts_are all table_is =
    let is : table ≡ map blank_for (terms p) = table_is ∙ ap (map blank_for) (take_all i ts all ∙ ts_are) in
    subst (λ (es : List SineLow). (IsTableOf w es) × (All IsSmallEntry es)) (sym is) (table_of_marks w p shift marks, blanks_small p within)
