-- What a difference of two lists of terms begins with, and how large it is.
use Rattle.std.proofs.Common.{◌≡◌, ℕ, zero, suc, ◌+◌, ◌-◌, ◌*◌, ◌^◌, ◌<◌, ◌≤◌, ◌==◌, Bool, true, false, not, List, [], ◌∷◌, map, length, length-drop}
use Rattle.std.proofs.Common.{take, drop, slice_index_or, ℤ, pos, ◌+ℤ◌, ◌-ℤ◌, neg_ℤ, if◌then◌else◌, refl, sym, ap, subst, ◌∙◌, arith, T, FitsSigned}
use Rattle.std.proofs.Common.{to_z, of_z}
use Rattle.std.specs.Prelude.{unsigned_abs}
use Rattle.std.specs.List.{All, sum_by}
use Rattle.std.specs.Int.{w64}
use mir.Val.{SFits}
use Rattle.std.proofs.lemmas.Int.{ints, to_z-of_z, fits_signed_from_abs}
use Rattle.std.proofs.lemmas.Bool.Decides.{nat_tests}
use Rattle.std.proofs.lemmas.List.{take_all}
use Rattle.std.proofs.lemmas.List.Elements.{All-head, All-tail, All-drop}
use Rattle.std.proofs.lemmas.List.Sums.{sum_by-cons, sum_by-take-drop}
use Rattle.std.specs.declared.cmp.Ordering.TheVariants.{Less, Equal, Greater}
use Rattle.std.specs.Ordering.{ordering_reverse, int_eq, is_lt}
use Rattle.exp_sums.specs.declared.direction.Dir.{Dir}
use Rattle.exp_sums.specs.declared.terms.Term.{Term}
use Rattle.exp_sums.specs.Terms.{dir_cmp, is_before_all, is_canonical, cons_term, put_term, put_terms}
use Rattle.exp_sums.specs.Canonical.{dir_cmp_total, dir_after, is_less, and_parts, canonical_parts, before_cons, before_trans, cons_has}
use Rattle.exp_sums.specs.FormalPoint.{FormalPoint, terms, point_of, term_of, term_neg, negative, ◌+ₚ◌, ◌-ₚ◌}
use Rattle.exp_sums.specs.Limits.{IsNear, IsKept, terms_weight, weight, greatest_exponent, greatest_weight}
use Rattle.exp_sums.specs.Reach.{dir_reach, terms_reach}
use Rattle.exp_sums.specs.Bend.{dir_bend, terms_bend}
use Rattle.exp_sums.specs.Differences.{difference_terms, CanSubtract}
use Rattle.exp_sums.proofs.Totals.{dir_is, is_not_zero}
use Rattle.exp_sums.proofs.Place.{dir_later}
use Rattle.exp_sums.proofs.Weights.{terms_weight-cons}
use Rattle.exp_sums.proofs.Within.{dirs-put}
use Rattle.exp_sums.proofs.Reach.{terms_reach_le}
use Rattle.exp_sums.proofs.Bend.{terms_bend_le}
use Rattle.exp_sums.proofs.Listed.{near_kept}
use Rattle.exp_sums.proofs.Kept.{terms-canonical, weight-canonical, is_canonical-put_terms, weight-put_terms, weight_negated, point_of-put_terms, point_of-neg}

-- ---- the first term
-- a term that is earlier than all that is taken away stays in front
front_stays : (t : Term) (ts us : List Term) → T (is_before_all t.dir us) → difference_terms (t ∷ ts) us ≡ t ∷ difference_terms ts us
front_stays t ts [] h = refl
front_stays t ts (u ∷ us) h =
    let both_parts = and_parts (is_lt (dir_cmp t.dir u.dir)) (is_before_all t.dir us) h in
    let later = dir_later t.dir u.dir (is_less (dir_cmp t.dir u.dir) both_parts.0) in
    let here : put_term (term_neg u) (t ∷ ts) ≡ t ∷ put_term (term_neg u) ts = rw later refl in
    ap (λ vs. difference_terms vs us) here ∙ front_stays t (put_term (term_neg u) ts) us both_parts.1

cons_stays : (t : Term) (ts us : List Term) → T (is_before_all t.dir us) → difference_terms (cons_term t ts) us ≡ cons_term t (difference_terms ts us)
cons_stays t ts us h = by_test (int_eq t.c (pos 0))
  where
    by_test : (b : Bool) → difference_terms (if b then ts else t ∷ ts) us ≡ (if b then difference_terms ts us else t ∷ difference_terms ts us)
    by_test true = refl
    by_test false = front_stays t ts us h

cons_not_zero : (t : Term) (ts : List Term) → T (not (int_eq t.c (pos 0))) → t ∷ ts ≡ cons_term t ts
cons_not_zero t ts n = cons_has (λ us. t ∷ ts ≡ us) t ts (λ _. refl) (λ zero_c. absurd (is_not_zero t.c n zero_c))

-- nothing is left of the first list
pub leads_alone : (ts us : List Term) (z : Term) → CanSubtract ts us → length ts ≡ 0 → 0 < length us →
    difference_terms ts us ≡ cons_term (term_neg (slice_index_or us 0 z)) (difference_terms (drop 0 ts) (drop 1 us))
leads_alone ts [] z h none some = absurd (omega (arith, some))
leads_alone [] (u ∷ us) z h none some = cons_stays (term_neg u) [] us (canonical_parts u us h.canonical_other).before
leads_alone (t ∷ ts) (u ∷ us) z h none some = absurd (omega (arith, none))

-- nothing is left to take away
pub leads_whole : (ts us : List Term) (z : Term) → CanSubtract ts us → 0 < length ts → length us ≡ 0 →
    difference_terms ts us ≡ cons_term (slice_index_or ts 0 z) (difference_terms (drop 1 ts) (drop 0 us))
leads_whole [] us z h some none = absurd (omega (arith, some))
leads_whole (t ∷ ts) [] z h some none = cons_not_zero t ts (canonical_parts t ts h.canonical).not_zero
leads_whole (t ∷ ts) (u ∷ us) z h some none = absurd (omega (arith, none))

-- the first list's term is earlier
pub leads_first : (ts us : List Term) (z : Term) → CanSubtract ts us → 0 < length ts → 0 < length us →
    dir_cmp (slice_index_or ts 0 z).dir (slice_index_or us 0 z).dir ≡ Less →
    difference_terms ts us ≡ cons_term (slice_index_or ts 0 z) (difference_terms (drop 1 ts) (drop 0 us))
leads_first [] us z h some some' less = absurd (omega (arith, some))
leads_first (t ∷ ts) [] z h some some' less = absurd (omega (arith, some'))
leads_first (t ∷ ts) (u ∷ us) z h some some' less =
    let other = canonical_parts u us h.canonical_other in
    front_stays t ts (u ∷ us) (before_cons t.dir u us less (before_trans t.dir u.dir us less other.before))
    ∙ cons_not_zero t (difference_terms ts (u ∷ us)) (canonical_parts t ts h.canonical).not_zero

-- the term that is taken away is earlier
pub leads_second : (ts us : List Term) (z : Term) → CanSubtract ts us → 0 < length ts → 0 < length us →
    dir_cmp (slice_index_or ts 0 z).dir (slice_index_or us 0 z).dir ≡ Greater →
    difference_terms ts us ≡ cons_term (term_neg (slice_index_or us 0 z)) (difference_terms (drop 0 ts) (drop 1 us))
leads_second [] us z h some some' greater = absurd (omega (arith, some))
leads_second (t ∷ ts) [] z h some some' greater = absurd (omega (arith, some'))
leads_second (t ∷ ts) (u ∷ us) z h some some' greater =
    let less = dir_after t.dir u.dir greater in
    let here : put_term (term_neg u) (t ∷ ts) ≡ cons_term (term_neg u) (t ∷ ts) = rw less refl in
    ap (λ vs. difference_terms vs us) here ∙ cons_stays (term_neg u) (t ∷ ts) us (canonical_parts u us h.canonical_other).before

-- both stand at one direction
pub leads_both : (ts us : List Term) (z : Term) (c : ℤ) → CanSubtract ts us → 0 < length ts → 0 < length us →
    dir_cmp (slice_index_or ts 0 z).dir (slice_index_or us 0 z).dir ≡ Equal → c ≡ (slice_index_or ts 0 z).c -ℤ (slice_index_or us 0 z).c →
    difference_terms ts us ≡ cons_term (term_of c (slice_index_or ts 0 z).dir) (difference_terms (drop 1 ts) (drop 1 us))
leads_both [] us z c h some some' equal is = absurd (omega (arith, some))
leads_both (t ∷ ts) [] z c h some some' equal is = absurd (omega (arith, some'))
leads_both (t ∷ ts) (u ∷ us) z c h some some' equal is =
    let back = dir_cmp_total.antisymm u.dir t.dir ∙ ap ordering_reverse equal in
    let sum : Term = term_of (neg_ℤ u.c +ℤ t.c) t.dir in
    let here : put_term (term_neg u) (t ∷ ts) ≡ cons_term sum ts = rw back refl in
    let before = subst (λ d. T (is_before_all d us)) (sym (dir_is t.dir u.dir equal)) (canonical_parts u us h.canonical_other).before in
    let same : neg_ℤ u.c +ℤ t.c ≡ c = omega (arith, ints, is) in
    ap (λ vs. difference_terms vs us) here
    ∙ cons_stays sum ts us before
    ∙ ap (λ c. cons_term (term_of c t.dir) (difference_terms ts us)) same

-- what an equal first term leads to, with equal rests
pub leads_along : (ts us : List Term) (t t' : Term) (a a' b b' : ℕ) → t' ≡ t → a' ≡ a → b' ≡ b →
    difference_terms ts us ≡ cons_term t (difference_terms (drop a ts) (drop b us)) →
    difference_terms ts us ≡ cons_term t' (difference_terms (drop a' ts) (drop b' us))
leads_along ts us t t' a a' b b' is is_a is_b h = h ∙ sym (λ i. cons_term (is i) (difference_terms (drop (is_a i) ts) (drop (is_b i) us)))

-- ---- coefficients fit
head_light : (ts : List Term) (z : Term) → 0 < length ts → unsigned_abs (slice_index_or ts 0 z).c ≤ terms_weight ts
head_light [] z some = absurd (omega (arith, some))
head_light (t ∷ ts) z some = omega (arith, terms_weight-cons t ts)

pub heads_light : (ts us : List Term) (y z : Term) → CanSubtract ts us → 0 < length ts → 0 < length us →
    unsigned_abs (slice_index_or ts 0 y).c + unsigned_abs (slice_index_or us 0 z).c ≤ greatest_weight
heads_light ts us y z h some some' = omega (arith, head_light ts y some, head_light us z some', h.light)

module _ (a b : ℤ) (small : unsigned_abs a + unsigned_abs b ≤ greatest_weight) where
  difference_read : to_z w64 (of_z w64 a) -ℤ to_z w64 (of_z w64 b) ≡ a -ℤ b
  difference_read =
      let fits : SFits w64 a = fits_signed_from_abs w64 a (omega (arith, small)) in
      let fits' : SFits w64 b = fits_signed_from_abs w64 b (omega (arith, small)) in
      λ i. to_z-of_z w64 a fits i -ℤ to_z-of_z w64 b fits' i

  plain_fits : FitsSigned w64 (a -ℤ b)
  plain_fits = fits_signed_from_abs w64 (a -ℤ b) (omega (arith, ints, small))

  pub difference_fits : FitsSigned w64 (to_z w64 (of_z w64 a) -ℤ to_z w64 (of_z w64 b))
  difference_fits = subst (FitsSigned w64) (sym difference_read) plain_fits

  pub difference_kept : to_z w64 (of_z w64 (to_z w64 (of_z w64 a) -ℤ to_z w64 (of_z w64 b))) ≡ a -ℤ b
  difference_kept = ap (λ z. to_z w64 (of_z w64 z)) difference_read ∙ to_z-of_z w64 (a -ℤ b) plain_fits

-- ---- what is left of two lists
is_canonical-drop : (n : ℕ) (ts : List Term) → T (is_canonical ts) → T (is_canonical (drop n ts))
is_canonical-drop zero ts h = h
is_canonical-drop (suc n) [] h = h
is_canonical-drop (suc n) (t ∷ ts) h = is_canonical-drop n ts (canonical_parts t ts h).rest

weight-drop : (n : ℕ) (ts : List Term) → terms_weight (drop n ts) ≤ terms_weight ts
weight-drop n ts = omega (arith, sum_by-take-drop (λ (t : Term). unsigned_abs t.c) ts n)

pub CanSubtract-drop : (ts us : List Term) (a b : ℕ) → CanSubtract ts us → CanSubtract (drop a ts) (drop b us)
CanSubtract-drop ts us a b h = record {
  canonical = is_canonical-drop a ts h.canonical;
  canonical_other = is_canonical-drop b us h.canonical_other;
  near = All-drop (λ (t : Term). IsNear greatest_exponent t.dir) a ts h.near;
  near_other = All-drop (λ (t : Term). IsNear greatest_exponent t.dir) b us h.near_other;
  light = omega (arith, h.light, weight-drop a ts, weight-drop b us);
}

-- ---- sizes
-- a term that may be left out counts nothing where it is
counts_cons : (f : Term → ℕ) → ((t : Term) → t.c ≡ pos 0 → f t ≡ 0) → (t : Term) (ts : List Term) → sum_by f (cons_term t ts) ≡ f t + sum_by f ts
counts_cons f none t ts = cons_has (λ us. sum_by f us ≡ f t + sum_by f ts) t ts (λ _. sum_by-cons f t ts) (λ zero_c. omega (arith, none t zero_c))

pub terms_weight-cons_term : (t : Term) (ts : List Term) → terms_weight (cons_term t ts) ≡ unsigned_abs t.c + terms_weight ts
terms_weight-cons_term = counts_cons (λ t. unsigned_abs t.c) (λ t zero_c. ap unsigned_abs zero_c)

pub terms_reach-cons_term : (t : Term) (ts : List Term) → terms_reach (cons_term t ts) ≡ unsigned_abs t.c * dir_reach t.dir + terms_reach ts
terms_reach-cons_term = counts_cons (λ t. unsigned_abs t.c * dir_reach t.dir) (λ t zero_c. rw zero_c (omega arith))

pub terms_bend-cons_term : (t : Term) (ts : List Term) → terms_bend (cons_term t ts) ≡ unsigned_abs t.c * dir_bend t.dir + terms_bend ts
terms_bend-cons_term = counts_cons (λ t. unsigned_abs t.c * dir_bend t.dir) (λ t zero_c. rw zero_c (omega arith))

-- ---- the whole difference
near_difference : (ts us : List Term) → All (λ (t : Term). IsNear greatest_exponent t.dir) ts → All (λ (t : Term). IsNear greatest_exponent t.dir) us →
    All (λ (t : Term). IsNear greatest_exponent t.dir) (difference_terms ts us)
near_difference ts [] h k = h
near_difference ts (u ∷ us) h k =
    near_difference (put_term (term_neg u) ts) us
    (dirs-put (IsNear greatest_exponent) (term_neg u) ts (All-head (λ (t : Term). IsNear greatest_exponent t.dir) u us k) h)
    (All-tail (λ (t : Term). IsNear greatest_exponent t.dir) u us k)

pub difference_near : (ts us : List Term) → CanSubtract ts us → All (λ (t : Term). IsNear greatest_exponent t.dir) (difference_terms ts us)
difference_near ts us h = near_difference ts us h.near h.near_other

pub difference_light : (ts us : List Term) → CanSubtract ts us → terms_weight (difference_terms ts us) ≤ greatest_weight
difference_light ts us h = omega (arith, weight-put_terms (map term_neg us) ts, weight_negated us, h.light)

-- it is the terms of the difference of the points
pub terms_difference : (ts us : List Term) → T (is_canonical ts) → terms (point_of ts -ₚ point_of us) ≡ difference_terms ts us
terms_difference ts us h =
    ap terms (ap (λ q. point_of ts +ₚ q) (sym (point_of-neg us)) ∙ sym (point_of-put_terms (map term_neg us) ts))
    ∙ terms-canonical (difference_terms ts us) (is_canonical-put_terms (map term_neg us) ts h)

-- nothing is left of either list
pub none_left : (ts us : List Term) → length ts ≡ 0 → length us ≡ 0 → difference_terms ts us ≡ []
none_left [] [] h k = refl
none_left [] (u ∷ us) h k = absurd (omega (arith, k))
none_left (t ∷ ts) us h k = absurd (omega (arith, h))

-- ---- the next step of the walk along two lists, whose rests are what slices of them hold
-- what a slice from a place on holds
rest_is : (n : ℕ) (ts : List Term) → take (length ts - n) (drop n ts) ≡ drop n ts
rest_is n ts = take_all (length ts - n) (drop n ts) (omega (arith, length-drop n ts))

abbrev pub rest_from : ℕ → List Term → List Term
rest_from n ts = take (length ts - n) (drop n ts)

pub CanSubtract-rests : (ts us : List Term) (a b : ℕ) → CanSubtract ts us → CanSubtract (rest_from a ts) (rest_from b us)
CanSubtract-rests ts us a b h = subst (λ vs. CanSubtract vs (rest_from b us)) (sym (rest_is a ts))
    (subst (CanSubtract (drop a ts)) (sym (rest_is b us)) (CanSubtract-drop ts us a b h))

module _ (ts us : List Term) (t : Term) (a b : ℕ) (leads : difference_terms ts us ≡ cons_term t (difference_terms (drop a ts) (drop b us))) where
  -- a size that one term adds to
  next_size : (f : List Term → ℕ) (g : Term → ℕ) → ((t : Term) (ts : List Term) → f (cons_term t ts) ≡ g t + f ts) →
      (done more all : ℕ) → more ≡ g t → done + f (difference_terms ts us) ≡ all →
      done + more + f (difference_terms (rest_from a ts) (rest_from b us)) ≡ all
  next_size f g counts done more all is_more is_all =
      let rests : f (difference_terms (rest_from a ts) (rest_from b us)) ≡ f (difference_terms (drop a ts) (drop b us)) =
      λ i. f (difference_terms (rest_is a ts i) (rest_is b us i)) in
      let step : f (difference_terms ts us) ≡ g t + f (difference_terms (drop a ts) (drop b us)) =
      ap f leads ∙ counts t (difference_terms (drop a ts) (drop b us)) in
      omega (arith, rests, step, is_more, is_all)

  pub next_weight : (done more all : ℕ) → more ≡ unsigned_abs t.c → done + terms_weight (difference_terms ts us) ≡ all →
      done + more + terms_weight (difference_terms (rest_from a ts) (rest_from b us)) ≡ all
  next_weight = next_size terms_weight (λ t. unsigned_abs t.c) terms_weight-cons_term

  pub next_reach : (done more all : ℕ) → more ≡ unsigned_abs t.c * dir_reach t.dir → done + terms_reach (difference_terms ts us) ≡ all →
      done + more + terms_reach (difference_terms (rest_from a ts) (rest_from b us)) ≡ all
  next_reach = next_size terms_reach (λ t. unsigned_abs t.c * dir_reach t.dir) terms_reach-cons_term

  pub next_bend : (done more all : ℕ) → more ≡ unsigned_abs t.c * dir_bend t.dir → done + terms_bend (difference_terms ts us) ≡ all →
      done + more + terms_bend (difference_terms (rest_from a ts) (rest_from b us)) ≡ all
  next_bend = next_size terms_bend (λ t. unsigned_abs t.c * dir_bend t.dir) terms_bend-cons_term

  -- no coefficient is larger than the whole weight
  pub first_light : CanSubtract ts us → unsigned_abs t.c ≤ greatest_weight
  first_light h =
      let step = ap terms_weight leads ∙ terms_weight-cons_term t (difference_terms (drop a ts) (drop b us)) in
      omega (arith, step, difference_light ts us h)

-- how large a difference is at most
pub difference_reach : (ts us : List Term) → CanSubtract ts us → terms_reach (difference_terms ts us) ≤ 2 ^ 44
difference_reach ts us h = omega (arith, terms_reach_le greatest_exponent (difference_terms ts us) (difference_near ts us h), difference_light ts us h)

pub difference_bend : (ts us : List Term) → CanSubtract ts us → terms_bend (difference_terms ts us) ≤ 2 ^ 56
difference_bend ts us h = omega (arith, terms_bend_le greatest_exponent (difference_terms ts us) (difference_near ts us h), difference_light ts us h)

-- what two sums keep
pub kept_lists : (ts us : List Term) → IsKept ts → IsKept us → weight (point_of ts) + weight (point_of us) ≤ greatest_weight → CanSubtract ts us
kept_lists ts us h k light = record {
  canonical = h.canonical;
  canonical_other = k.canonical;
  near = near_kept ts h;
  near_other = near_kept us k;
  light = omega (arith, light, weight-canonical ts h.canonical, weight-canonical us k.canonical);
}

-- what a test for an empty list tells
pub empty_is : (n : ℕ) (b : Bool) → b ≡ (n == 0) → b ≡ true → n ≡ 0
empty_is n b is holds = grind (arith, nat_tests)

pub not_empty_is : (n : ℕ) (b : Bool) → b ≡ (n == 0) → b ≡ false → 0 < n
not_empty_is n b is fails = grind (arith, nat_tests)
