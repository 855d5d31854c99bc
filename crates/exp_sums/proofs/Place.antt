-- What a search finds among sorted terms, and what an edit at that place makes of them.
use Rattle.std.proofs.Common.{◌≡◌, ◌≢◌, ℕ, zero, suc, ◌<◌, ◌≤◌, List, [], ◌∷◌, ◌++◌, length, take, drop, get_or, set, pos, ◌+ℤ◌, refl, sym, ap, subst, ◌∙◌}
use Rattle.std.proofs.Common.{T, arith, Result, Ok, Err, IfOk, IfErr, ◌⊎◌, inl, inr}
use Rattle.std.specs.List.{insert, remove}
use Rattle.std.specs.List.Sorted.{IsSearchInRange, IsBinarySearchResult, IsNonDecreasingBy}
use Rattle.std.proofs.lemmas.Int.{ints}
use Rattle.std.proofs.lemmas.Bool.{cases_lt}
use Rattle.std.proofs.lemmas.List.{take-append-drop}
use Rattle.std.specs.declared.cmp.Ordering.{Ordering}
use Rattle.std.specs.declared.cmp.Ordering.TheVariants.{Less, Equal, Greater}
use Rattle.std.specs.Ordering.{ordering_index, ordering_reverse, is_lt}
use Rattle.exp_sums.specs.declared.direction.Dir.{Dir}
use Rattle.exp_sums.specs.declared.terms.Term.{Term}
use Rattle.exp_sums.specs.Terms.{dir_cmp, total_at, is_before_all, is_canonical, cons_term, put_term}
use Rattle.exp_sums.specs.Canonical.{dir_cmp_total, dir_after, is_less, and_parts, canonical_parts, cons_has}
use Rattle.exp_sums.proofs.Totals.{dir_is, same_dir, is_not_zero, total_first}
use Rattle.exp_sums.specs.FormalPoint.{term_of}
use Rattle.exp_sums.specs.Place.{IsPlaceOf, IsGapFor}

-- ---- the order of canonical terms
pub dir_later : (d e : Dir) → dir_cmp d e ≡ Less → dir_cmp e d ≡ Greater
dir_later d e h = dir_cmp_total.antisymm e d ∙ ap ordering_reverse h

before_at : (d : Dir) (ts : List Term) (i : ℕ) (x : Term) → T (is_before_all d ts) → i < length ts → dir_cmp d (get_or ts i x).dir ≡ Less
before_at d [] i x h lt = absurd (omega (arith, lt))
before_at d (t ∷ ts) zero x h lt = is_less (dir_cmp d t.dir) (and_parts (is_lt (dir_cmp d t.dir)) (is_before_all d ts) h).0
before_at d (t ∷ ts) (suc i) x h lt = before_at d ts i x (and_parts (is_lt (dir_cmp d t.dir)) (is_before_all d ts) h).1 (omega (arith, lt))

-- an earlier term has an earlier direction
rises : (ts : List Term) (i j : ℕ) (x : Term) → T (is_canonical ts) → i < j → j < length ts → dir_cmp (get_or ts i x).dir (get_or ts j x).dir ≡ Less
rises [] i j x h lt in_range = absurd (omega (arith, in_range))
rises (t ∷ ts) i zero x h lt in_range = absurd (omega (arith, lt))
rises (t ∷ ts) zero (suc j) x h lt in_range = before_at t.dir ts j x (canonical_parts t ts h).before (omega (arith, in_range))
rises (t ∷ ts) (suc i) (suc j) x h lt in_range = rises ts i j x (canonical_parts t ts h).rest (omega (arith, lt)) (omega (arith, in_range))

-- so the comparisons with a direction rise along the terms, as a binary search asks
index_rises : (a b d : Dir) → dir_cmp a b ≡ Less → ordering_index (dir_cmp a d) ≤ ordering_index (dir_cmp b d)
index_rises a b d less = at_order (dir_cmp b d) refl
  where
    at_order : (o : Ordering) → dir_cmp b d ≡ o → ordering_index (dir_cmp a d) ≤ ordering_index o
    at_order Less h = rw (dir_cmp_total.trans a b d less h) (omega arith)
    at_order Equal h = rw (subst (λ e. dir_cmp a e ≡ Less) (dir_is b d h) less) (omega arith)
    at_order Greater h = at_most_two (dir_cmp a d)
      where
        at_most_two : (o : Ordering) → ordering_index o ≤ 2
        at_most_two Less = omega arith
        at_most_two Equal = omega arith
        at_most_two Greater = omega arith

comparisons_rise : (ts : List Term) (d : Dir) → T (is_canonical ts) → IsNonDecreasingBy (λ (t : Term). ordering_index (dir_cmp t.dir d)) ts
comparisons_rise ts d h i j x le in_range = at_places (cases_lt i j)
  where
    at_places : (i < j) ⊎ (j ≤ i) → ordering_index (dir_cmp (get_or ts i x).dir d) ≤ ordering_index (dir_cmp (get_or ts j x).dir d)
    at_places (inl lt) = index_rises (get_or ts i x).dir (get_or ts j x).dir d (rises ts i j x h lt in_range)
    at_places (inr ge) =
        let same : i ≡ j = omega arith in
        rw same (omega arith)

-- a binary search by direction ends at the direction, or at the gap for it
pub searched : (ts : List Term) (d : Dir) (r : Result ℕ ℕ) → T (is_canonical ts) → IsSearchInRange r (length ts) →
    IsBinarySearchResult (λ (t : Term). dir_cmp t.dir d) ts r → record { found : IfOk r (IsPlaceOf ts d); absent : IfErr r (IsGapFor ts d) }
searched ts d (Ok i) h in_range equal = record { found = record { in_range = in_range; is_there = λ x. dir_is (get_or ts i x).dir d (equal x) }; absent = tt }
searched ts d (Err i) h in_range parted = record {
  found = tt;
  absent = record {
    in_range = in_range;
    earlier_before = λ j x lt. (parted (comparisons_rise ts d h)).0 j x (omega arith) lt;
    later_from = λ j x le lt. (parted (comparisons_rise ts d h)).1 j x le lt;
  };
}

-- ---- the rest of a list, one place lower
place_in_rest : (d : Dir) (t : Term) (ts : List Term) (i : ℕ) → IsPlaceOf (t ∷ ts) d (suc i) → IsPlaceOf ts d i
place_in_rest d t ts i h = record { in_range = omega (arith, h.in_range); is_there = h.is_there }

gap_in_rest : (d : Dir) (t : Term) (ts : List Term) (i : ℕ) → IsGapFor (t ∷ ts) d (suc i) → IsGapFor ts d i
gap_in_rest d t ts i h = record {
  in_range = omega (arith, h.in_range);
  earlier_before = λ j x lt. h.earlier_before (suc j) x (omega (arith, lt));
  later_from = λ j x le lt. h.later_from (suc j) x (omega (arith, le)) (omega (arith, lt));
}

-- the first term comes before a place further on
place_is_later : (d : Dir) (t : Term) (ts : List Term) (i : ℕ) → T (is_canonical (t ∷ ts)) → IsPlaceOf (t ∷ ts) d (suc i) → dir_cmp d t.dir ≡ Greater
place_is_later d t ts i h place =
    dir_later t.dir d
    (subst (λ e. dir_cmp t.dir e ≡ Less) (place.is_there t) (before_at t.dir ts i t (canonical_parts t ts h).before (omega (arith, place.in_range))))

gap_is_later : (d : Dir) (t : Term) (ts : List Term) (i : ℕ) → IsGapFor (t ∷ ts) d (suc i) → dir_cmp d t.dir ≡ Greater
gap_is_later d t ts i gap = dir_later t.dir d (gap.earlier_before 0 t (omega arith))

-- ---- the coefficient at a place, and in a gap
pub total_at_place : (ts : List Term) (d : Dir) (i : ℕ) (x : Term) → T (is_canonical ts) → IsPlaceOf ts d i → total_at d ts ≡ (get_or ts i x).c
total_at_place [] d i x h place = absurd (omega (arith, place.in_range))
total_at_place (t ∷ ts) d zero x h place = subst (λ e. total_at e (t ∷ ts) ≡ t.c) (place.is_there x) (total_first t ts (canonical_parts t ts h))
total_at_place (t ∷ ts) d (suc i) x h place = rw (place_is_later d t ts i h place)
    (omega (arith, ints, total_at_place ts d i x (canonical_parts t ts h).rest (place_in_rest d t ts i place)))

gap_of_rest : (d : Dir) (t : Term) (ts : List Term) → IsGapFor (t ∷ ts) d 0 → IsGapFor ts d 0
gap_of_rest d t ts h =
    record {
      in_range = omega arith;
      earlier_before = λ j x lt. absurd (omega (arith, lt));
      later_from =
          λ j x le lt. h.later_from (suc j) x (omega arith) (omega (arith, lt));
    }

gap_is_earlier : (d : Dir) (t : Term) (ts : List Term) → IsGapFor (t ∷ ts) d 0 → dir_cmp d t.dir ≡ Less
gap_is_earlier d t ts gap = dir_after t.dir d (gap.later_from 0 t (omega arith) (omega arith))

pub total_in_gap : (ts : List Term) (d : Dir) (i : ℕ) → IsGapFor ts d i → total_at d ts ≡ pos 0
total_in_gap [] d i gap = refl
total_in_gap (t ∷ ts) d zero gap = rw (gap_is_earlier d t ts gap) (omega (arith, ints, total_in_gap ts d 0 (gap_of_rest d t ts gap)))
total_in_gap (t ∷ ts) d (suc i) gap = rw (gap_is_later d t ts i gap) (omega (arith, ints, total_in_gap ts d i (gap_in_rest d t ts i gap)))

-- ---- one more term
-- the sum of a term and the one at place i
abbrev pub sum_at : Term → List Term → ℕ → Term → Term
sum_at t ts i x = let u = get_or ts i x in term_of (t.c +ℤ u.c) u.dir

pub put_at_place : (t : Term) (ts : List Term) (i : ℕ) (x : Term) → T (is_canonical ts) → IsPlaceOf ts t.dir i →
    put_term t ts ≡ take i ts ++ cons_term (sum_at t ts i x) (drop (suc i) ts)
put_at_place t [] i x h place = absurd (omega (arith, place.in_range))
put_at_place t (u ∷ us) zero x h place =
    let equal : dir_cmp t.dir u.dir ≡ Equal = subst (λ d. dir_cmp d u.dir ≡ Equal) (place.is_there t) (same_dir u.dir) in
    rw equal refl
put_at_place t (u ∷ us) (suc i) x h place = rw (place_is_later t.dir u us i h place)
    (ap (λ vs. u ∷ vs) (put_at_place t us i x (canonical_parts u us h).rest (place_in_rest t.dir u us i place)))

pub put_in_gap : (t : Term) (ts : List Term) (i : ℕ) → IsGapFor ts t.dir i → put_term t ts ≡ take i ts ++ cons_term t (drop i ts)
put_in_gap t [] zero gap = refl
put_in_gap t [] (suc i) gap = refl
put_in_gap t (u ∷ us) zero gap = rw (gap_is_earlier t.dir u us gap) refl
put_in_gap t (u ∷ us) (suc i) gap = rw (gap_is_later t.dir u us i gap) (ap (λ vs. u ∷ vs) (put_in_gap t us i (gap_in_rest t.dir u us i gap)))

cons_zero : (t : Term) (ts : List Term) → t.c ≡ pos 0 → cons_term t ts ≡ ts
cons_zero t ts zero_c = cons_has (λ us. us ≡ ts) t ts (λ n. absurd (is_not_zero t.c n zero_c)) (λ _. refl)

cons_other : (t : Term) (ts : List Term) → t.c ≢ pos 0 → cons_term t ts ≡ t ∷ ts
cons_other t ts other = cons_has (λ us. us ≡ t ∷ ts) t ts (λ _. refl) (λ zero_c. absurd (other zero_c))

set_parts : (ts : List Term) (i : ℕ) (u : Term) → i < length ts → set ts i u ≡ take i ts ++ u ∷ drop (suc i) ts
set_parts [] i u lt = absurd (omega (arith, lt))
set_parts (t ∷ ts) zero u lt = refl
set_parts (t ∷ ts) (suc i) u lt = ap (λ vs. t ∷ vs) (set_parts ts i u (omega (arith, lt)))

module _ (t : Term) (ts : List Term) (i : ℕ) (x : Term) (h : T (is_canonical ts)) (place : IsPlaceOf ts t.dir i) where
  -- terms that cancel go
  pub put_cancels : (sum_at t ts i x).c ≡ pos 0 → put_term t ts ≡ remove ts i
  put_cancels zero_c = put_at_place t ts i x h place ∙ ap (λ us. take i ts ++ us) (cons_zero (sum_at t ts i x) (drop (suc i) ts) zero_c)

  -- others are one term
  pub put_joins : (sum_at t ts i x).c ≢ pos 0 → put_term t ts ≡ set ts i (sum_at t ts i x)
  put_joins other = put_at_place t ts i x h place ∙ ap (λ us. take i ts ++ us) (cons_other (sum_at t ts i x) (drop (suc i) ts) other)
      ∙ sym (set_parts ts i (sum_at t ts i x) place.in_range)

module _ (t : Term) (ts : List Term) (i : ℕ) (gap : IsGapFor ts t.dir i) where
  pub put_adds : t.c ≢ pos 0 → put_term t ts ≡ insert ts i t
  put_adds other = put_in_gap t ts i gap ∙ ap (λ us. take i ts ++ us) (cons_other t (drop i ts) other)

  pub put_leaves : t.c ≡ pos 0 → put_term t ts ≡ ts
  put_leaves zero_c = put_in_gap t ts i gap ∙ ap (λ us. take i ts ++ us) (cons_zero t (drop i ts) zero_c) ∙ take-append-drop i ts
