-- Two canonical lists of terms with the same totals are the same.
use Rattle.std.proofs.Common.{◌≡◌, not, List, [], ◌∷◌, ℤ, pos, ◌+ℤ◌, if◌then◌else◌, refl, sym, subst, ◌∙◌, arith, T}
use Rattle.std.proofs.lemmas.Int.{ints}
use Rattle.std.proofs.lemmas.Cmp.{int_ranked, tied_itself}
use Rattle.std.specs.declared.cmp.Ordering.{Ordering}
use Rattle.std.specs.declared.cmp.Ordering.TheVariants.{Less, Equal, Greater}
use Rattle.std.specs.Ordering.{ordering_then, int_cmp, int_eq, is_eq, is_lt}
use Rattle.exp_sums.specs.declared.direction.Dir.{Dir}
use Rattle.exp_sums.specs.declared.terms.Term.{Term}
use Rattle.exp_sums.specs.Terms.{dir_cmp, is_same_dir, total_at, is_before_all, is_canonical}
use Rattle.exp_sums.specs.Canonical.{dir_cmp_total, dir_after, is_less, IsCanonicalCons, and_parts, canonical_parts, before_cons, before_trans}

-- a direction ties with itself
pub same_dir : (d : Dir) → dir_cmp d d ≡ Equal
same_dir = tied_itself dir_cmp_total

then_equal : (o k : Ordering) → ordering_then o k ≡ Equal → (o ≡ Equal) × (k ≡ Equal)
then_equal Less k h = absurd (subst (λ r. T (is_lt r)) h tt)
then_equal Equal k h = (refl, h)
then_equal Greater k h = absurd (subst (λ r. T (not (is_eq r))) h tt)

-- and with no other
pub dir_is : (d e : Dir) → dir_cmp d e ≡ Equal → d ≡ e
dir_is d e h =
    let ties = then_equal (int_cmp d.m e.m) (int_cmp d.n e.n) h in
    let m : d.m ≡ e.m = int_ranked d.m e.m Equal (sym ties.0) in
    let n : d.n ≡ e.n = int_ranked d.n e.n Equal (sym ties.1) in
    λ i. record { m = m i; n = n i }

-- no term stands at a direction before all of a list
pub total_before : (d : Dir) (ts : List Term) → T (is_before_all d ts) → total_at d ts ≡ pos 0
total_before d [] before = refl
total_before d (t ∷ ts) before =
    let first = and_parts (is_lt (dir_cmp d t.dir)) (is_before_all d ts) before in
    rw (is_less (dir_cmp d t.dir) first.0) (rw (total_before d ts first.1) refl)

-- the total at the first direction of a canonical list is the first coefficient
pub total_first : (t : Term) (ts : List Term) → IsCanonicalCons t ts → total_at t.dir (t ∷ ts) ≡ t.c
total_first t ts h = rw (same_dir t.dir) (rw (total_before t.dir ts h.before) (omega (arith, ints)))

pub is_not_zero : (c : ℤ) → T (not (int_eq c (pos 0))) → c ≡ pos 0 → ⊥
is_not_zero c n e = subst (λ z. T (not (int_eq z (pos 0)))) e n

-- a canonical list with a first term has a total that is not 0 where a list behind that direction has none
differs_before : (t : Term) (ts us : List Term) → IsCanonicalCons t ts → T (is_before_all t.dir us) → total_at t.dir (t ∷ ts) ≡ total_at t.dir us → ⊥
differs_before t ts us h before same = is_not_zero t.c h.not_zero (sym (total_first t ts h) ∙ same ∙ total_before t.dir us before)

-- terms in front that agree leave totals behind that agree
same_rest : (d : Dir) (t u : Term) (ts us : List Term) → t ≡ u → total_at d (t ∷ ts) ≡ total_at d (u ∷ us) → total_at d ts ≡ total_at d us
same_rest d t u ts us e same =
    let front : ℤ = if is_same_dir d u.dir then u.c else pos 0 in
    let h : front +ℤ total_at d ts ≡ front +ℤ total_at d us =
    subst (λ (v : Term). (if is_same_dir d v.dir then v.c else pos 0) +ℤ total_at d ts ≡ front +ℤ total_at d us) e same in
    omega (arith, ints, h)

-- canonical lists with the same totals are the same
pub same_totals : (ts us : List Term) → T (is_canonical ts) → T (is_canonical us) → ((d : Dir) → total_at d ts ≡ total_at d us) → ts ≡ us
same_totals [] [] h k same = refl
same_totals [] (u ∷ us) h k same = absurd (differs_before u us [] (canonical_parts u us k) tt (sym (same u.dir)))
same_totals (t ∷ ts) [] h k same = absurd (differs_before t ts [] (canonical_parts t ts h) tt (same t.dir))
same_totals (t ∷ ts) (u ∷ us) h k same =
    let p = canonical_parts t ts h in
    let q = canonical_parts u us k in
    let first : t ≡ u = same_first (dir_cmp t.dir u.dir) refl p q in
    λ i. first i ∷ same_totals ts us p.rest q.rest (λ d. same_rest d t u ts us first (same d)) i
  where
    same_first : (o : Ordering) → dir_cmp t.dir u.dir ≡ o → IsCanonicalCons t ts → IsCanonicalCons u us → t ≡ u
    same_first Less less p q = absurd (differs_before t ts (u ∷ us) p (before_cons t.dir u us less (before_trans t.dir u.dir us less q.before)) (same t.dir))
    same_first Equal equal p q =
        let dirs : t.dir ≡ u.dir = dir_is t.dir u.dir equal in
        let here : total_at u.dir (t ∷ ts) ≡ t.c = subst (λ d. total_at d (t ∷ ts) ≡ t.c) dirs (total_first t ts p) in
        let coefficients : t.c ≡ u.c = sym here ∙ same u.dir ∙ total_first u us q in
        λ i. record { dir = dirs i; c = coefficients i }
    same_first Greater greater p q =
        let less = dir_after t.dir u.dir greater in
        absurd (differs_before u us (t ∷ ts) q (before_cons u.dir t ts less (before_trans u.dir t.dir ts less p.before)) (sym (same u.dir)))
