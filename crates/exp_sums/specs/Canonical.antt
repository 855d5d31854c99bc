-- The canonical form of each list is canonical.
use Rattle.std.proofs.Common.{◌≡◌, Bool, true, false, not, ◌&&◌, List, [], ◌∷◌, pos, ◌+ℤ◌, if◌then◌else◌, refl, sym, ap, subst, ◌∙◌, T}
use Rattle.std.proofs.lemmas.Bool.Decides.{Decides-int_eq}
use Rattle.std.proofs.lemmas.Cmp.{then_total, on_total, int_cmp_total}
use Rattle.std.specs.Cmp.{IsTotalOrder}
use Rattle.std.specs.declared.cmp.Ordering.{Ordering}
use Rattle.std.specs.declared.cmp.Ordering.TheVariants.{Less, Equal, Greater}
use Rattle.std.specs.Ordering.{ordering_reverse, int_eq, is_lt, match_ordering}
use Rattle.exp_sums.specs.declared.direction.Dir.{Dir}
use Rattle.exp_sums.specs.declared.terms.Term.{Term}
use Rattle.exp_sums.specs.Terms.{dir_cmp, is_before_all, is_canonical, cons_term, put_term, normal}

-- ---- the order of directions
pub dir_cmp_total : IsTotalOrder dir_cmp
dir_cmp_total = then_total (on_total (λ (d : Dir). d.m) int_cmp_total) (on_total (λ (d : Dir). d.n) int_cmp_total)

-- and the other way round
pub dir_after : (d e : Dir) → dir_cmp d e ≡ Greater → dir_cmp e d ≡ Less
dir_after d e h = dir_cmp_total.antisymm e d ∙ ap ordering_reverse h

pub is_less : (o : Ordering) → T (is_lt o) → o ≡ Less
is_less Less h = refl
is_less Equal h = absurd h
is_less Greater h = absurd h

-- ---- the parts of a canonical list with a first term
pub record IsCanonicalCons (t : Term) (ts : List Term) : Type 0 where
  pub not_zero : T (not (int_eq t.c (pos 0)))
  pub before : T (is_before_all t.dir ts)
  pub rest : T (is_canonical ts)

pub and_parts : (a b : Bool) → T (a && b) → T a × T b
and_parts true b h = (tt, h)
and_parts false b h = absurd h

pub and_from : (a b : Bool) → T a → T b → T (a && b)
and_from true b h k = k
and_from false b h k = absurd h

pub canonical_parts : (t : Term) (ts : List Term) → T (is_canonical (t ∷ ts)) → IsCanonicalCons t ts
canonical_parts t ts h =
    let outer = and_parts (not (int_eq t.c (pos 0))) (is_before_all t.dir ts && is_canonical ts) h in
    let inner = and_parts (is_before_all t.dir ts) (is_canonical ts) outer.1 in
    record { not_zero = outer.0; before = inner.0; rest = inner.1 }

pub canonical_whole : (t : Term) (ts : List Term) → IsCanonicalCons t ts → T (is_canonical (t ∷ ts))
canonical_whole t ts h =
    and_from (not (int_eq t.c (pos 0))) (is_before_all t.dir ts && is_canonical ts) h.not_zero
    (and_from (is_before_all t.dir ts) (is_canonical ts) h.before h.rest)

-- ---- one more term
-- what comes before all of a list, comes before it with a term in front
pub before_cons : (d : Dir) (t : Term) (ts : List Term) → dir_cmp d t.dir ≡ Less → T (is_before_all d ts) → T (is_before_all d (t ∷ ts))
before_cons d t ts less before = and_from (is_lt (dir_cmp d t.dir)) (is_before_all d ts) (subst (λ o. T (is_lt o)) (sym less) tt) before

-- a direction before one that comes before all of a list
pub before_trans : (d e : Dir) (ts : List Term) → dir_cmp d e ≡ Less → T (is_before_all e ts) → T (is_before_all d ts)
before_trans d e [] less before = tt
before_trans d e (t ∷ ts) less before =
    let both_parts = and_parts (is_lt (dir_cmp e t.dir)) (is_before_all e ts) before in
    before_cons d t ts (dir_cmp_total.trans d e t.dir less (is_less _ both_parts.0)) (before_trans d e ts less both_parts.1)

-- a property of a list with a term in front, or without it
pub cons_has : (P : List Term → Type 0) (t : Term) (ts : List Term) → (T (not (int_eq t.c (pos 0))) → P (t ∷ ts)) → (t.c ≡ pos 0 → P ts) → P (cons_term t ts)
cons_has P t ts with_it without_it = by_test (int_eq t.c (pos 0)) with_it (λ is. without_it ((Decides-int_eq t.c (pos 0)).0 is))
  where
    by_test : (b : Bool) → (T (not b) → P (t ∷ ts)) → (b ≡ true → P ts) → P (if b then ts else t ∷ ts)
    by_test true f g = g refl
    by_test false f g = f tt

-- a property of each list that an order may choose
pub chosen : (P : List Term → Type 0) (o : Ordering) (a b c : List Term) → (o ≡ Less → P a) → (o ≡ Equal → P b) → (o ≡ Greater → P c) →
    P (match_ordering o a b c)
chosen P Less a b c f g h = f refl
chosen P Equal a b c f g h = g refl
chosen P Greater a b c f g h = h refl

pub before_put : (d : Dir) (t : Term) (us : List Term) → dir_cmp d t.dir ≡ Less → T (is_before_all d us) → T (is_before_all d (put_term t us))
before_put d t [] less before = cons_has (λ ts. T (is_before_all d ts)) t [] (λ _. before_cons d t [] less before) (λ _. before)
before_put d t (u ∷ us) less before =
    let first = and_parts (is_lt (dir_cmp d u.dir)) (is_before_all d us) before in
    let sum : Term = record { dir = u.dir; c = t.c +ℤ u.c } in
    chosen (λ ts. T (is_before_all d ts)) (dir_cmp t.dir u.dir) _ _ _
    (λ _. cons_has (λ ts. T (is_before_all d ts)) t (u ∷ us) (λ _. before_cons d t (u ∷ us) less before) (λ _. before))
    (λ _. cons_has (λ ts. T (is_before_all d ts)) sum us (λ _. before_cons d sum us (is_less _ first.0) first.1) (λ _. first.1))
    (λ _. before_cons d u (put_term t us) (is_less _ first.0) (before_put d t us less first.1))

pub is_canonical-put : (t : Term) (us : List Term) → T (is_canonical us) → T (is_canonical (put_term t us))
is_canonical-put t [] h = cons_has (λ ts. T (is_canonical ts)) t [] (λ n. canonical_whole t [] (record { not_zero = n; before = tt; rest = tt })) (λ _. tt)
is_canonical-put t (u ∷ us) h =
    let first = canonical_parts u us h in
    let sum : Term = record { dir = u.dir; c = t.c +ℤ u.c } in
    chosen (λ ts. T (is_canonical ts)) (dir_cmp t.dir u.dir) _ _ _
    (λ less. cons_has (λ ts. T (is_canonical ts)) t (u ∷ us)
    (λ n. canonical_whole t (u ∷ us)
    (record { not_zero = n; before = before_cons t.dir u us less (before_trans t.dir u.dir us less first.before); rest = h })) (λ _. h))
    (λ _. cons_has (λ ts. T (is_canonical ts)) sum us (λ n. canonical_whole sum us (record { not_zero = n; before = first.before; rest = first.rest }))
    (λ _. first.rest))
    (λ greater. canonical_whole u (put_term t us)
    (record {
      not_zero = first.not_zero;
      before = before_put u.dir t us (dir_after t.dir u.dir greater) first.before;
      rest =
          is_canonical-put t us first.rest;
    }))

pub is_canonical-normal : (ts : List Term) → T (is_canonical (normal ts))
is_canonical-normal [] = tt
is_canonical-normal (t ∷ ts) = is_canonical-put t (normal ts) (is_canonical-normal ts)
