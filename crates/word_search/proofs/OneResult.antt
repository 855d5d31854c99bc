-- Two right results of a search differ only in words that are between.
use Rattle.std.proofs.Common.{◌≡◌, ℕ, ◌≤◌, zero, suc, List, [], ◌∷◌, length, inl, inr, refl, sym, ◌∙◌, ap, subst, arith, All, Contains}
use Rattle.std.specs.Prelude.{◌⊎◌}
use Rattle.std.specs.Cmp.{IsTotalOrder}
use Rattle.std.specs.Cmp.Lexicographic.{slice_cmp}
use Rattle.std.specs.FinMap.{slice_cmp-IsAntisymmetric, nat_cmp-IsAntisymmetric}
use Rattle.std.specs.List.Sorted.{IsStrictlySortedBy}
use Rattle.std.specs.Ordering.{nat_cmp, ordering_then, ordering_reverse, on}
use Rattle.std.specs.declared.cmp.Ordering.{Ordering}
use Rattle.std.specs.declared.cmp.Ordering.TheVariants.{Less, Equal, Greater}
use Rattle.std.proofs.lemmas.Cmp.{nat_list_cmp_total, nat_cmp_total, then_total}
use Rattle.std.proofs.lemmas.Map.Keys.{sorted_tail}
use Rattle.std.proofs.lemmas.Map.Views.{All-after_first}
use Rattle.rat_core.specs.Fraction.{ℚ}
use Rattle.gradient_bounds.specs.Corridor.{HasCorridor}
use Rattle.word_search.specs.Laws.{HasWordBetween, ResultsDifferBetween}
use Rattle.word_search.specs.Search.{shortlex, IsSearchResult}
use Rattle.word_search.specs.Words.{IsCanonicalStable}

-- ---- members

holds_of : (P : List ℕ → Type 0) (ws : List (List ℕ)) (w : List ℕ) → All P ws → Contains ws w → P w
holds_of P ws w all has = subst P has.2 (all has.0 w has.1)

contains_first : (w : List ℕ) (ws : List (List ℕ)) → Contains (w ∷ ws) w
contains_first w ws = (0, omega arith, refl)

contains_later : (v w : List ℕ) (ws : List (List ℕ)) → Contains ws w → Contains (v ∷ ws) w
contains_later v w ws has = (suc has.0, omega (arith, has.1), has.2)

first_or_later : (v w : List ℕ) (ws : List (List ℕ)) → Contains (v ∷ ws) w → (v ≡ w) ⊎ Contains ws w
first_or_later v w ws (zero, within, is) = inl is
first_or_later v w ws (suc k, within, is) = inr (k, omega (arith, within), is)

-- ---- sorted lists

abbrev Cmp : Type 0
Cmp = List ℕ → List ℕ → Ordering

never_before_itself : (c : Cmp) → IsTotalOrder c → (w : List ℕ) → ¬ (c w w ≡ Less)
never_before_itself c total w less =
    let turned : c w w ≡ Greater = total.antisymm w w ∙ ap ordering_reverse less in
    let never : Less ≡ Greater = sym less ∙ turned in
    cc

turned_less : (c : Cmp) → IsTotalOrder c → (v w : List ℕ) → c v w ≡ Greater → c w v ≡ Less
turned_less c total v w greater = total.antisymm w v ∙ ap ordering_reverse greater

-- what comes before the first comes before all
not_contained : (c : Cmp) → IsTotalOrder c → (v w : List ℕ) (ws : List (List ℕ)) → IsStrictlySortedBy c (w ∷ ws) → c v w ≡ Less → ¬ (Contains (w ∷ ws) v)
not_contained c total v w ws sorted less has =
    elim (first_or_later w v ws has) [
      | inl same ↦ never_before_itself c total v (subst (λ (u : List ℕ). c v u ≡ Less) same less)
      | inr later ↦
          let after = holds_of (λ u. c w u ≡ Less) ws v (All-after_first c w ws sorted) later in
          never_before_itself c total v (total.trans v w v less after)
    ]

-- one of two lists alone has this word
abbrev InOne : List (List ℕ) → List (List ℕ) → List ℕ → Type 0
InOne ws ws' w = (Contains ws w × ¬ (Contains ws' w)) ⊎ (Contains ws' w × ¬ (Contains ws w))

not_later : (c : Cmp) → IsTotalOrder c → (v w : List ℕ) (vs ws : List (List ℕ)) → IsStrictlySortedBy c (v ∷ vs) → Contains vs w → ¬ (Contains ws w)
    → ¬ (Contains (v ∷ ws) w)
not_later c total v w vs ws sorted has none has' =
    elim (first_or_later v w ws has') [
      | inl same ↦
          let after = holds_of (λ u. c v u ≡ Less) vs w (All-after_first c v vs sorted) has in
          never_before_itself c total v (subst (λ (u : List ℕ). c v u ≡ Less) (sym same) after)
      | inr later ↦ none later
    ]

later_in_one : (c : Cmp) → IsTotalOrder c → (v w : List ℕ) (vs ws : List (List ℕ)) → IsStrictlySortedBy c (v ∷ vs) → IsStrictlySortedBy c (v ∷ ws)
    → InOne vs ws w → InOne (v ∷ vs) (v ∷ ws) w
later_in_one c total v w vs ws sorted sorted' (inl here) = inl (contains_later v w vs here.0, not_later c total v w vs ws sorted here.0 here.1)
later_in_one c total v w vs ws sorted sorted' (inr there) = inr (contains_later v w ws there.0, not_later c total v w ws vs sorted' there.0 there.1)

compared : (o : Ordering) → (o ≡ Less) ⊎ ((o ≡ Equal) ⊎ (o ≡ Greater))
compared Less = inl refl
compared Equal = inr (inl refl)
compared Greater = inr (inr refl)

-- two strictly sorted lists are one, or a word is in one of them alone
one_or_in_one : (c : Cmp) → IsTotalOrder c → ((v w : List ℕ) → c v w ≡ Equal → v ≡ w) → (vs ws : List (List ℕ)) → IsStrictlySortedBy c vs
    → IsStrictlySortedBy c ws → (vs ≡ ws) ⊎ ((w : List ℕ) × InOne vs ws w)
one_or_in_one c total same [] [] sorted sorted' = inl refl
one_or_in_one c total same [] (w ∷ ws) sorted sorted' = inr (w, inr (contains_first w ws, λ has. absurd (omega (arith, has.1))))
one_or_in_one c total same (v ∷ vs) [] sorted sorted' = inr (v, inl (contains_first v vs, λ has. absurd (omega (arith, has.1))))
one_or_in_one c total same (v ∷ vs) (w ∷ ws) sorted sorted' =
    elim (compared (c v w)) [
      | inl less ↦ inr (v, inl (contains_first v vs, not_contained c total v w ws sorted' less))
      | inr (inr greater) ↦ inr (w, inr (contains_first w ws, not_contained c total w v vs sorted (turned_less c total v w greater)))
      | inr (inl equal) ↦
          let One : List ℕ → Type 0 = λ u. IsStrictlySortedBy c (u ∷ ws) → (v ∷ vs ≡ u ∷ ws) ⊎ ((x : List ℕ) × InOne (v ∷ vs) (u ∷ ws) x) in
          let at_v : One v = λ of_v.
          elim (one_or_in_one c total same vs ws (sorted_tail c v vs sorted) (sorted_tail c v ws of_v)) [
            | inl rest ↦ inl (ap (λ (l : List (List ℕ)). v ∷ l) rest)
            | inr one ↦ inr (one.0, later_in_one c total v one.0 vs ws sorted of_v one.1)
          ] in
          subst One (same v w equal) at_v sorted'
    ]

-- ---- results

then_equal : (o p : Ordering) → ordering_then o p ≡ Equal → p ≡ Equal
then_equal Equal p is = is
then_equal Less p is = cc
then_equal Greater p is = cc

same_from_shortlex : (v w : List ℕ) → shortlex v w ≡ Equal → v ≡ w
same_from_shortlex v w equal =
    slice_cmp-IsAntisymmetric nat_cmp-IsAntisymmetric v w (then_equal (nat_cmp (length v) (length w)) (slice_cmp nat_cmp v w) equal)

by_length : IsTotalOrder (on (λ (w : List ℕ). length w) nat_cmp)
by_length = record {
  antisymm = λ (v w : List ℕ). nat_cmp_total.antisymm (length v) (length w);
  trans = λ (u v w : List ℕ). nat_cmp_total.trans (length u) (length v) (length w);
  congr = λ (u v w : List ℕ). nat_cmp_total.congr (length u) (length v) (length w);
}

between_from : (x y : ℚ) (P : List ℕ → Type 0) (ws ws' : List (List ℕ)) (w : List ℕ) → IsSearchResult x y P ws → IsSearchResult x y P ws' → InOne ws ws' w
    → HasWordBetween x y P ws ws'
between_from x y P ws ws' w first second (inl here) =
    let searched = holds_of IsCanonicalStable ws w first.searched here.0 in
    let inside = holds_of P ws w first.inside here.0 in
    record {
      word = w;
      searched = searched;
      inside = inside;
      corridor = holds_of (λ v. HasCorridor v x y) ws w first.corridors here.0;
      not_clear = second.left_out w searched inside here.1;
      in_one = inl here;
    }
between_from x y P ws ws' w first second (inr there) =
    let searched = holds_of IsCanonicalStable ws' w second.searched there.0 in
    let inside = holds_of P ws' w second.inside there.0 in
    record {
      word = w;
      searched = searched;
      inside = inside;
      corridor = holds_of (λ v. HasCorridor v x y) ws' w second.corridors there.0;
      not_clear = first.left_out w searched inside there.1;
      in_one = inr there;
    }

pub one_or_between : (x y : ℚ) (P : List ℕ → Type 0) (ws ws' : List (List ℕ)) → IsSearchResult x y P ws → IsSearchResult x y P ws'
    → (ws ≡ ws') ⊎ HasWordBetween x y P ws ws'
one_or_between x y P ws ws' first second =
    elim (one_or_in_one shortlex (then_total by_length nat_list_cmp_total) same_from_shortlex ws ws' first.sorted second.sorted) [
      | inl same ↦ inl same
      | inr one ↦ inr (between_from x y P ws ws' one.0 first second one.1)
    ]

pub results_differ_between_lem : ResultsDifferBetween
results_differ_between_lem x y bound ws ws' first second = one_or_between x y (λ w. length w ≤ bound) ws ws' first second
