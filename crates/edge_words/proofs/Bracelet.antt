-- The least of the rotations, and the least of a bracelet.
use Rattle.std.proofs.Common.{◌≡◌, ℕ, true, false, ◌+◌, ◌<◌, ◌≤◌, List, ◌++◌, length, take, drop, reverse, inl, inr, sym, ◌∙◌, ap, subst, arith}
use Rattle.std.proofs.Common.{below_more, length-take-le, length-drop}
use Rattle.std.specs.declared.cmp.Ordering.{Ordering}
use Rattle.std.specs.Ordering.{nat_cmp, is_lt, ordering_then}
use Rattle.std.specs.Cmp.Lexicographic.{slice_cmp}
use Rattle.std.proofs.lemmas.List.{length-reverse, reverse-reverse, take-append-drop}
use Rattle.edge_words.specs.Canonical.{rotated, IsRotation, IsInBracelet, IsAtMost, IsCanonicalForm, HasOneCanonicalForm, BraceletSharesCanonicalForm}
use Rattle.edge_words.proofs.Lexicographic.{slice_cmp-append, at_most_itself, at_most_along, at_most_both_ways, at_most_where_less, at_most_where_not_less}
use Rattle.edge_words.proofs.Rotations.{IsRotation-rotation, IsRotation-back, IsRotation-reverse}
use Rattle.edge_words.proofs.Turns.{length-rotated}

-- a rotation compares by the letters before its seam and then by those behind it
pub compare_parts : (by : ℕ) (w others head tail first rest : List ℕ) (front back whole : Ordering) → head ≡ take by w → tail ≡ drop by w
    → first ≡ take (length tail) others → rest ≡ drop (length tail) others → length w ≡ length others → front ≡ slice_cmp nat_cmp tail first
    → back ≡ slice_cmp nat_cmp head rest → whole ≡ ordering_then front back → whole ≡ slice_cmp nat_cmp (rotated by w) others
compare_parts by w others head tail first rest front back whole is_head is_tail is_first is_rest len is_front is_back is_whole =
    let short : length tail ≤ length others = omega (arith, ap length is_tail, length-drop by w) in
    let same : length tail ≡ length first = sym (ap length is_first ∙ length-take-le (length tail) others short) in
    let turned : tail ++ head ≡ rotated by w = ap (λ t. t ++ head) is_tail ∙ ap (λ h. drop by w ++ h) is_head in
    let joined : first ++ rest ≡ others = ap (λ f. f ++ rest) is_first ∙ ap (λ r. take (length tail) others ++ r) is_rest
    ∙ take-append-drop (length tail) others in
    is_whole ∙ ap (λ o. ordering_then o back) is_front ∙ ap (ordering_then (slice_cmp nat_cmp tail first)) is_back
    ∙ sym (slice_cmp-append tail head first rest same) ∙ ap (λ v. slice_cmp nat_cmp v (first ++ rest)) turned ∙ ap (slice_cmp nat_cmp (rotated by w)) joined

-- a rotation that is at most each by fewer than n letters
pub record IsLeastBelow (w v : List ℕ) (n : ℕ) : Type 0 where
  pub rotation : IsRotation w v
  pub least : (by : ℕ) → by < n → IsAtMost v (rotated by w)

-- the list itself is its rotation by none
pub least_of_first : (w v : List ℕ) → 0 < length w → v ≡ rotated 0 w → IsLeastBelow w v 1
least_of_first w v some e = record {
  rotation = (0, some, e);
  least = λ by h. let f : 0 ≡ by = omega arith in subst (λ k. IsAtMost v (rotated k w)) f (subst (IsAtMost v) e (at_most_itself v));
}

-- one more rotation, which is not less
pub least_kept : (w v : List ℕ) (n : ℕ) → is_lt (slice_cmp nat_cmp (rotated n w) v) ≡ false → IsLeastBelow w v n → IsLeastBelow w v (n + 1)
least_kept w v n not_less is = record {
  rotation = is.rotation;
  least = below_more _ _ is.least (at_most_where_not_less v (rotated n w) not_less);
}

-- one more rotation, which is less
pub least_replaced : (w v u : List ℕ) (n : ℕ) → n < length w → is_lt (slice_cmp nat_cmp (rotated n w) v) ≡ true → u ≡ rotated n w
    → IsLeastBelow w v n → IsLeastBelow w u (n + 1)
least_replaced w v u n h less e is =
    let below : IsAtMost u v = subst (λ x. IsAtMost x v) (sym e) (at_most_where_less (rotated n w) v less) in
    record {
      rotation = (n, h, e);
      least = below_more _ _ (λ by l. at_most_along u v (rotated by w) below (is.least by l)) (subst (IsAtMost u) e (at_most_itself u));
    }

-- a rotation has the list's length
pub length_of_rotation : (w v : List ℕ) → IsRotation w v → length v ≡ length w
length_of_rotation w v turn = ap length turn.2 ∙ length-rotated turn.0 w (omega (arith, turn.1))

-- what is at most the least of each way round is the bracelet's least
pub least_of_both : (w v forwards backwards : List ℕ) → IsInBracelet w v → IsAtMost v forwards → IsAtMost v backwards
    → ((by : ℕ) → by < length w → IsAtMost forwards (rotated by w))
    → ((by : ℕ) → by < length (reverse w) → IsAtMost backwards (rotated by (reverse w))) → IsCanonicalForm w v
least_of_both w v forwards backwards of first second one other = record {
  in_bracelet = of;
  least = λ u h.
      elim h [
        | inl turn ↦ at_most_along v forwards u first (subst (IsAtMost forwards) (sym turn.2) (one turn.0 turn.1))
        | inr turn ↦ at_most_along v backwards u second (subst (IsAtMost backwards) (sym turn.2) (other turn.0 turn.1))
      ];
}

pub one_canonical_form : HasOneCanonicalForm
one_canonical_form w u v is also = at_most_both_ways u v (is.least v also.in_bracelet) (also.least u is.in_bracelet)

-- a bracelet's lists have one length
pub length_in_bracelet : (w v : List ℕ) → IsInBracelet w v → length v ≡ length w
length_in_bracelet w v (inl turn) = length_of_rotation w v turn
length_in_bracelet w v (inr turn) = length_of_rotation (reverse w) v turn ∙ length-reverse w

-- each of a bracelet has the others in its own
pub bracelet_symmetric : (w v : List ℕ) → IsInBracelet w v → IsInBracelet v w
bracelet_symmetric w v (inl turn) = inl (IsRotation-back w v turn)
bracelet_symmetric w v (inr turn) = inr (subst (IsRotation (reverse v)) (reverse-reverse w)
    (IsRotation-reverse v (reverse w) (IsRotation-back (reverse w) v turn)))

bracelet_transitive : (w v u : List ℕ) → IsInBracelet w v → IsInBracelet v u → IsInBracelet w u
bracelet_transitive w v u (inl first) (inl second) = inl (IsRotation-rotation w v u first second)
bracelet_transitive w v u (inl first) (inr second) = inr (IsRotation-rotation (reverse w) (reverse v) u (IsRotation-reverse w v first) second)
bracelet_transitive w v u (inr first) (inl second) = inr (IsRotation-rotation (reverse w) v u first second)
bracelet_transitive w v u (inr first) (inr second) = inl (IsRotation-rotation w (reverse v) u
    (subst (λ x. IsRotation x (reverse v)) (reverse-reverse w) (IsRotation-reverse (reverse w) v first)) second)

pub bracelet_shares_canonical_form : BraceletSharesCanonicalForm
bracelet_shares_canonical_form w v u h is = record {
  in_bracelet = bracelet_transitive v w u (bracelet_symmetric w v h) is.in_bracelet;
  least = λ x i. is.least x (bracelet_transitive w v x h i);
}
