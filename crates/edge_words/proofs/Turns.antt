-- A word stays a word when it is rotated or read backwards.
use Rattle.std.proofs.Common.{◌≡◌, ◌≢◌, ℕ, ◌+◌, ◌-◌, ◌%◌, ◌<◌, ◌≤◌, List, reverse, length, get_or, take, drop, inl, inr, sym, ◌∙◌, ap, subst, arith}
use Rattle.std.proofs.Common.{length-append, length-take, length-drop}
use Rattle.std.proofs.Math.Nat.{mod-eq_of_lt, mod_self}
use Rattle.std.proofs.lemmas.Bool.{cases_lt}
use Rattle.std.proofs.lemmas.List.{get_or_append_left, get_or-append_right, get_or-drop, get_or-take, get_or-reverse, length-reverse}
use Rattle.std.proofs.lemmas.List.Elements.{All-append, All-drop, All-take, All-get_or, All-from_get_or}
use Rattle.edge_words.specs.Canonical.{rotated}
use Rattle.edge_words.specs.Letters.{IsLetter}
use Rattle.edge_words.specs.Word.{IsWord, IsWordLength, NeighboursDiffer}

-- a list in which neighbours differ, by indices: along the list, and where it closes
pub record DiffersAlong (w : List ℕ) : Type 0 where
  pub along : (k : ℕ) → k + 1 < length w → get_or w k 0 ≢ get_or w (k + 1) 0
  pub closing : get_or w (length w - 1) 0 ≢ get_or w 0 0

pub differs_along : (w : List ℕ) → 0 < length w → NeighboursDiffer w → DiffersAlong w
differs_along w some differ = record {
  along = λ k h same. let e : k + 1 - 1 ≡ k = omega arith in differ (k + 1) (omega arith, omega arith) (ap (λ i. get_or w i 0) e ∙ same
      ∙ ap (λ i. get_or w i 0) (sym (mod-eq_of_lt h)));
  closing = λ same. differ (length w) (omega arith, omega arith) (same ∙ ap (λ i. get_or w i 0) (sym (mod_self (length w))));
}

pub neighbours_differ : (w : List ℕ) → DiffersAlong w → NeighboursDiffer w
neighbours_differ w d i place same =
    elim (cases_lt i (length w)) [
      | inl below ↦ let e : i - 1 + 1 ≡ i = omega arith in d.along (i - 1) (omega arith) (same ∙ ap (λ k. get_or w k 0) (mod-eq_of_lt below)
          ∙ ap (λ k. get_or w k 0) (sym e))
      | inr above ↦ let e : i ≡ length w = omega arith in d.closing (subst (λ k. get_or w (k - 1) 0 ≡ get_or w (k % length w) 0) e same
          ∙ ap (λ k. get_or w k 0) (mod_self (length w)))
    ]

-- a rotation keeps the length
pub length-rotated : (by : ℕ) (w : List ℕ) → by ≤ length w → length (rotated by w) ≡ length w
length-rotated by w h = omega (arith, length-append (drop by w) (take by w), length-drop by w, length-take by w)

-- before the seam
rotated_front : (by : ℕ) (w : List ℕ) (k : ℕ) → by ≤ length w → k + by < length w → get_or (rotated by w) k 0 ≡ get_or w (by + k) 0
rotated_front by w k h l = get_or_append_left (drop by w) (take by w) 0 k (omega (arith, length-drop by w)) ∙ get_or-drop by w k 0

-- behind it
rotated_back : (by : ℕ) (w : List ℕ) (k : ℕ) → by ≤ length w → length w ≤ k + by → k < length w → get_or (rotated by w) k 0 ≡ get_or w (k - (length w - by)) 0
rotated_back by w k h l m =
    get_or-append_right (drop by w) (take by w) (length w - by) k 0 (length-drop by w) (omega arith) ∙ get_or-take by w (k - (length w - by)) 0 (omega arith)

-- along a rotation neighbours differ, since they are neighbours in the word
along_rotated : (by : ℕ) (w : List ℕ) → by < length w → DiffersAlong w → (k : ℕ) → k + 1 < length w
    → get_or (rotated by w) k 0 ≢ get_or (rotated by w) (k + 1) 0
along_rotated by w h d k l =
    elim (cases_lt (k + 1 + by) (length w)) [
      | inl before ↦ λ same. d.along (by + k) (omega arith) (sym (rotated_front by w k (omega arith) (omega arith)) ∙ same
          ∙ rotated_front by w (k + 1) (omega arith) before ∙ ap (λ i. get_or w i 0) (omega arith))
      | inr behind ↦
          elim (cases_lt (k + by) (length w)) [
            | inl at ↦ λ same. d.closing (ap (λ i. get_or w i 0) (omega arith) ∙ sym (rotated_front by w k (omega arith) at) ∙ same
                ∙ rotated_back by w (k + 1) (omega arith) behind l ∙ ap (λ i. get_or w i 0) (omega arith))
            | inr past ↦ λ same. d.along (k - (length w - by)) (omega arith)
                (sym (rotated_back by w k (omega arith) past (omega arith)) ∙ same ∙ rotated_back by w (k + 1) (omega arith) behind l
                ∙ ap (λ i. get_or w i 0) (omega arith))
          ]
    ]

-- the letters that meet where a rotation closes
closing_rotated : (by : ℕ) (w : List ℕ) → by < length w → DiffersAlong w → get_or (rotated by w) (length w - 1) 0 ≢ get_or (rotated by w) 0 0
closing_rotated by w h d =
    elim (cases_lt 0 by) [
      | inl some ↦ λ same. d.along (by - 1) (omega arith) (ap (λ i. get_or w i 0) (omega arith)
          ∙ sym (rotated_back by w (length w - 1) (omega arith) (omega arith) (omega arith)) ∙ same
          ∙ rotated_front by w 0 (omega arith) (omega arith) ∙ ap (λ i. get_or w i 0) (omega arith))
      | inr none ↦ λ same. d.closing (ap (λ i. get_or w i 0) (omega arith) ∙ sym (rotated_front by w (length w - 1) (omega arith) (omega arith))
          ∙ same ∙ rotated_front by w 0 (omega arith) (omega arith) ∙ ap (λ i. get_or w i 0) (omega arith))
    ]

-- a rotation of a word is a word
pub IsWord-rotated : (by : ℕ) (w : List ℕ) → by < length w → IsWord w → IsWord (rotated by w)
IsWord-rotated by w h is =
    let len : length (rotated by w) ≡ length w = length-rotated by w (omega arith) in
    let d = differs_along w (omega arith) is.neighbours_differ in
    record {
      letters = All-append IsLetter (drop by w) (take by w) (All-drop IsLetter by w is.letters) (All-take IsLetter by w is.letters);
      even_length = subst IsWordLength (sym len) is.even_length;
      neighbours_differ = neighbours_differ (rotated by w) (record {
        along = λ k l. along_rotated by w h d k (omega (arith, len));
        closing = rw len (closing_rotated by w h d);
      });
    }

-- a word read backwards is a word
pub IsWord-reverse : (w : List ℕ) → IsWord w → IsWord (reverse w)
IsWord-reverse w is =
    let len : length (reverse w) ≡ length w = length-reverse w in
    let some : 0 < length w = omega (arith, is.even_length.at_least) in
    let d = differs_along w some is.neighbours_differ in
    record {
      letters = All-from_get_or IsLetter (reverse w) 0 (λ k h. let l : k < length w = omega (arith, h, len) in subst IsLetter
          (sym (get_or-reverse w k 0 l)) (All-get_or IsLetter w (length w - 1 - k) 0 (omega arith) is.letters));
      even_length = subst IsWordLength (sym len) is.even_length;
      neighbours_differ = neighbours_differ (reverse w) (record {
        along = λ k l same. let m : k + 1 < length w = omega (arith, len, l) in d.along (length w - 1 - (k + 1)) (omega arith)
            (sym (get_or-reverse w (k + 1) 0 m) ∙ sym same ∙ get_or-reverse w k 0 (omega arith) ∙ ap (λ i. get_or w i 0) (omega arith));
        closing = rw len (λ same. d.closing (ap (λ i. get_or w i 0) (omega arith) ∙ sym (get_or-reverse w 0 0 some) ∙ sym same
            ∙ get_or-reverse w (length w - 1) 0 (omega arith) ∙ ap (λ i. get_or w i 0) (omega arith)));
      });
    }
