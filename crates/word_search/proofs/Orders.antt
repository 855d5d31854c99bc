-- Orderings, and lexicographic order.
use Rattle.std.proofs.Common.{◌≡◌, ℕ, ◌-◌, ◌<◌, List, [], ◌∷◌, ◌++◌, length, get_or, reverse, drop, take, sym, ◌∙◌, ap, refl, arith, IsTrue, zero, suc, subst}
use Rattle.std.proofs.Common.{length-append, length-drop, length-take}
use Rattle.std.specs.Prelude.{◌↔◌}
use Rattle.std.specs.Cmp.{nat_cmp_is}
use Rattle.std.specs.declared.cmp.Ordering.{Ordering}
use Rattle.std.specs.declared.cmp.Ordering.TheVariants.{Less, Equal, Greater}
use Rattle.std.specs.Ordering.{nat_cmp, ordering_then, is_le, is_lt}
use Rattle.std.specs.Cmp.Lexicographic.{slice_cmp}
use Rattle.std.proofs.lemmas.Cmp.{nat_list_cmp_total, tied_itself}
use Rattle.std.proofs.lemmas.List.{ext_get_or, get_or-reverse, length-reverse}
use Rattle.edge_words.specs.Canonical.{IsAtMost, rotated}
use Rattle.edge_words.proofs.Lexicographic.{slice_cmp-append, at_most_itself, at_most_where_less, not_at_most_where_less}
use Rattle.word_search.specs.Cuts.{IsBefore}

-- what is at most by both parts is so by the first
pub at_most_first : (o p : Ordering) → IsTrue (is_le (ordering_then o p)) → IsTrue (is_le o)
at_most_first Less p h = refl
at_most_first Equal p h = refl
at_most_first Greater p h = h

-- what comes before is not at least
pub not_at_most_where_before : (v u : List ℕ) → IsBefore u v → ¬ (IsAtMost v u)
not_at_most_where_before v u before = not_at_most_where_less v u (ap is_lt before)

-- numbers in order
pub nat_less : (x y : ℕ) → x < y → nat_cmp x y ≡ Less
nat_less x y h = sym (nat_cmp_is x y Less h)

pub nat_equal : (x y : ℕ) → x ≡ y → nat_cmp x y ≡ Equal
nat_equal x y h = sym (nat_cmp_is x y Equal h)

pub nat_greater : (x y : ℕ) → y < x → nat_cmp x y ≡ Greater
nat_greater x y h = sym (nat_cmp_is x y Greater h)

-- lists that differ in the last element alone
pub before_last : (a : List ℕ) (x y : ℕ) → x < y → IsBefore (a ++ x ∷ []) (a ++ y ∷ [])
before_last a x y h =
    slice_cmp-append a (x ∷ []) a (y ∷ []) refl
    ∙ ap (λ o. ordering_then o (ordering_then (nat_cmp x y) Equal)) (tied_itself nat_list_cmp_total a)
    ∙ ap (λ o. ordering_then o Equal) (nat_less x y h)

-- the first difference decides
pub before_at : (v u : List ℕ) (i : ℕ) → i < length v → i < length u → ((k : ℕ) → k < i → get_or v k 0 ≡ get_or u k 0)
    → get_or v i 0 < get_or u i 0 → IsBefore v u
before_at [] u i h l same less = absurd (omega arith)
before_at (x ∷ v) [] i h l same less = absurd (omega arith)
before_at (x ∷ v) (y ∷ u) zero h l same less = ap (λ o. ordering_then o (slice_cmp nat_cmp v u)) (nat_less x y less)
before_at (x ∷ v) (y ∷ u) (suc i) h l same less =
    ap (λ o. ordering_then o (slice_cmp nat_cmp v u)) (nat_equal x y (same 0 (omega arith)))
    ∙ before_at v u i (omega arith) (omega arith) (λ k below. same (suc k) (omega arith)) less

-- a list read backwards, at its first difference from the list
pub reversed_before : (p : List ℕ) (i : ℕ) → i < length p → ((k : ℕ) → k < i → get_or p (length p - 1 - k) 0 ≡ get_or p k 0)
    → get_or p (length p - 1 - i) 0 < get_or p i 0 → IsBefore (reverse p) p
reversed_before p i h same less =
    let back : get_or (reverse p) i 0 ≡ get_or p (length p - 1 - i) 0 = get_or-reverse p i 0 h in
    before_at (reverse p) p i (omega (arith, length-reverse p)) h (λ k below. get_or-reverse p k 0 (omega arith) ∙ same k below) (omega (arith, back, less))

-- one more element, which is never less, leaves what comes before
pub kept_before : (o c : Ordering) → (c ≡ Less → ⊥) → (o ≡ Less) ↔ (ordering_then o (ordering_then c Equal) ≡ Less)
kept_before Less c h = (λ e. refl, λ e. refl)
kept_before Equal Less h = absurd (h refl)
kept_before Equal Equal h = (λ e. e, λ e. e)
kept_before Equal Greater h = (λ e. cc, λ e. cc)
kept_before Greater c h = (λ e. e, λ e. e)

at_most_alone : (c : Ordering) → IsTrue (is_le c) → IsTrue (is_le (ordering_then c Equal))
at_most_alone Less h = refl
at_most_alone Equal h = refl
at_most_alone Greater h = h

less_alone : (d : Ordering) → ordering_then d Equal ≡ Less → d ≡ Less
less_alone Less h = refl
less_alone Equal h = h
less_alone Greater h = h

-- the next element
pub next_before : (o c d : Ordering) → (IsTrue (is_le c) ↔ (d ≡ Less))
    → IsTrue (is_le (ordering_then o (ordering_then c Equal))) ↔ (ordering_then o (ordering_then d Equal) ≡ Less)
next_before Less c d h = (λ e. refl, λ e. refl)
next_before Equal c d h = (λ e. ap (λ x. ordering_then x Equal) (h.0 (at_most_first c Equal e)), λ e. at_most_alone c (h.1 (less_alone d e)))
next_before Greater c d h = (λ e. cc, λ e. cc)

-- past the last element
pub last_before : (o d : Ordering) → d ≡ Less → (ordering_then o (ordering_then d Equal) ≡ Less) ↔ IsTrue (is_le o)
last_before Less d h = (λ e. refl, λ e. refl)
last_before Equal d h = (λ e. refl, λ e. ap (λ x. ordering_then x Equal) h)
last_before Greater d h = (λ e. cc, λ e. cc)

-- what comes before is at most
pub at_most_where_before : (v u : List ℕ) → IsBefore v u → IsAtMost v u
at_most_where_before v u h = at_most_where_less v u (ap is_lt h)

-- a rotation has the length of the list
pub length-rotated : (w : List ℕ) (by : ℕ) → by < length w → length (rotated by w) ≡ length w
length-rotated w by h = omega (arith, h, length-append (drop by w) (take by w), length-drop by w, length-take by w)

-- lists with the same letters
pub at_most_where_same : (v u : List ℕ) → length v ≡ length u → ((k : ℕ) → k < length v → get_or v k 0 ≡ get_or u k 0) → IsAtMost v u
at_most_where_same v u len same = subst (IsAtMost v) (ext_get_or 0 v u len same) (at_most_itself v)
