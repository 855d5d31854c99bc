-- Lexicographic order of lists of numbers.
use Rattle.std.proofs.Common.{◌≡◌, ℕ, true, false, List, [], ◌∷◌, ◌++◌, length, sym, ◌∙◌, ap, refl, Some, arith, IsTrue}
use Rattle.std.specs.declared.cmp.Ordering.{Ordering}
use Rattle.std.specs.declared.cmp.Ordering.TheVariants.{Less, Equal, Greater}
use Rattle.std.specs.Ordering.{nat_cmp, ordering_then, ordering_reverse, is_le, is_lt, is_gt, is_some_and}
use Rattle.std.specs.Cmp.Lexicographic.{slice_cmp, slice_partial_cmp, lists_agrees}
use Rattle.std.specs.FinMap.{slice_cmp-IsAntisymmetric, nat_cmp-IsAntisymmetric}
use Rattle.std.proofs.lemmas.Cmp.{nat_list_cmp_total, upto, tied_itself}
use Rattle.edge_words.specs.Canonical.{IsAtMost}

ordering_then_assoc : (a b c : Ordering) → ordering_then (ordering_then a b) c ≡ ordering_then a (ordering_then b c)
ordering_then_assoc Less b c = refl
ordering_then_assoc Equal b c = refl
ordering_then_assoc Greater b c = refl

-- lists in two parts, the first of one length, compare by the first parts and then by the second
pub slice_cmp-append : (a b c d : List ℕ) → length a ≡ length c
    → slice_cmp nat_cmp (a ++ b) (c ++ d) ≡ ordering_then (slice_cmp nat_cmp a c) (slice_cmp nat_cmp b d)
slice_cmp-append [] b [] d h = refl
slice_cmp-append [] b (y ∷ c) d h = absurd (omega arith)
slice_cmp-append (x ∷ a) b [] d h = absurd (omega arith)
slice_cmp-append (x ∷ a) b (y ∷ c) d h =
    ap (ordering_then (nat_cmp x y)) (slice_cmp-append a b c d (omega arith))
    ∙ sym (ordering_then_assoc (nat_cmp x y) (slice_cmp nat_cmp a c) (slice_cmp nat_cmp b d))

-- at most, as the comparison the other way round
not_greater : (o : Ordering) → IsTrue (is_le o) → is_gt o ≡ false
not_greater Less h = refl
not_greater Equal h = refl
not_greater Greater h = cc

at_most : (o : Ordering) → is_gt o ≡ false → IsTrue (is_le o)
at_most Less h = refl
at_most Equal h = refl
at_most Greater h = cc

-- not less one way is at most the other way
le_back : (o p : Ordering) → o ≡ ordering_reverse p → is_lt p ≡ false → IsTrue (is_le o)
le_back o Less e h = cc
le_back o Equal e h = ap is_le e
le_back o Greater e h = ap is_le e

lt_back : (o p : Ordering) → o ≡ ordering_reverse p → is_lt p ≡ true → is_le o ≡ false
lt_back o Less e h = ap is_le e
lt_back o Equal e h = cc
lt_back o Greater e h = cc

-- less is at most
le_of_lt : (o : Ordering) → is_lt o ≡ true → IsTrue (is_le o)
le_of_lt Less h = refl
le_of_lt Equal h = refl
le_of_lt Greater h = cc

pub at_most_itself : (v : List ℕ) → IsAtMost v v
at_most_itself v = ap is_le (tied_itself nat_list_cmp_total v)

pub at_most_along : (u v w : List ℕ) → IsAtMost u v → IsAtMost v w → IsAtMost u w
at_most_along u v w uv vw = at_most _ (upto nat_list_cmp_total u v w (not_greater _ uv) (not_greater _ vw))

-- what is not less is at least
pub at_most_where_not_less : (v u : List ℕ) → is_lt (slice_cmp nat_cmp u v) ≡ false → IsAtMost v u
at_most_where_not_less v u h = le_back _ _ (nat_list_cmp_total.antisymm v u) h

-- what is less is not at least
pub not_at_most_where_less : (v u : List ℕ) → is_lt (slice_cmp nat_cmp u v) ≡ true → ¬ (IsAtMost v u)
not_at_most_where_less v u h le = let e = lt_back _ _ (nat_list_cmp_total.antisymm v u) h in cc

pub at_most_where_less : (v u : List ℕ) → is_lt (slice_cmp nat_cmp v u) ≡ true → IsAtMost v u
at_most_where_less v u h = le_of_lt _ h

equal_both_ways : (o p : Ordering) → o ≡ ordering_reverse p → IsTrue (is_le o) → IsTrue (is_le p) → o ≡ Equal
equal_both_ways o Less e h k = let f : is_le o ≡ false = ap is_le e in cc
equal_both_ways o Equal e h k = e
equal_both_ways o Greater e h k = cc

-- each at most the other, they are equal
pub at_most_both_ways : (u v : List ℕ) → IsAtMost u v → IsAtMost v u → u ≡ v
at_most_both_ways u v uv vu = slice_cmp-IsAntisymmetric nat_cmp-IsAntisymmetric u v (equal_both_ways _ _ (nat_list_cmp_total.antisymm u v) uv vu)

-- what `<` answers at slices
pub is_lt-from_partial : (u v : List ℕ) → is_some_and is_lt (slice_partial_cmp (λ x y. Some (nat_cmp x y)) u v) ≡ is_lt (slice_cmp nat_cmp u v)
is_lt-from_partial u v = ap (is_some_and is_lt) (lists_agrees {R = nat_cmp} (λ x y. refl) u v)
