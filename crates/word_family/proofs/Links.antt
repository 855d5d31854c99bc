-- Lists in which neighbours differ, joined from parts.
use Rattle.std.proofs.Common.{◌≡◌, ◌≢◌, ℕ, zero, suc, ◌-◌, ◌<◌, ◌≤◌, List, [], ◌∷◌, ◌++◌, length, get_or, refl, sym, ap, subst, ◌∙◌, arith, length-append}
use Rattle.std.specs.Prelude.{⊤}
use Rattle.std.proofs.lemmas.List.{append-nil}
use Rattle.edge_words.specs.Word.{NeighboursDiffer, IsWord}
use Rattle.edge_words.proofs.Turns.{DiffersAlong, differs_along, neighbours_differ}
use Rattle.word_family.specs.Family.{Parts, times_written, member, IsFamily}
use Rattle.word_family.proofs.Members.{member-even, member-letters}

-- after x, each letter differs from the one before it
IsLinked : ℕ → List ℕ → Type 0
IsLinked x [] = ⊤
IsLinked x (y ∷ ys) = (x ≢ y) × IsLinked y ys

-- the last of x and what comes after it
end_of : ℕ → List ℕ → ℕ
end_of x [] = x
end_of x (y ∷ ys) = end_of y ys

linked_join : (x : ℕ) (xs ys : List ℕ) → IsLinked x xs → IsLinked (end_of x xs) ys → IsLinked x (xs ++ ys)
unfolding IsLinked end_of
linked_join x [] ys h k = k
linked_join x (y ∷ xs) ys h k = (h.0, linked_join y xs ys h.1 k)

linked_left : (x : ℕ) (xs ys : List ℕ) → IsLinked x (xs ++ ys) → IsLinked x xs
unfolding IsLinked
linked_left x [] ys h = tt
linked_left x (y ∷ xs) ys h = (h.0, linked_left y xs ys h.1)

linked_right : (x : ℕ) (xs ys : List ℕ) → IsLinked x (xs ++ ys) → IsLinked (end_of x xs) ys
unfolding IsLinked end_of
linked_right x [] ys h = h
linked_right x (y ∷ xs) ys h = linked_right y xs ys h.1

end_of-append : (x : ℕ) (xs ys : List ℕ) → end_of x (xs ++ ys) ≡ end_of (end_of x xs) ys
unfolding end_of
end_of-append x [] ys = refl
end_of-append x (y ∷ xs) ys = end_of-append y xs ys

-- a list that is not empty has an end of its own
end_of-some : (x z : ℕ) (ys : List ℕ) → 0 < length ys → end_of x ys ≡ end_of z ys
unfolding end_of
end_of-some x z [] h = absurd (omega (arith, h))
end_of-some x z (y ∷ ys) h = refl

-- ---- by indices
end_at : (x : ℕ) (w : List ℕ) → get_or (x ∷ w) (length w) 0 ≡ end_of x w
unfolding end_of
end_at x [] = refl
end_at x (y ∷ w) = end_at y w

linked_from : (x : ℕ) (w : List ℕ) → ((k : ℕ) → k < length w → get_or (x ∷ w) k 0 ≢ get_or w k 0) → IsLinked x w
unfolding IsLinked
linked_from x [] h = tt
linked_from x (y ∷ w) h = (h 0 (omega arith), linked_from y w (λ k below. h (suc k) (omega (arith, below))))

linked_at : (x : ℕ) (w : List ℕ) → IsLinked x w → (k : ℕ) → k < length w → get_or (x ∷ w) k 0 ≢ get_or w k 0
unfolding IsLinked
linked_at x [] h k below = absurd (omega (arith, below))
linked_at x (y ∷ w) h zero below = h.0
linked_at x (y ∷ w) h (suc k) below = linked_at y w h.1 k (omega (arith, below))

last_is_end : (w : List ℕ) → 0 < length w → get_or w (length w - 1) 0 ≡ end_of 0 w
unfolding end_of
last_is_end [] h = absurd (omega (arith, h))
last_is_end (y ∷ w) h = let e : length (y ∷ w) - 1 ≡ length w = omega arith in ap (λ k. get_or (y ∷ w) k 0) e ∙ end_at y w

-- a closed list is linked after its own end
linked_from_neighbours : (w : List ℕ) → 0 < length w → NeighboursDiffer w → IsLinked (end_of 0 w) w
linked_from_neighbours w some differ =
    let d = differs_along w some differ in
    linked_from (end_of 0 w) w (at d)
  where
    at : DiffersAlong w → (k : ℕ) → k < length w → get_or (end_of 0 w ∷ w) k 0 ≢ get_or w k 0
    at d zero below same = d.closing (last_is_end w some ∙ same)
    at d (suc k) below same = d.along k (omega (arith, below)) (same ∙ ap (λ i. get_or w i 0) (omega arith))

neighbours_from_linked : (w : List ℕ) → 0 < length w → IsLinked (end_of 0 w) w → NeighboursDiffer w
neighbours_from_linked w some h =
    neighbours_differ w (record {
      along = λ k below same. linked_at (end_of 0 w) w h (suc k) (omega (arith, below)) (same ∙ ap (λ i. get_or w i 0) (omega arith));
      closing = λ same. linked_at (end_of 0 w) w h 0 some (sym (last_is_end w some) ∙ same);
    })

-- ---- a list that is written again and again
linked_times : (b : List ℕ) (x n : ℕ) → 0 < length b → IsLinked x b → IsLinked (end_of 0 b) b → IsLinked x (times_written n b)
unfolding IsLinked
linked_times b x zero some h again = tt
linked_times b x (suc n) some h again =
    linked_join x b (times_written n b) h
    (subst (λ y. IsLinked y (times_written n b)) (end_of-some 0 x b some) (linked_times b (end_of 0 b) n some again again))

end_of_times : (b : List ℕ) (x n : ℕ) → 0 < length b → end_of x (times_written (suc n) b) ≡ end_of 0 b
unfolding end_of
end_of_times b x zero some = ap (end_of x) (append-nil b) ∙ end_of-some x 0 b some
end_of_times b x (suc n) some = end_of-append x b (times_written (suc n) b) ∙ end_of_times b (end_of x b) n some

end_of_member : (f : Parts) (n : ℕ) → 0 < length f.middle → end_of 0 (member f (suc n)) ≡ end_of (end_of 0 f.middle) f.last
end_of_member f n some =
    let times = times_written (suc n) f.middle in
    end_of-append 0 f.first (times ++ f.last)
    ∙ end_of-append (end_of 0 f.first) times f.last
    ∙ ap (λ x. end_of x f.last) (end_of_times f.middle (end_of 0 f.first) n some)

-- what the member with n = 2 shows of each other one
member_linked : (f : Parts) (n x : ℕ) → 0 < length f.middle → IsLinked x (member f 2) → IsLinked x (member f (suc n))
member_linked f n x some h =
    let twice = times_written 2 f.middle in
    let after = end_of x f.first in
    let behind : IsLinked after (twice ++ f.last) = linked_right x f.first (twice ++ f.last) h in
    let both : IsLinked after twice = linked_left after twice f.last behind in
    let again : IsLinked (end_of after f.middle) (times_written 1 f.middle) = linked_right after f.middle (times_written 1 f.middle) both in
    let once : IsLinked (end_of 0 f.middle) f.middle =
    subst (λ y. IsLinked y f.middle) (end_of-some after 0 f.middle some)
    (linked_left (end_of after f.middle) f.middle [] again) in
    let last : IsLinked (end_of 0 f.middle) f.last =
    subst (λ y. IsLinked y f.last) (end_of_times f.middle after 1 some) (linked_right after twice f.last behind) in
    let times = times_written (suc n) f.middle in
    linked_join x f.first (times ++ f.last) (linked_left x f.first (twice ++ f.last) h)
    (linked_join after times f.last
    (linked_times f.middle after (suc n) some (linked_left after f.middle (times_written 1 f.middle) both) once)
    (subst (λ y. IsLinked y f.last) (sym (end_of_times f.middle after n some)) last))

member_some : (f : Parts) (n : ℕ) → 0 < length f.middle → 0 < length (member f (suc n))
member_some f n some = omega (
  arith,
  length-append f.first (times_written (suc n) f.middle ++ f.last),
  length-append (times_written (suc n) f.middle) f.last,
  length-append f.middle (times_written n f.middle),
  some,
)

-- neighbours differ in each member
pub member_differs : (f : Parts) (n : ℕ) → IsFamily f → 1 ≤ n → NeighboursDiffer (member f n)
member_differs f zero is h = absurd (omega (arith, h))
member_differs f (suc n) is h =
    let some = is.parts.some in
    let given = linked_from_neighbours (member f 2) (member_some f 1 some) is.neighbours_differ in
    let same : end_of 0 (member f 2) ≡ end_of 0 (member f (suc n)) = end_of_member f 1 some ∙ sym (end_of_member f n some) in
    neighbours_from_linked (member f (suc n)) (member_some f n some)
    (subst (λ x. IsLinked x (member f (suc n))) same (member_linked f n (end_of 0 (member f 2)) some given))

-- a member with as many letters as a word may have is one
pub member_is_word : (f : Parts) (n : ℕ) → IsFamily f → 1 ≤ n → 6 ≤ length (member f n) → length (member f n) ≤ 64 → IsWord (member f n)
member_is_word f n is h low high = record {
  letters = member-letters f n is.parts;
  even_length = record { even = member-even f n is.even; at_least = low; at_most = high };
  neighbours_differ = member_differs f n is h;
}
