-- How the directions of corners change along a word: the next step, how far they reach, and where they come back.
use Rattle.std.proofs.Common.{◌≡◌, ℕ, zero, suc, ◌+◌, ◌*◌, ◌%◌, ◌≤◌, ◌==◌, Bool, true, false, not, List, [], ◌∷◌, ◌++◌, length, ℤ, pos, ◌+ℤ◌, neg_ℤ}
use Rattle.std.proofs.Common.{if◌then◌else◌, refl, ap, ◌∙◌, arith}
use Rattle.std.proofs.lemmas.Int.{ints}
use Rattle.std.proofs.lemmas.Bool.Decides.{nat_tests}
use Rattle.std.proofs.lemmas.List.Elements.{All-head, All-tail, All-cons}
use Rattle.std.specs.List.{All}
use Rattle.std.specs.Int.RustNames.{unsigned_abs}
use Rattle.edge_words.specs.Letters.{IsLetter}
use Rattle.edge_words.specs.Stable.{count_of, at_odd_places, at_even_places, IsStable}
use Rattle.edge_words.proofs.Balance.{once, count_of-cons}
use Rattle.edge_words.proofs.Places.{places-cons}
use Rattle.exp_sums.specs.declared.direction.Dir.{Dir}
use Rattle.unfolding.specs.Triangle.{next_corner, corner_dir}
use Rattle.unfolding.specs.Walk.{is_reversed, edge_dir, mirrored_dir}

-- directions with the same numbers are the same
pub same_dir : (d e : Dir) → d.m ≡ e.m → d.n ≡ e.n → d ≡ e
same_dir d e m n = λ i. record { m = m i; n = n i }

-- one more letter: each direction is mirrored in the edge as it is seen from the centre
pub mirrored_dir-snoc-m : (w : List ℕ) (d : ℕ) (e : Dir) →
    (mirrored_dir (w ++ d ∷ []) e).m +ℤ (mirrored_dir w e).m
    ≡ (mirrored_dir w (corner_dir (next_corner d))).m +ℤ (mirrored_dir w (corner_dir (next_corner (next_corner d)))).m
mirrored_dir-snoc-m [] d e = omega (arith, ints)
mirrored_dir-snoc-m (x ∷ w) d e = omega (arith, ints, mirrored_dir-snoc-m w d e)

pub mirrored_dir-snoc-n : (w : List ℕ) (d : ℕ) (e : Dir) →
    (mirrored_dir (w ++ d ∷ []) e).n +ℤ (mirrored_dir w e).n
    ≡ (mirrored_dir w (corner_dir (next_corner d))).n +ℤ (mirrored_dir w (corner_dir (next_corner (next_corner d)))).n
mirrored_dir-snoc-n [] d e = omega (arith, ints)
mirrored_dir-snoc-n (x ∷ w) d e = omega (arith, ints, mirrored_dir-snoc-n w d e)

-- what holds of 1, 2 and 3 holds of each letter
pub letter_cases : (P : ℕ → Type 0) (d : ℕ) → IsLetter d → P 1 → P 2 → P 3 → P d
letter_cases P zero h one two three = absurd (omega (arith, h))
letter_cases P (suc zero) h one two three = one
letter_cases P (suc (suc zero)) h one two three = two
letter_cases P (suc (suc (suc zero))) h one two three = three
letter_cases P (suc (suc (suc (suc d)))) h one two three = absurd (omega (arith, h))

-- letter 2 alone moves the first number, and letter 1 alone the second
edge_dir-m : (d : ℕ) → IsLetter d → (edge_dir d).m ≡ pos (2 * once 2 d)
edge_dir-m d h = letter_cases (λ d. (edge_dir d).m ≡ pos (2 * once 2 d)) d h refl refl refl

edge_dir-n : (d : ℕ) → IsLetter d → (edge_dir d).n ≡ neg_ℤ (pos (2 * once 1 d))
edge_dir-n d h = letter_cases (λ d. (edge_dir d).n ≡ neg_ℤ (pos (2 * once 1 d))) d h refl refl refl

-- as often as its letter stands, each number moves by 2 at most
pub mirrored_dir-near-m : (w : List ℕ) (e : Dir) → All IsLetter w → unsigned_abs (mirrored_dir w e).m ≤ unsigned_abs e.m + 2 * count_of 2 w
mirrored_dir-near-m [] e h = omega arith
mirrored_dir-near-m (d ∷ w) e h =
    let here = edge_dir-m d (All-head IsLetter d w h) in
    let count = count_of-cons 2 d w in
    let rest = mirrored_dir-near-m w e (All-tail IsLetter d w h) in
    omega (arith, ints, here, count, rest)

pub mirrored_dir-near-n : (w : List ℕ) (e : Dir) → All IsLetter w → unsigned_abs (mirrored_dir w e).n ≤ unsigned_abs e.n + 2 * count_of 1 w
mirrored_dir-near-n [] e h = omega arith
mirrored_dir-near-n (d ∷ w) e h =
    let here = edge_dir-n d (All-head IsLetter d w h) in
    let count = count_of-cons 1 d w in
    let rest = mirrored_dir-near-n w e (All-tail IsLetter d w h) in
    omega (arith, ints, here, count, rest)

-- z, or its negative where b
oriented : Bool → ℤ → ℤ
oriented b z = if b then neg_ℤ z else z

oriented-not : (b : Bool) (z : ℤ) → oriented (not b) z ≡ neg_ℤ (oriented b z)
unfolding oriented
oriented-not true z = omega (arith, ints)
oriented-not false z = refl

-- the numbers of a direction after the mirrors of a word, by counts
mirrored_dir-counts-m : (w : List ℕ) (e : Dir) → All IsLetter w →
    (mirrored_dir w e).m +ℤ pos (2 * count_of 2 (at_even_places w)) ≡ oriented (is_reversed w) e.m +ℤ pos (2 * count_of 2 (at_odd_places w))
unfolding oriented
mirrored_dir-counts-m [] e h = omega (arith, ints)
mirrored_dir-counts-m (d ∷ w) e h =
    let here = edge_dir-m d (All-head IsLetter d w h) in
    let rest = mirrored_dir-counts-m w e (All-tail IsLetter d w h) in
    let places = places-cons d w in
    rw (places.0, places.1, count_of-cons 2 d (at_even_places w))
    (omega (arith, ints, here, rest, oriented-not (is_reversed w) e.m))

mirrored_dir-counts-n : (w : List ℕ) (e : Dir) → All IsLetter w →
    (mirrored_dir w e).n +ℤ pos (2 * count_of 1 (at_odd_places w)) ≡ oriented (is_reversed w) e.n +ℤ pos (2 * count_of 1 (at_even_places w))
unfolding oriented
mirrored_dir-counts-n [] e h = omega (arith, ints)
mirrored_dir-counts-n (d ∷ w) e h =
    let here = edge_dir-n d (All-head IsLetter d w h) in
    let rest = mirrored_dir-counts-n w e (All-tail IsLetter d w h) in
    let places = places-cons d w in
    rw (places.0, places.1, count_of-cons 1 d (at_even_places w))
    (omega (arith, ints, here, rest, oriented-not (is_reversed w) e.n))

-- a word reverses its triangle where its length is odd
pub is_reversed-length : (w : List ℕ) → is_reversed w ≡ (length w % 2 == 1)
is_reversed-length [] = refl
is_reversed-length (d ∷ w) =
    let rest = is_reversed-length w in
    rw rest (grind (arith, nat_tests))

-- the counts of the three letters add up to the length
count_of-letters : (w : List ℕ) → All IsLetter w → count_of 1 w + count_of 2 w + count_of 3 w ≡ length w
count_of-letters [] h = refl
count_of-letters (d ∷ w) h =
    let here : once 1 d + once 2 d + once 3 d ≡ 1 = letter_cases (λ d. once 1 d + once 2 d + once 3 d ≡ 1) d (All-head IsLetter d w h) refl refl refl in
    omega (arith, here, count_of-cons 1 d w, count_of-cons 2 d w, count_of-cons 3 d w, count_of-letters w (All-tail IsLetter d w h))

-- the letters at odd and at even places are letters of the word
All-at_places : (w : List ℕ) → All IsLetter w → All IsLetter (at_odd_places w) × All IsLetter (at_even_places w)
All-at_places [] h = (h, h)
All-at_places (d ∷ w) h =
    let rest = All-at_places w (All-tail IsLetter d w h) in
    let places = places-cons d w in
    rw (places.0, places.1) (All-cons IsLetter d (at_even_places w) (All-head IsLetter d w h) rest.1, rest.0)

-- a word of even length has as many odd places as even ones
length-at_places : (w : List ℕ) → length (at_odd_places w) ≡ length (at_even_places w) + length w % 2
length-at_places [] = refl
length-at_places (d ∷ w) =
    let rest = length-at_places w in
    let places = places-cons d w in
    rw (places.0, places.1) (omega (arith, rest))

-- a word of even length does not reverse its triangle
pub is_reversed-even : (w : List ℕ) → length w % 2 ≡ 0 → is_reversed w ≡ false
is_reversed-even w h = is_reversed-length w ∙ ap (λ r. r == 1) h

-- where the counts of letters agree, directions come back
pub mirrored_from_stable : (w : List ℕ) (e : Dir) → All IsLetter w → length w % 2 ≡ 0 → IsStable w → mirrored_dir w e ≡ e
unfolding oriented
mirrored_from_stable w e h even stable =
    let b = is_reversed-even w even in
    let m : (mirrored_dir w e).m +ℤ pos (2 * count_of 2 (at_even_places w))
    ≡ e.m +ℤ pos (2 * count_of 2 (at_odd_places w)) = mirrored_dir-counts-m w e h ∙ ap (λ b. oriented b e.m +ℤ pos (2 * count_of 2 (at_odd_places w))) b in
    let n : (mirrored_dir w e).n +ℤ pos (2 * count_of 1 (at_odd_places w))
    ≡ e.n +ℤ pos (2 * count_of 1 (at_even_places w)) = mirrored_dir-counts-n w e h
    ∙ ap (λ b. oriented b e.n +ℤ pos (2 * count_of 1 (at_even_places w))) b in
    let one = stable 1 (omega arith, omega arith) in
    let two = stable 2 (omega arith, omega arith) in
    same_dir (mirrored_dir w e) e (omega (arith, ints, m, two)) (omega (arith, ints, n, one))

-- and where one direction comes back, the counts agree
pub stable_from_mirrored : (w : List ℕ) (e : Dir) → All IsLetter w → length w % 2 ≡ 0 → mirrored_dir w e ≡ e → IsStable w
unfolding oriented
stable_from_mirrored w e h even same x letter =
    let b = is_reversed-even w even in
    let m : (mirrored_dir w e).m +ℤ pos (2 * count_of 2 (at_even_places w))
    ≡ e.m +ℤ pos (2 * count_of 2 (at_odd_places w)) = mirrored_dir-counts-m w e h ∙ ap (λ b. oriented b e.m +ℤ pos (2 * count_of 2 (at_odd_places w))) b in
    let n : (mirrored_dir w e).n +ℤ pos (2 * count_of 1 (at_odd_places w))
    ≡ e.n +ℤ pos (2 * count_of 1 (at_even_places w)) = mirrored_dir-counts-n w e h
    ∙ ap (λ b. oriented b e.n +ℤ pos (2 * count_of 1 (at_even_places w))) b in
    let same-m = ap (λ d. d.m) same in
    let same-n = ap (λ d. d.n) same in
    let one : count_of 1 (at_odd_places w) ≡ count_of 1 (at_even_places w) = omega (arith, ints, n, same-n) in
    let two : count_of 2 (at_odd_places w) ≡ count_of 2 (at_even_places w) = omega (arith, ints, m, same-m) in
    let letters = All-at_places w h in
    let three : count_of 3 (at_odd_places w) ≡ count_of 3 (at_even_places w) =
    omega (arith, one, two, even, length-at_places w, count_of-letters (at_odd_places w) letters.0, count_of-letters (at_even_places w) letters.1) in
    letter_cases (λ x. count_of x (at_odd_places w) ≡ count_of x (at_even_places w)) x letter one two three
