-- The directions in which triangles of words of at most 24 letters are seen, and their numbers.
use Rattle.std.proofs.Common.{◌≡◌, ◌≢◌, ℕ, suc, ◌+◌, ◌*◌, ◌-◌, ◌<◌, ◌≤◌, ◌==◌, Bool, true, false, List, [], ◌∷◌, length, take, get_or, pos}
use Rattle.std.proofs.Common.{ℤ, negsuc, ◌+ℤ◌, ◌-ℤ◌, ◌*ℤ◌, neg_ℤ, if◌then◌else◌, refl, sym, ap, subst, ◌∙◌, arith, length-take}
use Rattle.std.proofs.lemmas.Bool.Decides.{nat_tests}
use Rattle.std.proofs.lemmas.Int.{ints}
use Rattle.std.proofs.lemmas.List.{get_or-take}
use Rattle.std.proofs.lemmas.List.Elements.{All-take, All-head, All-tail}
use Rattle.std.specs.List.{All}
use Rattle.edge_words.specs.Letters.{IsLetter}
use Rattle.edge_words.specs.Stable.{count_of}
use Rattle.edge_words.specs.Word.{IsWord}
use Rattle.edge_words.proofs.Balance.{once, count_of-cons}
use Rattle.edge_words.proofs.Turns.{differs_along}
use Rattle.exp_sums.specs.declared.direction.Dir.{Dir}
use Rattle.exp_sums.specs.Limits.{IsNear}
use Rattle.unfolding.specs.Triangle.{corner_dir}
use Rattle.unfolding.specs.Walk.{edge_dir, mirrored_dir}
use Rattle.unfolding.proofs.MirroredDirs.{letter_cases, mirrored_dir-near-m, mirrored_dir-near-n, same_dir}
use Rattle.word_search.specs.Places.{dir_at, number_of, image_of}

-- ---- numbers

pub number_back : (i : ℕ) → i < 676 → number_of (dir_at i) ≡ i
number_back i h = omega (arith, ints, h)

-- an image of three numbered directions that is near has the number that adds up from theirs
pub record IsImageNumber (p q r : ℕ) : Type 0 where
  pub enough : r ≤ p + q
  pub below : p + q - r < 676
  pub is : dir_at (p + q - r) ≡ image_of (dir_at p) (dir_at q) (dir_at r)

pub image_number : (p q r : ℕ) → p < 676 → q < 676 → r < 676 → IsNear 25 (image_of (dir_at p) (dir_at q) (dir_at r)) → IsImageNumber p q r
image_number p q r below below' below'' near = record {
  enough = omega (arith, ints, near.m, near.n);
  below = omega (arith, ints, near.m, near.n, below, below', below'');
  is = same_dir _ _ (omega (arith, ints, near.m, near.n)) (omega (arith, ints, near.m, near.n));
}

-- ---- how near the directions are

-- a letter that never stands twice in a row stands at every other place at most
sparse : (x : ℕ) (w : List ℕ) → ((k : ℕ) → suc k < length w → get_or w k 0 ≢ get_or w (suc k) 0) → 2 * count_of x w ≤ length w + 1
sparse x [] h = omega arith
sparse x (a ∷ []) h = let here = count_of-cons x a [] in grind (arith, nat_tests)
sparse x (a ∷ (b ∷ w)) h =
    let differ : a ≢ b = h 0 (omega arith) in
    let rest = sparse x w (λ i below. h (suc (suc i)) (omega (arith, below))) in
    let counts = count_of-cons x a (b ∷ w) in
    let counts' = count_of-cons x b w in
    let at_most_one : once x a + once x b ≤ 1 = grind (arith, nat_tests) in
    omega (arith, rest, counts, counts', at_most_one)

sparse_start : (x : ℕ) (w : List ℕ) (k : ℕ) → IsWord w → k ≤ length w → 2 * count_of x (take k w) ≤ k + 1
sparse_start x w k word below =
    let differ = differs_along w (omega (arith, word.even_length.at_least)) word.neighbours_differ in
    let len : length (take k w) ≡ k = omega (arith, length-take k w, below) in
    subst (λ n. 2 * count_of x (take k w) ≤ n + 1) len
    (sparse x (take k w)
    (λ i inside same.
    let next : suc i ≡ i + 1 = omega arith in
    differ.along i (omega (arith, inside, len, below))
    (sym (get_or-take k w i 0 (omega (arith, inside, len))) ∙ same ∙ get_or-take k w (suc i) 0 (omega (arith, inside, len)) ∙ ap (λ j. get_or w j 0) next)))

-- what holds of the three corners' directions
corner_dirs : (P : Dir → Type 0) → P (record { m = pos 1; n = pos 1 }) → P (record { m = negsuc 0; n = negsuc 0 }) → P (record { m = pos 1; n = negsuc 0 })
    → (c : ℕ) → P (corner_dir c)
corner_dirs P one two three c = by_tests (c == 1) (c == 2)
  where
    by_tests : (a b : Bool) → P (if a then record { m = pos 1; n = pos 1 } else if b then record { m = negsuc 0; n = negsuc 0 }
        else record { m = pos 1; n = negsuc 0 })
    by_tests true b = one
    by_tests false true = two
    by_tests false false = three

near_one : (c : ℕ) → IsNear 1 (corner_dir c)
near_one c = corner_dirs (IsNear 1) (record { m = omega arith; n = omega arith }) (record { m = omega arith; n = omega arith })
    (record { m = omega arith; n = omega arith }) c

pub near_25 : (w : List ℕ) (k c : ℕ) → IsWord w → length w ≤ 24 → k ≤ length w → IsNear 25 (mirrored_dir (take k w) (corner_dir c))
near_25 w k c word few below =
    let v = take k w in
    let letters = All-take IsLetter k w word.letters in
    let near = near_one c in
    record {
      m = omega (arith, near.m, few, below, sparse_start 2 w k word below, mirrored_dir-near-m v (corner_dir c) letters);
      n = omega (arith, near.n, few, below, sparse_start 1 w k word below, mirrored_dir-near-n v (corner_dir c) letters);
    }

-- ---- both numbers are odd

abbrev IsOdd : ℤ → Type 0
IsOdd z = (j : ℤ) × (z ≡ pos 2 *ℤ j +ℤ pos 1)

record AreOdd (d : Dir) : Type 0 where
  m : IsOdd d.m
  n : IsOdd d.n

odd_corner : (c : ℕ) → AreOdd (corner_dir c)
odd_corner c = corner_dirs AreOdd (record { m = (pos 0, refl); n = (pos 0, refl) }) (record { m = (negsuc 0, refl); n = (negsuc 0, refl) })
    (record { m = (pos 0, refl); n = (negsuc 0, refl) }) c

odd_less : (z : ℤ) → IsOdd z → IsOdd (pos 0 +ℤ neg_ℤ z)
odd_less z h = (negsuc 0 -ℤ h.0, omega (arith, ints, h.1))

odd_two_less : (z : ℤ) → IsOdd z → IsOdd (pos 2 +ℤ neg_ℤ z)
odd_two_less z h = (pos 0 -ℤ h.0, omega (arith, ints, h.1))

odd_two_under : (z : ℤ) → IsOdd z → IsOdd (negsuc 1 +ℤ neg_ℤ z)
odd_two_under z h = (negsuc 1 -ℤ h.0, omega (arith, ints, h.1))

odd_seen : (w : List ℕ) (c : ℕ) → All IsLetter w → AreOdd (mirrored_dir w (corner_dir c))
odd_seen [] c letters = odd_corner c
odd_seen (d ∷ w) c letters =
    let e = mirrored_dir w (corner_dir c) in
    let rest = odd_seen w c (All-tail IsLetter d w letters) in
    record {
      m = letter_cases (λ d. IsOdd ((edge_dir d).m +ℤ neg_ℤ e.m)) d (All-head IsLetter d w letters) (odd_less e.m rest.m) (odd_two_less e.m rest.m)
          (odd_less e.m rest.m);
      n = letter_cases (λ d. IsOdd ((edge_dir d).n +ℤ neg_ℤ e.n)) d (All-head IsLetter d w letters) (odd_two_under e.n rest.n) (odd_less e.n rest.n)
          (odd_less e.n rest.n);
    }

-- so they are numbered
pub record IsNumbered (d : Dir) : Type 0 where
  pub below : number_of d < 676
  pub is : dir_at (number_of d) ≡ d

numbered : (d : Dir) → AreOdd d → IsNear 25 d → IsNumbered d
numbered d odd near =
    let m = odd.m.1 in
    let n = odd.n.1 in
    record {
      below = omega (arith, ints, near.m, near.n, m, n);
      is = same_dir _ d (omega (arith, ints, near.m, near.n, m, n)) (omega (arith, ints, near.m, near.n, m, n));
    }

pub seen_numbered : (w : List ℕ) (k c : ℕ) → IsWord w → length w ≤ 24 → k ≤ length w → IsNumbered (mirrored_dir (take k w) (corner_dir c))
seen_numbered w k c word few below =
    numbered (mirrored_dir (take k w) (corner_dir c)) (odd_seen (take k w) c (All-take IsLetter k w word.letters)) (near_25 w k c word few below)
