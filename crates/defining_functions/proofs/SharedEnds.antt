-- The end that an edge shares with the edge before.
use Rattle.std.proofs.Common.{◌≡◌, ◌≢◌, ℕ, ◌+◌, ◌-◌, ◌*◌, ◌<◌, ◌%◌, ◌==◌, List, length, slice_index, Bool, true, false, not, if◌then◌else◌}
use Rattle.std.proofs.Common.{sym, ap, subst, ◌∙◌, ◌⊎◌, inl, inr, arith}
use Rattle.std.proofs.lemmas.Bool.Decides.{nat_tests}
use Rattle.std.proofs.lemmas.Nat.{mod-mul-add}
use Rattle.edge_words.specs.Letters.{IsLetter, IsPlace, letter_at, letter_after}
use Rattle.edge_words.specs.Word.{IsWord}
use Rattle.exp_sums.specs.FormalPoint.{FormalPoint}
use Rattle.unfolding.specs.Triangle.{next_corner, corner_of}
use Rattle.unfolding.specs.Corners.{upper_corner, lower_corner}
use Rattle.unfolding.proofs.Mirrors.{mirrored_from_start, mirrored_from_end}

-- the other end of one edge is the near end of the other
ends_meet : (d e : ℕ) → IsLetter d → IsLetter e → d ≢ e
    → (next_corner e ≡ next_corner (next_corner d)) ⊎ (next_corner (next_corner e) ≡ next_corner d)
ends_meet d e h k n = grind (arith, nat_tests)

-- neighbours in a word differ
neighbours_differ : (w : List ℕ) (i : ℕ) → IsWord w → 0 < i → IsPlace w (i + 1) → letter_at w i ≢ letter_at w (i + 1)
neighbours_differ w i word some place same =
    let below : i < length w = omega (arith, place.1) in
    let product : i ≡ 0 * length w + i = omega arith in
    let next : i % length w ≡ i = ap (λ n. n % length w) product ∙ mod-mul-add 0 (length w) i below in
    let index : i + 1 - 1 ≡ i % length w = omega (arith, next) in
    word.neighbours_differ i (omega (arith, some), omega (arith, below)) (same ∙ ap (λ j. slice_index w j) index)

-- what the triangle of number j calls its ends, where its number is even or not
abbrev upper_of : (ℕ → FormalPoint) → ℕ → Bool → FormalPoint
upper_of corner d even = corner (if even then next_corner (next_corner d) else next_corner d)

abbrev lower_of : (ℕ → FormalPoint) → ℕ → Bool → FormalPoint
lower_of corner d even = corner (if even then next_corner d else next_corner (next_corner d))

-- p and q are the corners of two triangles that share edge d, and e is the edge that is crossed next
module _ (p q : ℕ → FormalPoint) (d e : ℕ) (start : q (next_corner d) ≡ p (next_corner d))
    (end : q (next_corner (next_corner d)) ≡ p (next_corner (next_corner d))) where
  shared_by : (even : Bool) → (next_corner e ≡ next_corner (next_corner d)) ⊎ (next_corner (next_corner e) ≡ next_corner d)
      → (upper_of q e (not even) ≡ upper_of p d even) ⊎ (lower_of q e (not even) ≡ lower_of p d even)
  shared_by true (inl is) = inl (ap q is ∙ end)
  shared_by true (inr is) = inr (ap q is ∙ start)
  shared_by false (inl is) = inr (ap q is ∙ end)
  shared_by false (inr is) = inl (ap q is ∙ start)

other_parity : (i : ℕ) → 0 < i → not ((i - 1) % 2 == 0) ≡ (i % 2 == 0)
other_parity i some = grind (arith, nat_tests)

pub ends_shared : (w : List ℕ) (i : ℕ) → IsWord w → 0 < i → IsPlace w (i + 1)
    → (upper_corner w (i + 1) ≡ upper_corner w i) ⊎ (lower_corner w (i + 1) ≡ lower_corner w i)
ends_shared w i word some place =
    let before : IsPlace w i = (omega (arith, some), omega (arith, place.1)) in
    let here : i + 1 - 1 ≡ i = omega arith in
    let d = letter_at w i in
    let e = letter_at w (i + 1) in
    let d_is : IsLetter d = word.letters (i - 1) 0 (omega (arith, before)) in
    let e_is : IsLetter e = word.letters (i + 1 - 1) 0 (omega (arith, place)) in
    let meet = ends_meet d e d_is e_is (neighbours_differ w i word some place) in
    let shared = shared_by (corner_of w (i - 1)) (corner_of w i) d e (mirrored_from_start w i before).stands (mirrored_from_end w i before).stands
    ((i - 1) % 2 == 0) meet in
    subst
    (λ j. (upper_of (corner_of w j) e (j % 2 == 0) ≡ upper_corner w i) ⊎ (lower_of (corner_of w j) e (j % 2 == 0) ≡ lower_corner w i))
    (sym here)
    (subst (λ even. (upper_of (corner_of w i) e even ≡ upper_corner w i) ⊎ (lower_of (corner_of w i) e even ≡ lower_corner w i))
    (other_parity i some) shared)
