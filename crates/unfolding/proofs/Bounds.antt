-- How heavy centres and corners are, and how far their directions reach.
use Rattle.std.proofs.Common.{◌≡◌, ◌≢◌, ℕ, zero, suc, ◌+◌, ◌*◌, ◌-◌, ◌%◌, ◌<◌, ◌≤◌, ◌==◌, Bool, true, false, List, [], ◌∷◌, length, take, get_or, pos}
use Rattle.std.proofs.Common.{negsuc, if◌then◌else◌, refl, sym, ap, ap₂, subst, ◌∙◌, arith, length-take, add-zero, zero-add, inl, inr}
use Rattle.std.proofs.Math.Seq.{take-suc}
use Rattle.std.proofs.lemmas.Bool.{cases_lt}
use Rattle.std.proofs.lemmas.Bool.Decides.{nat_tests}
use Rattle.std.proofs.lemmas.Nat.{mod-mul-add}
use Rattle.std.proofs.lemmas.List.{get_or-take}
use Rattle.std.proofs.lemmas.List.Elements.{All-take}
use Rattle.std.specs.List.{All}
use Rattle.ring_solver.specs.Expression.{var, num, opp, ◌⊞◌, ◌⊟◌}
use Rattle.ring_solver.proofs.Solver.{ring}
use Rattle.edge_words.specs.Letters.{IsLetter, IsPlace}
use Rattle.edge_words.specs.Word.{IsWord, NeighboursDiffer}
use Rattle.edge_words.specs.Stable.{count_of}
use Rattle.exp_sums.specs.declared.direction.Dir.{Dir}
use Rattle.edge_words.proofs.Balance.{once, count_of-cons, count_at_most}
use Rattle.exp_sums.specs.FormalPoint.{monomial, zero_point, negative, ◌+ₚ◌, ◌-ₚ◌}
use Rattle.exp_sums.specs.Limits.{weight, IsNear, IsWithin}
use Rattle.exp_sums.proofs.PointRing.{point_ring}
use Rattle.exp_sums.proofs.Weights.{weight-+ₚ, weight-negative, weight_difference, weight-monomial, weight-zero_point}
use Rattle.exp_sums.proofs.Within.{IsWithin-monomial, IsWithin-zero_point, IsWithin-+ₚ}
use Rattle.unfolding.specs.Triangle.{next_corner, corner_dir, mirrors, corner_of, centre_of}
use Rattle.unfolding.specs.Corners.{CentreLaw}
use Rattle.unfolding.specs.Signed.{sign_of, signed_point}
use Rattle.unfolding.specs.declared.signed.Signed.{Signed}
use Rattle.unfolding.specs.Walk.{mirrored_dir, seen_of}
use Rattle.unfolding.proofs.MirroredDirs.{mirrored_dir-near-m, mirrored_dir-near-n}
use Rattle.unfolding.proofs.Seen.{corner_is_seen, centre-snoc}

-- ---- how far directions reach
-- no entry equals the one after it
abbrev EntriesDiffer : List ℕ → Type 0
EntriesDiffer w = (i : ℕ) → suc i < length w → get_or w i 0 ≢ get_or w (suc i) 0

-- a number that never stands twice in a row stands at every other place at most
sparse : (x : ℕ) (w : List ℕ) → EntriesDiffer w → 2 * count_of x w ≤ length w + 1
sparse x [] h = omega arith
sparse x (a ∷ []) h = let here = count_of-cons x a [] in grind (arith, nat_tests)
sparse x (a ∷ (b ∷ w)) h =
    let differ : a ≢ b = h 0 (omega arith) in
    let rest = sparse x w (λ i below. h (suc (suc i)) (omega (arith, below))) in
    let counts = count_of-cons x a (b ∷ w) in
    let counts' = count_of-cons x b w in
    let at_most_one : once x a + once x b ≤ 1 = grind (arith, nat_tests) in
    omega (arith, rest, counts, counts', at_most_one)

-- the first letters of a word
entries_of_word : (w : List ℕ) (k : ℕ) → NeighboursDiffer w → k ≤ length w → EntriesDiffer (take k w)
entries_of_word w k h below i inside same =
    let in_w : suc i < k = omega (arith, inside, length-take k w) in
    let next : ℕ = suc i in
    let small : next < length w = omega (arith, in_w, below) in
    let product : next ≡ 0 * length w + next = omega arith in
    let next_is : next % length w ≡ next = ap (λ n. n % length w) product ∙ mod-mul-add 0 (length w) next small in
    let index : next - 1 ≡ i = omega arith in
    let here : get_or w i 0 ≡ get_or w next 0 = sym (get_or-take k w i 0 (omega (arith, in_w))) ∙ same ∙ get_or-take k w next 0 in_w in
    h next (omega arith, omega (arith, small)) (ap (λ j. get_or w j 0) index ∙ here ∙ ap (λ j. get_or w j 0) (sym next_is))

-- both numbers of a corner's direction are at most 1
corner_dir_near : (c : ℕ) → IsNear 1 (corner_dir c)
corner_dir_near c = by_tests (c == 1) (c == 2)
  where
    by_tests : (a b : Bool) → IsNear 1 (if a then record { m = pos 1; n = pos 1 } else if b then record { m = negsuc 0; n = negsuc 0 } else record
        { m = pos 1; n = negsuc 0 })
    by_tests true b = record { m = omega arith; n = omega arith }
    by_tests false true = record { m = omega arith; n = omega arith }
    by_tests false false = record { m = omega arith; n = omega arith }

-- after each of its letters, the corners of a list are seen near
abbrev pub IsSeenNear : List ℕ → Type 0
IsSeenNear w = (k c : ℕ) → k ≤ length w → IsNear 65 (mirrored_dir (take k w) (corner_dir c))

-- so it is with few letters, whatever they are
pub few_seen_near : (w : List ℕ) → All IsLetter w → length w ≤ 32 → IsSeenNear w
few_seen_near w letters few k c below =
    let v = take k w in
    let of_v = All-take IsLetter k w letters in
    let short : length v ≤ 32 = omega (arith, length-take k w, few) in
    let near = corner_dir_near c in
    record {
      m = omega (arith, near.m, short, count_at_most 2 v, mirrored_dir-near-m v (corner_dir c) of_v);
      n = omega (arith, near.n, short, count_at_most 1 v, mirrored_dir-near-n v (corner_dir c) of_v);
    }

-- a corner as it is seen from the centre
pub seen_near : (w : List ℕ) (k c : ℕ) → IsWord w → k ≤ length w → IsNear 65 (mirrored_dir (take k w) (corner_dir c))
seen_near w k c word below =
    let v = take k w in
    let letters = All-take IsLetter k w word.letters in
    let entries = entries_of_word w k word.neighbours_differ below in
    let short : length v ≤ 64 = omega (arith, length-take k w, word.even_length.at_most) in
    let near = corner_dir_near c in
    record {
      m = omega (arith, near.m, short, sparse 2 v entries, mirrored_dir-near-m v (corner_dir c) letters);
      n = omega (arith, near.n, short, sparse 1 v entries, mirrored_dir-near-n v (corner_dir c) letters);
    }

-- ---- centres and corners
-- the next centre
pub centre-next : (w : List ℕ) (k : ℕ) → k < length w →
    centre_of w (suc k) ≡ centre_of w k +ₚ signed_point (seen_of (take k w) (next_corner (get_or w k 0))) +ₚ signed_point
    (seen_of (take k w) (next_corner (next_corner (get_or w k 0))))
centre-next w k h = ap (λ v. mirrors v zero_point) (take-suc w k 0 h) ∙ centre-snoc (take k w) (get_or w k 0)

-- and the same by the ends of the crossed edge
pub centre_law : CentreLaw
centre_law w k place =
    let j = k - 1 in
    let k_is : k ≡ suc j = omega (arith, place) in
    let v = take j w in
    let e = next_corner (get_or w j 0) in
    let f = next_corner e in
    let o = centre_of w j in
    let s = signed_point (seen_of v e) in
    let s' = signed_point (seen_of v f) in
    ap (centre_of w) k_is
    ∙ centre-next w j (omega (arith, place))
    ∙ ring point_ring (o ∷ s ∷ s' ∷ []) (var 0 ⊞ var 1 ⊞ var 2) ((var 0 ⊞ var 1) ⊞ (var 0 ⊞ var 2) ⊟ var 0) refl
    ∙ sym (ap₂ (λ p q. p +ₚ q -ₚ o) (corner_is_seen v e) (corner_is_seen v f))

-- a signed direction weighs 1
pub weight-signed : (b : Bool) (d : Dir) → weight (monomial (sign_of b) d) ≤ 1
weight-signed true d = omega (arith, weight-monomial (sign_of true) d)
weight-signed false d = omega (arith, weight-monomial (sign_of false) d)

weight-signed_point : (s : Signed) → weight (signed_point s) ≤ 1
weight-signed_point s = weight-signed s.minus s.dir

-- j crossings move the centre by 2j signed directions
weight-moved : (w : List ℕ) (i j : ℕ) → i + j ≤ length w → weight (centre_of w (i + j) -ₚ centre_of w i) ≤ 2 * j
weight-moved w i zero h =
    let nowhere : centre_of w (i + 0) -ₚ centre_of w i ≡ zero_point =
    ap (λ k. centre_of w k -ₚ centre_of w i) (add-zero i) ∙ ring point_ring (centre_of w i ∷ []) (var 0 ⊟ var 0) (num 0) refl in
    rw nowhere (omega (arith, weight-zero_point))
weight-moved w i (suc j) h =
    let k = i + j in
    let d = get_or w k 0 in
    let s = signed_point (seen_of (take k w) (next_corner d)) in
    let s' = signed_point (seen_of (take k w) (next_corner (next_corner d))) in
    let k_is : i + suc j ≡ suc k = omega arith in
    let moved : centre_of w (i + suc j) -ₚ centre_of w i ≡ (centre_of w k -ₚ centre_of w i) +ₚ s +ₚ s' =
    ap (λ n. centre_of w n -ₚ centre_of w i) k_is
    ∙ ap (λ z. z -ₚ centre_of w i) (centre-next w k (omega (arith, h)))
    ∙ ring point_ring (centre_of w k ∷ s ∷ s' ∷ centre_of w i ∷ []) (var 0 ⊞ var 1 ⊞ var 2 ⊟ var 3) (var 0 ⊟ var 3 ⊞ var 1 ⊞ var 2) refl in
    let sum = weight-+ₚ ((centre_of w k -ₚ centre_of w i) +ₚ s) s' in
    let sum' = weight-+ₚ (centre_of w k -ₚ centre_of w i) s in
    let rest = weight-moved w i j (omega (arith, h)) in
    rw moved (omega (
      arith,
      sum,
      sum',
      rest,
      weight-signed_point (seen_of (take k w) (next_corner d)),
      weight-signed_point
          (seen_of (take k w) (next_corner (next_corner d))),
    ))

-- so two centres are no further apart than the crossings between them
weight-apart : (w : List ℕ) (i j : ℕ) → i ≤ length w → j ≤ length w → weight (centre_of w i -ₚ centre_of w j) ≤ 2 * (i - j) + 2 * (j - i)
weight-apart w i j h k =
    elim (cases_lt j i) [
      | inl below ↦
          let i_is : i ≡ j + (i - j) = omega (arith, below) in
          let moved = weight-moved w j (i - j) (omega (arith, h, below)) in
          let there : weight (centre_of w i -ₚ centre_of w j) ≤ 2 * (i - j) = subst (λ n. weight (centre_of w n -ₚ centre_of w j) ≤ 2 * (i - j))
          (sym i_is) moved in
          omega (arith, there)
      | inr below ↦
          let j_is : j ≡ i + (j - i) = omega (arith, below) in
          let moved = weight-moved w i (j - i) (omega (arith, k, below)) in
          let back : weight (centre_of w j -ₚ centre_of w i) ≤ 2 * (j - i) = subst (λ n. weight (centre_of w n -ₚ centre_of w i) ≤ 2 * (j - i))
          (sym j_is) moved in
          let swapped : centre_of w i -ₚ centre_of w j ≡ negative (centre_of w j -ₚ centre_of w i) =
          ring point_ring (centre_of w i ∷ centre_of w j ∷ []) (var 0 ⊟ var 1) (opp (var 1 ⊟ var 0)) refl in
          rw swapped (omega (arith, back, weight-negative (centre_of w j -ₚ centre_of w i)))
    ]

pub weight-corners_apart : (w : List ℕ) (i j c e : ℕ) → i ≤ length w → j ≤ length w
    → weight (corner_of w i c -ₚ corner_of w j e) ≤ 2 * (i - j) + 2 * (j - i) + 2
weight-corners_apart w i j c e h k =
    let s = signed_point (seen_of (take i w) c) in
    let s' = signed_point (seen_of (take j w) e) in
    let parts : corner_of w i c -ₚ corner_of w j e ≡ (centre_of w i -ₚ centre_of w j) +ₚ (s -ₚ s') =
    ap₂ ◌-ₚ◌ (corner_is_seen (take i w) c) (corner_is_seen (take j w) e)
    ∙ ring point_ring (centre_of w i ∷ s ∷ centre_of w j ∷ s' ∷ []) (var 0 ⊞ var 1 ⊟ (var 2 ⊞ var 3)) (var 0 ⊟ var 2 ⊞ (var 1 ⊟ var 3)) refl in
    rw parts
    (omega (
      arith,
      weight-+ₚ (centre_of w i -ₚ centre_of w j) (s -ₚ s'),
      weight_difference s s',
      weight-apart w i j h k,
      weight-signed_point (seen_of (take i w) c),
      weight-signed_point (seen_of (take j w) e),
    ))

-- the weights of centres and corners
pub weight-centre : (w : List ℕ) (k : ℕ) → k ≤ length w → weight (centre_of w k) ≤ 2 * k
weight-centre w k h =
    let from_origin : centre_of w k ≡ centre_of w k -ₚ zero_point = ring point_ring (centre_of w k ∷ []) (var 0) (var 0 ⊟ num 0) refl in
    rw from_origin (subst (λ n. weight (centre_of w n -ₚ zero_point) ≤ 2 * k) (zero-add k) (weight-moved w 0 k (omega (arith, h))))

pub weight-corner : (w : List ℕ) (k c : ℕ) → k ≤ length w → weight (corner_of w k c) ≤ 2 * k + 1
weight-corner w k c h =
    rw (corner_is_seen (take k w) c)
    (omega (arith, weight-+ₚ (centre_of w k) (signed_point (seen_of (take k w) c)), weight-centre w k h, weight-signed_point (seen_of (take k w) c)))

-- the directions of centres and corners
within-signed : (w : List ℕ) (k c : ℕ) → IsSeenNear w → k ≤ length w → IsWithin 65 (signed_point (seen_of (take k w) c))
within-signed w k c near h = IsWithin-monomial 65 _ (mirrored_dir (take k w) (corner_dir c)) (near k c h)

pub within_seen : (w : List ℕ) (k : ℕ) → IsSeenNear w → k ≤ length w → IsWithin 65 (centre_of w k)
within_seen w zero near h = IsWithin-zero_point 65
within_seen w (suc k) near h =
    let below : k < length w = omega (arith, h) in
    let d = get_or w k 0 in
    let s = signed_point (seen_of (take k w) (next_corner d)) in
    let s' = signed_point (seen_of (take k w) (next_corner (next_corner d))) in
    subst (IsWithin 65) (sym (centre-next w k below))
    (IsWithin-+ₚ 65 (centre_of w k +ₚ s) s'
    (IsWithin-+ₚ 65 (centre_of w k) s (within_seen w k near (omega (arith, h))) (within-signed w k (next_corner d) near (omega (arith, h))))
    (within-signed w k (next_corner (next_corner d)) near (omega (arith, h))))

pub within-centre : (w : List ℕ) (k : ℕ) → IsWord w → k ≤ length w → IsWithin 65 (centre_of w k)
within-centre w k word h = within_seen w k (λ j c below. seen_near w j c word below) h

pub within-corner : (w : List ℕ) (k c : ℕ) → IsWord w → k ≤ length w → IsWithin 65 (corner_of w k c)
within-corner w k c word h =
    subst (IsWithin 65) (sym (corner_is_seen (take k w) c))
    (IsWithin-+ₚ 65 (centre_of w k) (signed_point (seen_of (take k w) c)) (within-centre w k word h)
    (within-signed w k c (λ j e below. seen_near w j e word below) h))

-- an end of one edge and an end of another
pub ends_apart : (w : List ℕ) (k l c e : ℕ) → IsWord w → IsPlace w k → IsPlace w l → weight (corner_of w (k - 1) c -ₚ corner_of w (l - 1) e) ≤ 128
ends_apart w k l c e word h h' =
    let apart = weight-corners_apart w (k - 1) (l - 1) c e (omega (arith, h)) (omega (arith, h')) in
    omega (arith, apart, h, h', word.even_length.at_most)
