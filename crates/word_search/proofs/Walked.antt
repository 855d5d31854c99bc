-- The triangles of a word by the numbers of directions, one letter after the other.
use Rattle.std.proofs.Common.{◌≡◌, refl, sym, ap, subst, ◌∙◌, ℕ, ◌+◌, ◌-◌, ◌<◌, ◌≤◌}
use Rattle.std.proofs.Common.{false, List, [], ◌∷◌, ◌++◌, map, length, take, get_or, slice_index, slice_index_or}
use Rattle.std.proofs.Common.{ℤ, pos, ◌+ℤ◌, ◌*ℤ◌, arith}
use Rattle.std.proofs.Common.{◌%◌, if◌then◌else◌, ◌==◌, lit<, zero, suc, length-take}
use Rattle.std.specs.List.{All}
use Rattle.std.proofs.lemmas.List.{length-map, take_more}
use Rattle.std.proofs.lemmas.List.Elements.{All-nil, All-cons, All-get_or}
use Rattle.std.proofs.Math.Nat.{mod-lt}
use Rattle.unfolding.specs.Corners.{upper_corner, lower_corner}
use Rattle.unfolding.proofs.MirroredDirs.{is_reversed-length}
use Rattle.edge_words.specs.Word.{IsWord}
use Rattle.exp_sums.specs.declared.direction.Dir.{Dir}
use Rattle.exp_sums.specs.FormalPoint.{terms, terms-point_of, zero_point, ◌+ₚ◌}
use Rattle.exp_sums.specs.Limits.{IsNear}
use Rattle.exp_sums.specs.Weigh.{weigh_terms}
use Rattle.exp_sums.proofs.Kept.{none_is_zero}
use Rattle.ring_solver.proofs.Whole.{ℤ_ring, ℤ_image}
use Rattle.unfolding.specs.Kept.{dirs_of}
use Rattle.unfolding.specs.Signed.{sign_of, signed_point}
use Rattle.unfolding.specs.Triangle.{IsCorner, corner_dir, next_corner, first_corner, mirrors, corner_of}
use Rattle.unfolding.specs.Walk.{is_reversed, mirrored_dir, seen_of}
use Rattle.unfolding.proofs.Crossing.{crossed_1, crossed_2, crossed_3}
use Rattle.unfolding.proofs.KeptTriangles.{dirs_of-at}
use Rattle.unfolding.proofs.MirroredDirs.{letter_cases}
use Rattle.unfolding.proofs.Seen.{corner_is_seen, centre-snoc}
use Rattle.word_search.specs.declared.place.Place.{Place}
use Rattle.word_search.specs.declared.seen.Seen.{Seen}
use Rattle.word_search.specs.Places.{AreSmall, dir_at, image_of, unit_in, place_of}
use Rattle.word_search.specs.Seen.{IsSeen}
use Rattle.word_search.proofs.Numbered.{near_25}
use Rattle.word_search.proofs.Placed.{same_place, place_moved, unit_at}

-- ---- the first triangle

weigh_none : (f : Dir → ℤ) → weigh_terms ℤ_ring ℤ_image f (terms zero_point) ≡ pos 0
weigh_none f = ap (λ p. weigh_terms ℤ_ring ℤ_image f (terms p)) (sym none_is_zero) ∙ ap (weigh_terms ℤ_ring ℤ_image f) (terms-point_of [])

pub first_seen : (units : List Place) (s : Seen) → s.centre ≡ record { x = pos 0; y = pos 0 } → s.minus ≡ false → s.dirs ≡ 351 ∷ 324 ∷ 350 ∷ []
    → IsSeen units [] s
first_seen units s centre minus dirs = record {
  centre = centre ∙ same_place _ _ (sym (weigh_none (λ d. (unit_in units d).x))) (sym (weigh_none (λ d. (unit_in units d).y)));
  minus = minus;
  dirs = ap (map dir_at) dirs;
  known = subst (All (λ i. i < 676)) (sym dirs) (All-cons (λ i. i < 676) 351 (324 ∷ 350 ∷ []) (omega arith) (All-cons (λ i. i < 676) 324 (350 ∷ [])
      (omega arith)
      (All-cons (λ i. i < 676) 350 [] (omega arith) (All-nil (λ i. i < 676)))));
}

-- ---- corners

-- the numbers of three directions
module _ (v : List ℕ) where
  number_is : (ns : List ℕ) (c z : ℕ) → map dir_at ns ≡ dirs_of v → IsCorner c → dir_at (slice_index_or ns (c - 1) z) ≡ mirrored_dir v (corner_dir c)
  number_is (a ∷ (b ∷ (k ∷ []))) c z same corner =
      letter_cases (λ c. dir_at (slice_index_or (a ∷ b ∷ k ∷ []) (c - 1) z) ≡ slice_index_or (dir_at a ∷ dir_at b ∷ dir_at k ∷ []) (c - 1) (dir_at z)) c corner
      refl refl refl
      ∙ ap (λ ds. slice_index_or ds (c - 1) (dir_at z)) same ∙ dirs_of-at v c (dir_at z) corner
  number_is [] c z same corner = absurd (omega (arith, ap length same))
  number_is (a ∷ []) c z same corner = absurd (omega (arith, ap length same))
  number_is (a ∷ (b ∷ [])) c z same corner = absurd (omega (arith, ap length same))
  number_is (a ∷ (b ∷ (k ∷ (l ∷ ns)))) c z same corner = absurd (omega (arith, ap length same))

pub three_numbers : (v ns : List ℕ) → map dir_at ns ≡ dirs_of v → length ns ≡ 3
three_numbers v ns same = sym (length-map ns dir_at) ∙ ap length same

-- the place of the direction in which a corner is seen
pub corner_unit : (units : List Place) (v : List ℕ) (s : Seen) (c y : ℕ) (z : Place) → AreSmall units → IsSeen units v s → IsCorner c
    → slice_index_or units (slice_index_or s.dirs (c - 1) y) z ≡ unit_in units (mirrored_dir v (corner_dir c))
corner_unit units v s c y z are is corner =
    let three = three_numbers v s.dirs is.dirs in
    unit_at units (slice_index_or s.dirs (c - 1) y) (mirrored_dir v (corner_dir c)) z
    (All-get_or (λ i. i < 676) s.dirs (c - 1) y (omega (arith, three, corner)) is.known) are.count (number_is v s.dirs c y is.dirs corner)

pub corner_placed : (units : List Place) (v : List ℕ) (s : Seen) (c : ℕ) (u t : Place) → IsSeen units v s → u ≡ unit_in units (mirrored_dir v (corner_dir c))
    → t.x ≡ s.centre.x +ℤ sign_of s.minus *ℤ u.x → t.y ≡ s.centre.y +ℤ sign_of s.minus *ℤ u.y → t ≡ place_of units (mirrors v (first_corner c))
corner_placed units v s c u t is unit x y =
    place_moved units (mirrors v zero_point) (is_reversed v) (mirrored_dir v (corner_dir c)) s.centre t is.centre
    (x ∙ (λ i. s.centre.x +ℤ sign_of (is.minus i) *ℤ (unit i).x)) (y ∙ (λ i. s.centre.y +ℤ sign_of (is.minus i) *ℤ (unit i).y))
    ∙ ap (place_of units) (sym (corner_is_seen v c))

-- the next centre
pub centre_placed : (units : List Place) (v : List ℕ) (d : ℕ) (s : Seen) (start u t : Place) → IsSeen units v s
    → start ≡ place_of units (mirrors v (first_corner (next_corner d))) → u ≡ unit_in units (mirrored_dir v (corner_dir (next_corner (next_corner d))))
    → t.x ≡ start.x +ℤ sign_of s.minus *ℤ u.x → t.y ≡ start.y +ℤ sign_of s.minus *ℤ u.y → t ≡ place_of units (mirrors (v ++ d ∷ []) zero_point)
centre_placed units v d s start u t is start_is unit x y =
    place_moved units (mirrors v zero_point +ₚ signed_point (seen_of v (next_corner d))) (is_reversed v)
    (mirrored_dir v (corner_dir (next_corner (next_corner d)))) start t (start_is ∙ ap (place_of units) (corner_is_seen v (next_corner d)))
    (x ∙ (λ i. start.x +ℤ sign_of (is.minus i) *ℤ (unit i).x)) (y ∙ (λ i. start.y +ℤ sign_of (is.minus i) *ℤ (unit i).y))
    ∙ ap (place_of units) (sym (centre-snoc v d))

-- ---- the directions after one more letter

pub across_1 : (v ns : List ℕ) (x z : ℕ) → map dir_at ns ≡ dirs_of v
    → dir_at x ≡ image_of (dir_at (get_or ns 1 z)) (dir_at (get_or ns 2 z)) (dir_at (get_or ns 0 z))
    → map dir_at (x ∷ get_or ns 2 z ∷ get_or ns 1 z ∷ []) ≡ dirs_of (v ++ 1 ∷ [])
across_1 v (a ∷ (b ∷ (k ∷ []))) x z same image = crossed_1 v (dir_at a ∷ dir_at b ∷ dir_at k ∷ []) (dir_at x) (dir_at z) same
    (record { m = ap (λ (d : Dir). d.m) image; n = ap (λ (d : Dir). d.n) image })
across_1 v [] x z same image = absurd (omega (arith, ap length same))
across_1 v (a ∷ []) x z same image = absurd (omega (arith, ap length same))
across_1 v (a ∷ (b ∷ [])) x z same image = absurd (omega (arith, ap length same))
across_1 v (a ∷ (b ∷ (k ∷ (l ∷ ns)))) x z same image = absurd (omega (arith, ap length same))

pub across_2 : (v ns : List ℕ) (x z : ℕ) → map dir_at ns ≡ dirs_of v
    → dir_at x ≡ image_of (dir_at (get_or ns 2 z)) (dir_at (get_or ns 0 z)) (dir_at (get_or ns 1 z))
    → map dir_at (get_or ns 2 z ∷ x ∷ get_or ns 0 z ∷ []) ≡ dirs_of (v ++ 2 ∷ [])
across_2 v (a ∷ (b ∷ (k ∷ []))) x z same image = crossed_2 v (dir_at a ∷ dir_at b ∷ dir_at k ∷ []) (dir_at x) (dir_at z) same
    (record { m = ap (λ (d : Dir). d.m) image; n = ap (λ (d : Dir). d.n) image })
across_2 v [] x z same image = absurd (omega (arith, ap length same))
across_2 v (a ∷ []) x z same image = absurd (omega (arith, ap length same))
across_2 v (a ∷ (b ∷ [])) x z same image = absurd (omega (arith, ap length same))
across_2 v (a ∷ (b ∷ (k ∷ (l ∷ ns)))) x z same image = absurd (omega (arith, ap length same))

pub across_3 : (v ns : List ℕ) (x z : ℕ) → map dir_at ns ≡ dirs_of v
    → dir_at x ≡ image_of (dir_at (get_or ns 0 z)) (dir_at (get_or ns 1 z)) (dir_at (get_or ns 2 z))
    → map dir_at (get_or ns 1 z ∷ get_or ns 0 z ∷ x ∷ []) ≡ dirs_of (v ++ 3 ∷ [])
across_3 v (a ∷ (b ∷ (k ∷ []))) x z same image = crossed_3 v (dir_at a ∷ dir_at b ∷ dir_at k ∷ []) (dir_at x) (dir_at z) same
    (record { m = ap (λ (d : Dir). d.m) image; n = ap (λ (d : Dir). d.n) image })
across_3 v [] x z same image = absurd (omega (arith, ap length same))
across_3 v (a ∷ []) x z same image = absurd (omega (arith, ap length same))
across_3 v (a ∷ (b ∷ [])) x z same image = absurd (omega (arith, ap length same))
across_3 v (a ∷ (b ∷ (k ∷ (l ∷ ns)))) x z same image = absurd (omega (arith, ap length same))

-- after the next letter
pub next_letters : (w : List ℕ) (k d : ℕ) → k < length w → get_or w k 0 ≡ d → take k w ++ d ∷ [] ≡ take (k + 1) w
next_letters w k d below letter = ap (λ e. take k w ++ e ∷ []) (sym letter) ∙ sym (take_more w k 0 below)

-- the image is near
near_image : (w : List ℕ) (k d c : ℕ) (e : Dir) → IsWord w → length w ≤ 24 → k < length w → get_or w k 0 ≡ d
    → e ≡ mirrored_dir (take k w ++ d ∷ []) (corner_dir c) → IsNear 25 e
near_image w k d c e word few below letter is =
    subst (IsNear 25) (sym (is ∙ ap (λ v. mirrored_dir v (corner_dir c)) (next_letters w k d below letter)))
    (near_25 w (k + 1) c word few (omega (arith, below)))

module _ (w : List ℕ) (k : ℕ) (word : IsWord w) (few : length w ≤ 24) (below : k < length w) where
  pub near_1 : (ns : List ℕ) (z : ℕ) → map dir_at ns ≡ dirs_of (take k w) → get_or w k 0 ≡ 1
      → IsNear 25 (image_of (dir_at (get_or ns 1 z)) (dir_at (get_or ns 2 z)) (dir_at (get_or ns 0 z)))
  near_1 (a ∷ (b ∷ (j ∷ []))) z same letter = near_image w k 1 1 _ word few below letter
      (ap (λ ds. slice_index_or ds 0 (dir_at z)) (crossed_1 (take k w) (dir_at a ∷ dir_at b ∷ dir_at j ∷ []) (image_of (dir_at b) (dir_at j) (dir_at a))
      (dir_at z) same (record { m = refl; n = refl })))
  near_1 [] z same letter = absurd (omega (arith, ap length same))
  near_1 (a ∷ []) z same letter = absurd (omega (arith, ap length same))
  near_1 (a ∷ (b ∷ [])) z same letter = absurd (omega (arith, ap length same))
  near_1 (a ∷ (b ∷ (j ∷ (l ∷ ns)))) z same letter = absurd (omega (arith, ap length same))

  pub near_2 : (ns : List ℕ) (z : ℕ) → map dir_at ns ≡ dirs_of (take k w) → get_or w k 0 ≡ 2
      → IsNear 25 (image_of (dir_at (get_or ns 2 z)) (dir_at (get_or ns 0 z)) (dir_at (get_or ns 1 z)))
  near_2 (a ∷ (b ∷ (j ∷ []))) z same letter = near_image w k 2 2 _ word few below letter
      (ap (λ ds. slice_index_or ds 1 (dir_at z)) (crossed_2 (take k w) (dir_at a ∷ dir_at b ∷ dir_at j ∷ []) (image_of (dir_at j) (dir_at a) (dir_at b))
      (dir_at z) same (record { m = refl; n = refl })))
  near_2 [] z same letter = absurd (omega (arith, ap length same))
  near_2 (a ∷ []) z same letter = absurd (omega (arith, ap length same))
  near_2 (a ∷ (b ∷ [])) z same letter = absurd (omega (arith, ap length same))
  near_2 (a ∷ (b ∷ (j ∷ (l ∷ ns)))) z same letter = absurd (omega (arith, ap length same))

  pub near_3 : (ns : List ℕ) (z : ℕ) → map dir_at ns ≡ dirs_of (take k w) → get_or w k 0 ≡ 3
      → IsNear 25 (image_of (dir_at (get_or ns 0 z)) (dir_at (get_or ns 1 z)) (dir_at (get_or ns 2 z)))
  near_3 (a ∷ (b ∷ (j ∷ []))) z same letter = near_image w k 3 3 _ word few below letter
      (ap (λ ds. slice_index_or ds 2 (dir_at z)) (crossed_3 (take k w) (dir_at a ∷ dir_at b ∷ dir_at j ∷ []) (image_of (dir_at a) (dir_at b) (dir_at j))
      (dir_at z) same (record { m = refl; n = refl })))
  near_3 [] z same letter = absurd (omega (arith, ap length same))
  near_3 (a ∷ []) z same letter = absurd (omega (arith, ap length same))
  near_3 (a ∷ (b ∷ [])) z same letter = absurd (omega (arith, ap length same))
  near_3 (a ∷ (b ∷ (j ∷ (l ∷ ns)))) z same letter = absurd (omega (arith, ap length same))

-- ---- the ends of the next edge

-- a triangle of odd number has the first end on the left, one of even number the second
module _ (units : List Place) (w : List ℕ) (k : ℕ) (s : Seen) (start end : Place) (below : k < length w) (is : IsSeen units (take k w) s)
    (start_is : start ≡ place_of units (corner_of w k (next_corner (slice_index w k))))
    (end_is : end ≡ place_of units (corner_of w k (next_corner (next_corner (slice_index w k))))) where
  abbrev after : ℕ
  after = next_corner (slice_index w k)

  minus_is : s.minus ≡ (k % 2 == 1)
  minus_is = is.minus ∙ is_reversed-length (take k w) ∙ ap (λ n. n % 2 == 1) (omega (arith, length-take k w, below))

  back : k ≡ k + 1 - 1
  back = omega arith

  pub upper_placed : (if s.minus then start else end) ≡ place_of units (upper_corner w (k + 1))
  upper_placed =
      subst (λ j. (if s.minus then start else end) ≡ place_of units (let a = next_corner (slice_index w j) in
      corner_of w j (if j % 2 == 0 then next_corner a else a))) back
      (ap (λ b. if b then start else end) minus_is ∙ by_parity (k % 2) (mod-lt k (lit< tt)))
    where
      by_parity : (r : ℕ) → r < 2 → (if r == 1 then start else end) ≡ place_of units (corner_of w k (if r == 0 then next_corner after else after))
      by_parity zero h = end_is
      by_parity (suc zero) h = start_is
      by_parity (suc (suc r)) h = absurd (omega (arith, h))

  pub lower_placed : (if s.minus then end else start) ≡ place_of units (lower_corner w (k + 1))
  lower_placed =
      subst (λ j. (if s.minus then end else start) ≡ place_of units (let a = next_corner (slice_index w j) in
      corner_of w j (if j % 2 == 0 then a else next_corner a))) back
      (ap (λ b. if b then end else start) minus_is ∙ by_parity (k % 2) (mod-lt k (lit< tt)))
    where
      by_parity : (r : ℕ) → r < 2 → (if r == 1 then end else start) ≡ place_of units (corner_of w k (if r == 0 then after else next_corner after))
      by_parity zero h = start_is
      by_parity (suc zero) h = end_is
      by_parity (suc (suc r)) h = absurd (omega (arith, h))
