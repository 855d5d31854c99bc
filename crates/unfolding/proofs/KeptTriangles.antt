-- Triangles as they are kept: the limits of the sums in them, and that they are the triangles of a word.
use Rattle.std.proofs.Common.{◌≡◌, ℕ, ◌+◌, ◌-◌, ◌*◌, ◌%◌, ◌==◌, ◌≤◌, Bool, true, false, not, List, [], ◌∷◌, ◌++◌, slice_index_or, ℤ, w64, to_z, of_z}
use Rattle.std.proofs.Common.{refl, sym, ap, ap₂, subst, ◌∙◌, ◌<◌, length, take, length-append, length-take, get_or, add-one, inl, inr, arith}
use Rattle.std.proofs.Math.ListN.{get_or-append}
use Rattle.std.proofs.Math.Seq.{get_or-append_seam, take-suc}
use Rattle.std.proofs.lemmas.Bool.{cases_lt}
use Rattle.std.specs.List.{All}
use Rattle.edge_words.specs.Letters.{IsLetter}
use Rattle.edge_words.specs.Word.{IsWord}
use Rattle.exp_sums.specs.declared.direction.Dir.{Dir}
use Rattle.exp_sums.specs.FormalPoint.{FormalPoint, monomial, zero_point, ◌+ₚ◌}
use Rattle.exp_sums.specs.Limits.{weight, IsNear, IsWithin, IsWithinLimits}
use Rattle.exp_sums.proofs.Weights.{weight-+ₚ, weight-zero_point}
use Rattle.exp_sums.proofs.Within.{IsWithin-weaker, IsWithin-monomial, IsWithin-+ₚ, IsWithin-zero_point}
use Rattle.unfolding.specs.declared.triangle.Triangle.{Triangle}
use Rattle.unfolding.specs.Triangle.{IsCorner, next_corner, corner_dir, first_corner, mirrors, corner_of, centre_of}
use Rattle.unfolding.specs.Signed.{sign_of}
use Rattle.unfolding.specs.Walk.{is_reversed, mirrored_dir}
use Rattle.unfolding.specs.Kept.{dirs_of, triangle_of, IsSmall, AreTrianglesOf, IsUnfolding}
use Rattle.unfolding.proofs.MirroredDirs.{letter_cases, is_reversed-length}
use Rattle.unfolding.proofs.Seen.{corner_is_seen, centre-snoc}
use Rattle.unfolding.proofs.Crossing.{All-three}
use Rattle.unfolding.proofs.Bounds.{IsSeenNear, few_seen_near, weight-signed, seen_near, weight-centre, within_seen, within-centre}

-- a sum that begins at the origin
pub weight-origin : (p : FormalPoint) → p ≡ zero_point → weight p ≡ 0
weight-origin p e = ap weight e ∙ weight-zero_point

pub within-origin : (b : ℕ) (p : FormalPoint) → p ≡ zero_point → IsWithin b p
within-origin b p e = subst (IsWithin b) (sym e) (IsWithin-zero_point b)

-- a sign fits its type
pub sign_read : (b : Bool) (z : ℤ) → z ≡ sign_of b → to_z w64 (of_z w64 z) ≡ sign_of b
sign_read true z e = ap (λ z. to_z w64 (of_z w64 z)) e
sign_read false z e = ap (λ z. to_z w64 (of_z w64 z)) e

-- a small sum and a signed direction more are within the limits
pub moved_in_limits : (p q : FormalPoint) (b : Bool) (d : Dir) → p ≡ q → weight q ≤ 1000 → IsWithin 1000 q → IsNear 1000 d
    → IsWithinLimits (p +ₚ monomial (sign_of b) d)
moved_in_limits p q b d e light within near =
    subst (λ p. IsWithinLimits (p +ₚ monomial (sign_of b) d)) (sym e)
    (record {
      near = IsWithin-weaker 1000 4096 (q +ₚ monomial (sign_of b) d) (omega arith)
          (IsWithin-+ₚ 1000 q (monomial (sign_of b) d) within (IsWithin-monomial 1000 (sign_of b) d near));
      light = omega (arith, light, weight-+ₚ q (monomial (sign_of b) d), weight-signed b d);
    })

-- the triangle round a centre, with its corners as they are seen from there
pub round_is : (w : List ℕ) (centre : FormalPoint) (minus : Bool) (ds : List Dir) (z : Dir) (a b c : FormalPoint) →
    centre ≡ mirrors w zero_point → minus ≡ is_reversed w → ds ≡ dirs_of w →
    a ≡ centre +ₚ monomial (sign_of minus) (slice_index_or ds 0 z) →
    b ≡ centre +ₚ monomial (sign_of minus) (slice_index_or ds 1 z) →
    c ≡ centre +ₚ monomial (sign_of minus) (slice_index_or ds 2 z) →
    record { centre = centre; minus = minus; dirs = ds; corners = a ∷ b ∷ c ∷ [] } ≡ triangle_of w
round_is w centre minus ds z a b c at_centre reversed seen first second third =
    let corner_is : (i k : ℕ) (p : FormalPoint) → p ≡ centre +ₚ monomial (sign_of minus) (slice_index_or ds i z)
    → slice_index_or (dirs_of w) i z ≡ mirrored_dir w (corner_dir k) → p ≡ mirrors w (first_corner k) =
    λ i k p here dir.
    here
    ∙ (λ j. at_centre j +ₚ monomial (sign_of (reversed j)) (slice_index_or (seen j) i z))
    ∙ ap (λ d. mirrors w zero_point +ₚ monomial (sign_of (is_reversed w)) d) dir
    ∙ sym (corner_is_seen w k) in
    let one = corner_is 0 1 a first refl in
    let two = corner_is 1 2 b second refl in
    let three = corner_is 2 3 c third refl in
    λ j. record { centre = at_centre j; minus = reversed j; dirs = seen j; corners = one j ∷ two j ∷ three j ∷ [] }

-- a signed direction more
pub moved_light : (n : ℕ) (p q : FormalPoint) (b : Bool) (d : Dir) → p ≡ q +ₚ monomial (sign_of b) d → weight q ≤ n → weight p ≤ n + 1
moved_light n p q b d e h = rw e (omega (arith, h, weight-+ₚ q (monomial (sign_of b) d), weight-signed b d))

pub moved_within : (n : ℕ) (p q : FormalPoint) (b : Bool) (d : Dir) → p ≡ q +ₚ monomial (sign_of b) d → IsWithin n q → IsNear n d → IsWithin n p
moved_within n p q b d e h k = subst (IsWithin n) (sym e) (IsWithin-+ₚ n q (monomial (sign_of b) d) h (IsWithin-monomial n (sign_of b) d k))

-- the direction of a corner
pub dirs_of-at : (w : List ℕ) (c : ℕ) (z : Dir) → IsCorner c → slice_index_or (dirs_of w) (c - 1) z ≡ mirrored_dir w (corner_dir c)
dirs_of-at w c z h = letter_cases (λ c. slice_index_or (dirs_of w) (c - 1) z ≡ mirrored_dir w (corner_dir c)) c h refl refl refl

pub is_reversed-snoc : (w : List ℕ) (d : ℕ) → is_reversed (w ++ d ∷ []) ≡ not (is_reversed w)
is_reversed-snoc [] d = refl
is_reversed-snoc (x ∷ w) d = ap not (is_reversed-snoc w d)

-- the centre after one more crossing
pub next_centre_is : (w : List ℕ) (d start end : ℕ) (t : Triangle) (z z' : Dir) (half_way centre : FormalPoint) →
    start ≡ next_corner d → end ≡ next_corner start → IsCorner start → IsCorner end → t ≡ triangle_of w →
    half_way ≡ t.centre +ₚ monomial (sign_of t.minus) (slice_index_or t.dirs (start - 1) z) →
    centre ≡ half_way +ₚ monomial (sign_of t.minus) (slice_index_or t.dirs (end - 1) z') →
    centre ≡ mirrors (w ++ d ∷ []) zero_point
next_centre_is w d start end t z z' half_way centre start_is end_is from to same first second =
    let at : (c : ℕ) → FormalPoint = λ c. monomial (sign_of (is_reversed w)) (mirrored_dir w (corner_dir c)) in
    let dir_at : (c : ℕ) (z : Dir) → IsCorner c → monomial (sign_of t.minus) (slice_index_or t.dirs (c - 1) z) ≡ at c =
    λ c z h.
    (λ i. monomial (sign_of (same i).minus) (slice_index_or (same i).dirs (c - 1) z))
    ∙ ap (monomial (sign_of (is_reversed w))) (dirs_of-at w c z h) in
    second
    ∙ ap₂ ◌+ₚ◌ (first ∙ ap₂ ◌+ₚ◌ (λ i. (same i).centre) (dir_at start z from)) (dir_at end z' to)
    ∙ ap₂ (λ c e. mirrors w zero_point +ₚ at c +ₚ at e) start_is (end_is ∙ ap next_corner start_is)
    ∙ sym (centre-snoc w d)

-- triangles whose corners are seen near are small
small_seen : (w : List ℕ) (k : ℕ) → IsSeenNear w → length w ≤ 64 → k ≤ length w → IsSmall (triangle_of (take k w))
small_seen w k near short h = record {
  light = omega (arith, weight-centre w k h, short);
  within = within_seen w k near h;
  near = All-three (IsNear 65) _ _ _ (near k 1 h) (near k 2 h) (near k 3 h);
}

-- the triangles of a word are small
pub small_triangle : (w : List ℕ) (k : ℕ) → IsWord w → k ≤ length w → IsSmall (triangle_of (take k w))
small_triangle w k word h = small_seen w k (λ j c below. seen_near w j c word below) word.even_length.at_most h

-- and those of a few letters
pub small_among_few : (w : List ℕ) (k : ℕ) → All IsLetter w → length w ≤ 32 → k ≤ length w → IsSmall (triangle_of (take k w))
small_among_few w k letters few h = small_seen w k (few_seen_near w letters few) (omega (arith, few)) h

-- the triangle over the next letter
pub across_is : (w : List ℕ) (k : ℕ) (t : Triangle) → k < length w → t ≡ triangle_of (take k w ++ get_or w k 0 ∷ []) → t ≡ triangle_of (take (k + 1) w)
across_is w k t below is = is ∙ ap triangle_of (sym (take-suc w k 0 below) ∙ ap (λ j. take j w) (sym (add-one k)))

-- one triangle more
pub triangles-snoc : (w : List ℕ) (k : ℕ) (ts : List Triangle) (t : Triangle) → AreTrianglesOf w k ts → t ≡ triangle_of (take (k + 1) w)
    → AreTrianglesOf w (k + 1) (ts ++ t ∷ [])
triangles-snoc w k ts t h is = record {
  count = omega (arith, h.count, length-append ts (t ∷ []));
  each = λ j z below. elim (cases_lt j (k + 1)) [
    | inl earlier ↦ get_or-append ts (t ∷ []) z j (omega (arith, earlier, h.count)) ∙ h.each j z (omega (arith, earlier))
    | inr last ↦
        let j_is : j ≡ length ts = omega (arith, last, below, h.count) in
        let end : j ≡ k + 1 = omega (arith, last, below) in
        ap (λ i. slice_index_or (ts ++ t ∷ []) i z) j_is ∙ get_or-append_seam ts t [] z ∙ is ∙ ap (λ i. triangle_of (take i w)) (sym end)
  ];
}

-- ---- what is kept, read
-- triangle k of what is kept for a word
pub kept_triangle : (w v : List ℕ) (ts : List Triangle) (k : ℕ) (t : Triangle) → w ≡ v → IsUnfolding w ts → k ≤ length v → t ≡ slice_index_or ts k t
    → t ≡ triangle_of (take k v)
kept_triangle w v ts k t same h below here =
    here ∙ h.triangles.each k t (subst (λ u. k ≤ length u) (sym same) below) ∙ ap (λ u. triangle_of (take k u)) same

pub centre_light : (w : List ℕ) (k : ℕ) (t : Triangle) → t ≡ triangle_of (take k w) → k ≤ length w → weight t.centre ≤ 2 * k
centre_light w k t is h = subst (λ t. weight t.centre ≤ 2 * k) (sym is) (weight-centre w k h)

pub centre_within : (w : List ℕ) (k : ℕ) (t : Triangle) → t ≡ triangle_of (take k w) → IsWord w → k ≤ length w → IsWithin 65 t.centre
centre_within w k t is word h = subst (λ t. IsWithin 65 t.centre) (sym is) (within-centre w k word h)

pub corner-at : (w : List ℕ) (k c : ℕ) (t : Triangle) (z : FormalPoint) → t ≡ triangle_of (take k w) → IsCorner c
    → slice_index_or t.corners (c - 1) z ≡ corner_of w k c
corner-at w k c t z is h =
    ap (λ t. slice_index_or t.corners (c - 1) z) is
    ∙ letter_cases (λ c. slice_index_or (triangle_of (take k w)).corners (c - 1) z ≡ corner_of w k c) c h refl refl refl

pub dir-at : (w : List ℕ) (k c : ℕ) (t : Triangle) (z : Dir) → t ≡ triangle_of (take k w) → IsCorner c
    → slice_index_or t.dirs (c - 1) z ≡ mirrored_dir (take k w) (corner_dir c)
dir-at w k c t z is h = ap (λ t. slice_index_or t.dirs (c - 1) z) is ∙ dirs_of-at (take k w) c z h

-- a corner is the centre and what is seen from there
pub seen_is : (w : List ℕ) (k c : ℕ) (t : Triangle) (z : Dir) → t ≡ triangle_of (take k w) → IsCorner c →
    centre_of w k +ₚ monomial (sign_of t.minus) (slice_index_or t.dirs (c - 1) z) ≡ corner_of w k c
seen_is w k c t z is h =
    ap₂ (λ b d. centre_of w k +ₚ monomial (sign_of b) d) (ap (λ t. t.minus) is) (dir-at w k c t z is h) ∙ sym (corner_is_seen (take k w) c)

-- a triangle of odd number has the orientation reversed
pub minus_is : (w : List ℕ) (k : ℕ) (t : Triangle) → t ≡ triangle_of (take k w) → k ≤ length w → t.minus ≡ (k % 2 == 1)
minus_is w k t is h =
    let short : length (take k w) ≡ k = omega (arith, length-take k w, h) in
    ap (λ t. t.minus) is ∙ is_reversed-length (take k w) ∙ ap (λ n. n % 2 == 1) short
