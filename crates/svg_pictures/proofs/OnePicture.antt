-- What follows from the numbers of a picture's triangles.
use Rattle.std.proofs.Common.{◌≡◌, refl, sym, ap, ◌∙◌, subst, ℕ, zero, suc, ◌+◌, ◌-◌, Bool, false, if◌then◌else◌, List}
use Rattle.std.proofs.Common.{[], ◌∷◌, take, get_or, ℤ, pos, ◌≤ℤ◌, arith}
use Rattle.std.proofs.lemmas.Int.{ints}
use Rattle.std.proofs.lemmas.List.{same_lists}
use Rattle.edge_words.specs.Letters.{IsPlace}
use Rattle.exp_sums.specs.declared.direction.Dir.{Dir}
use Rattle.exp_sums.specs.Terms.{is_same_dir}
use Rattle.exp_sums.specs.FormalPoint.{FormalPoint, monomial, coefficient}
use Rattle.exp_sums.proofs.SamePoint.{coefficient_of_monomial, coefficient-monomial}
use Rattle.unfolding.specs.Triangle.{IsCorner, corner_dir, first_corner, mirror, mirrors}
use Rattle.unfolding.specs.Corners.{upper_corner, lower_corner}
use Rattle.unfolding.proofs.Mirrors.{mirror-mirror}
use Rattle.svg_pictures.specs.declared.picture_point.PicturePoint.{PicturePoint}
use Rattle.svg_pictures.specs.declared.drawn.DrawnTriangle.{DrawnTriangle}
use Rattle.svg_pictures.specs.declared.frame.Frame.{Frame}
use Rattle.svg_pictures.specs.Drawn.{point_at, points_of}
use Rattle.svg_pictures.specs.UnfoldingPicture.{IsPointOf, AreEnds, IsLeast, IsGreatest, IsFrame, unfolding_text}
use Rattle.svg_pictures.specs.Laws.{TextFollowsTriangles}
use Rattle.svg_pictures.proofs.Blank.{blank_triangle}

-- ---- the corners of a triangle are three points

mirrors_apart : (w : List ℕ) (z z' : FormalPoint) → mirrors w z ≡ mirrors w z' → z ≡ z'
mirrors_apart [] z z' h = h
mirrors_apart (d ∷ w) z z' h =
    mirrors_apart w z z' (sym (mirror-mirror d (mirrors w z)) ∙ ap (mirror d) h ∙ mirror-mirror d (mirrors w z'))

directions_apart : {P : Type 0} (d e : Dir) → is_same_dir d e ≡ false → monomial (pos 1) e ≡ monomial (pos 1) d → P
directions_apart d e apart same =
    let one : coefficient (monomial (pos 1) e) d ≡ pos 1 = ap (λ p. coefficient p d) same ∙ coefficient_of_monomial (pos 1) d in
    let none : coefficient (monomial (pos 1) e) d ≡ pos 0 = coefficient-monomial (pos 1) e d ∙ ap (λ (b : Bool). if b then pos 1 else pos 0) apart in
    let clash : pos 1 ≡ pos 0 = sym one ∙ none in
    absurd (differ clash)
  where
    differ : pos 1 ≡ pos 0 → ⊥
    differ e = omega (arith, ints, e)

corners_apart : (c c' : ℕ) → IsCorner c → IsCorner c' → first_corner c ≡ first_corner c' → c ≡ c'
unfolding first_corner
corners_apart zero c' h h' e = absurd (omega (arith, h.0))
corners_apart c zero h h' e = absurd (omega (arith, h'.0))
corners_apart (suc zero) (suc zero) h h' e = refl
corners_apart (suc zero) (suc (suc zero)) h h' e = directions_apart (corner_dir 2) (corner_dir 1) refl e
corners_apart (suc zero) (suc (suc (suc zero))) h h' e = directions_apart (corner_dir 3) (corner_dir 1) refl e
corners_apart (suc (suc zero)) (suc zero) h h' e = directions_apart (corner_dir 1) (corner_dir 2) refl e
corners_apart (suc (suc zero)) (suc (suc zero)) h h' e = refl
corners_apart (suc (suc zero)) (suc (suc (suc zero))) h h' e = directions_apart (corner_dir 3) (corner_dir 2) refl e
corners_apart (suc (suc (suc zero))) (suc zero) h h' e = directions_apart (corner_dir 1) (corner_dir 3) refl e
corners_apart (suc (suc (suc zero))) (suc (suc zero)) h h' e = directions_apart (corner_dir 2) (corner_dir 3) refl e
corners_apart (suc (suc (suc zero))) (suc (suc (suc zero))) h h' e = refl
corners_apart (suc (suc (suc (suc c)))) c' h h' e = absurd (omega (arith, h.1))
corners_apart c (suc (suc (suc (suc c')))) h h' e = absurd (omega (arith, h'.1))

-- so the point of an end is one
end_is_one : (w : List ℕ) (k : ℕ) (point : FormalPoint) (t : DrawnTriangle) (s s' : PicturePoint) → IsPointOf w k point t s → IsPointOf w k point t s' → s ≡ s'
end_is_one w k point t s s' p q =
    let same : first_corner p.0 ≡ first_corner q.0 = mirrors_apart (take (k - 1) w) (first_corner p.0) (first_corner q.0) (p.2 ∙ sym q.2) in
    p.3 ∙ ap (point_at t) (corners_apart p.0 q.0 p.1 q.1 same) ∙ sym q.3

ends_are_one : (w : List ℕ) (end : ℕ → FormalPoint) (ts : List DrawnTriangle) (points points' : List PicturePoint) → AreEnds w end ts points
    → AreEnds w end ts points'
    → points ≡ points'
ends_are_one w end ts points points' p q =
    same_lists points points' (p.count ∙ sym q.count)
    (λ j d below.
    let place : IsPlace w (j + 1) = (omega arith, omega (arith, below, p.count)) in
    let back : j + 1 - 1 ≡ j = omega arith in
    let first = p.each (j + 1) blank_triangle d place in
    let second = q.each (j + 1) blank_triangle d place in
    subst (λ i. get_or points i d ≡ get_or points' i d) back
    (end_is_one w (j + 1) (end (j + 1)) (get_or ts (j + 1 - 1) blank_triangle) (get_or points (j + 1 - 1) d) (get_or points' (j + 1 - 1) d) first second))

-- ---- the frame is one

least_is_below : (number : PicturePoint → ℤ) (points : List PicturePoint) (z z' : ℤ) → IsLeast number points z → IsLeast number points z' → z ≤ℤ z'
least_is_below number points z z' p q =
    let one = q.one in
    let there : number (get_or points one.0 one.1) ≡ z' = ap number one.3 ∙ one.4 in
    subst (λ a. z ≤ℤ a) there (p.all one.0 one.1 one.2)

greatest_is_above : (number : PicturePoint → ℤ) (points : List PicturePoint) (z z' : ℤ) → IsGreatest number points z → IsGreatest number points z' → z' ≤ℤ z
greatest_is_above number points z z' p q =
    let one = q.one in
    let there : number (get_or points one.0 one.1) ≡ z' = ap number one.3 ∙ one.4 in
    subst (λ a. a ≤ℤ z) there (p.all one.0 one.1 one.2)

both_ways : (z z' : ℤ) → z ≤ℤ z' → z' ≤ℤ z → z ≡ z'
both_ways z z' h k = omega (arith, ints)

least_is_one : (number : PicturePoint → ℤ) (points : List PicturePoint) (z z' : ℤ) → IsLeast number points z → IsLeast number points z' → z ≡ z'
least_is_one number points z z' p q = both_ways z z' (least_is_below number points z z' p q) (least_is_below number points z' z q p)

greatest_is_one : (number : PicturePoint → ℤ) (points : List PicturePoint) (z z' : ℤ) → IsGreatest number points z → IsGreatest number points z' → z ≡ z'
greatest_is_one number points z z' p q = both_ways z z' (greatest_is_above number points z' z q p) (greatest_is_above number points z z' p q)

frame_is_one : (points : List PicturePoint) (f f' : Frame) → IsFrame points f → IsFrame points f' → f ≡ f'
frame_is_one points f f' p q =
    let left = least_is_one (λ s. s.across) points f.left f'.left p.left q.left in
    let right = greatest_is_one (λ s. s.across) points f.right f'.right p.right q.right in
    let top = least_is_one (λ s. s.down) points f.top f'.top p.top q.top in
    let bottom = greatest_is_one (λ s. s.down) points f.bottom f'.bottom p.bottom q.bottom in
    λ i. record { left = left i; right = right i; top = top i; bottom = bottom i }

-- ---- the text is one

pub text_follows : TextFollowsTriangles
text_follows w x y text text' p q same =
    let ts = p.triangles in
    let uppers = ends_are_one w (upper_corner w) ts p.uppers q.uppers p.are_uppers
    (subst (λ (us : List DrawnTriangle). AreEnds w (upper_corner w) us q.uppers) (sym same) q.are_uppers) in
    let lowers = ends_are_one w (lower_corner w) ts p.lowers q.lowers p.are_lowers
    (subst (λ (us : List DrawnTriangle). AreEnds w (lower_corner w) us q.lowers) (sym same) q.are_lowers) in
    let frames = frame_is_one (points_of ts) p.frame q.frame p.seen (subst (λ (us : List DrawnTriangle). IsFrame (points_of us) q.frame) (sym same) q.seen) in
    p.text_is ∙ (λ i. unfolding_text (frames i) (same i) (uppers i) (lowers i)) ∙ sym q.text_is
