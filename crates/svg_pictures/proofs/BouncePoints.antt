-- The triangle itself, drawn, and the points of bounces on its edges.
use Rattle.std.proofs.Common.{◌≡◌, refl, sym, ap, ap₂, ◌∙◌, subst, subst₂, ℕ, zero, suc, ◌+◌, ◌-◌, ◌*◌, ◌^◌, ◌<◌, ◌≤◌, List, [], ◌∷◌, ◌++◌, length, map, get_or}
use Rattle.std.proofs.Common.{ℤ, pos, negsuc, ◌+ℤ◌, ◌-ℤ◌, ◌*ℤ◌, ◌≤ℤ◌, ◌<ℤ◌, neg_ℤ, unsigned_abs, FitsSigned, to_z, of_z, codes, lit<, arith}
use Rattle.std.specs.Int.{w32, w128, int_div_euclid}
use Rattle.std.specs.List.{All, flat_map}
use Rattle.std.proofs.lemmas.Int.{ints, to_z-of_z}
use Rattle.std.proofs.lemmas.List.{length-map}
use Rattle.ring_solver.specs.Expression.{num, opp, ◌⊞◌, ◌⊟◌, ◌⊠◌}
use Rattle.ring_solver.specs.Ordered.{le, times}
use Rattle.ring_solver.proofs.Solver.{ring₂, ring₃, ring₄, ring₅}
use Rattle.ring_solver.proofs.Certificate.{le₂, le₅, le₆, moved}
use Rattle.ring_solver.proofs.Whole.{ℤ_ordered, pos_le}
use Rattle.rat_core.specs.Fraction.{ℚ, ◌÷◌, whole, ◌+ℚ◌, ◌-ℚ◌, ◌*ℚ◌, neg_ℚ, ◌≤ℚ◌, abs}
use Rattle.rat_core.specs.Written.{value}
use Rattle.rat_core.proofs.Laws.{ℚ_ring, ℚ_ordered, le_trans, over-mul, int-add, int-sub, int-mul}
use Rattle.rat_core.proofs.Order.{int_le, whole_le, whole_nonneg, cancel_le, le_abs, neg_le_abs, abs_le}
use Rattle.exp_sums.specs.FormalPoint.{FormalPoint, monomial}
use Rattle.exp_sums.specs.Limits.{weight}
use Rattle.exp_sums.proofs.Weights.{weight-monomial}
use Rattle.trig_meaning.specs.FromSomeOn.{FromSomeOn}
use Rattle.trig_meaning.specs.Value.{first_coordinate, second_coordinate}
use Rattle.trig_meaning.proofs.FromSomeOnLaws.{onward_both}
use Rattle.directed_fixed.proofs.Rounding.{product_size, floor_of_division}
use Rattle.sine_fixed.proofs.Turning.{fits_128}
use Rattle.unfolding.specs.Triangle.{IsCorner, next_corner, corner_dir, first_corner}
use Rattle.bounce_path.specs.declared.bounce.Bounce.{Bounce}
use Rattle.bounce_path.specs.Bounces.{IsOnEdge}
use Rattle.plane_points.specs.declared.spot.Spot.{Spot}
use Rattle.plane_points.specs.Spots.{TriangleAngles, IsSpotOf}
use Rattle.svg_pictures.specs.declared.picture_point.PicturePoint.{PicturePoint}
use Rattle.svg_pictures.specs.declared.drawn.DrawnTriangle.{DrawnTriangle}
use Rattle.svg_pictures.specs.Coordinates.{IsPictureOf}
use Rattle.svg_pictures.specs.Drawn.{point_at}
use Rattle.svg_pictures.specs.BouncePoints.{between, point_on, drawn_bounces, next_point_text}
use Rattle.svg_pictures.specs.PathPicture.{IsFirstTriangle, half_way, part_way, IsWithinTwo, IsPictureOfBounce, ArePicturesOfBounces, point_text}

-- ---- the triangle

-- what is said of the picture of a spot
abbrev Draws : Spot → PicturePoint → Type 0
Draws s t = (at : TriangleAngles) (p : FormalPoint) → weight p ≤ 255 → IsSpotOf at p s → IsPictureOf p (value at.0) (value at.1) t

corner_drawn : (at : TriangleAngles) (c : ℕ) (s : Spot) (t : PicturePoint) → Draws s t → IsSpotOf at (monomial (pos 1) (corner_dir c)) s
    → IsPictureOf (first_corner c) (value at.0) (value at.1) t
unfolding first_corner
corner_drawn at c s t draws is = draws at (monomial (pos 1) (corner_dir c)) (omega (arith, weight-monomial (pos 1) (corner_dir c))) is

pub first_drawn : (at : TriangleAngles) (s s' s'' : Spot) (t t' t'' : PicturePoint) → Draws s t → Draws s' t' → Draws s'' t''
    → IsSpotOf at (monomial (pos 1) (corner_dir 1)) s → IsSpotOf at (monomial (pos 1) (corner_dir 2)) s' → IsSpotOf at (monomial (pos 1) (corner_dir 3)) s''
    → IsFirstTriangle (value at.0) (value at.1) (record { first = t; second = t'; third = t'' })
first_drawn at s s' s'' t t' t'' draws draws' draws'' is is' is'' zero corner = absurd (omega (arith, corner))
first_drawn at s s' s'' t t' t'' draws draws' draws'' is is' is'' (suc zero) corner = corner_drawn at 1 s t draws is
first_drawn at s s' s'' t t' t'' draws draws' draws'' is is' is'' (suc (suc zero)) corner = corner_drawn at 2 s' t' draws' is'
first_drawn at s s' s'' t t' t'' draws draws' draws'' is is' is'' (suc (suc (suc zero))) corner = corner_drawn at 3 s'' t'' draws'' is''
first_drawn at s s' s'' t t' t'' draws draws' draws'' is is' is'' (suc (suc (suc (suc c)))) corner = absurd (omega (arith, corner))

pub next_is_corner : (c : ℕ) → IsCorner c → IsCorner (next_corner c)
next_is_corner zero corner = absurd (omega (arith, corner))
next_is_corner (suc zero) corner = (omega arith, omega arith)
next_is_corner (suc (suc zero)) corner = (omega arith, omega arith)
next_is_corner (suc (suc (suc zero))) corner = (omega arith, omega arith)
next_is_corner (suc (suc (suc (suc c)))) corner = absurd (omega (arith, corner))

-- ---- parts of the way

-- the sum that is divided, without the half that rounds it
abbrev pub sum_of : ℤ → ℤ → ℕ → ℤ
sum_of start end share = start *ℤ pos (2 ^ 41 - share) +ℤ end *ℤ pos share

-- within half of the divisor
record IsNearest (q sum : ℤ) : Type 0 where
  pub low : (q *ℤ pos (2 ^ 41)) ≤ℤ (sum +ℤ pos (2 ^ 40))
  pub high : sum ≤ℤ (q *ℤ pos (2 ^ 41) +ℤ pos (2 ^ 40))

nearest : (sum : ℤ) → IsNearest (int_div_euclid (sum +ℤ pos (2 ^ 40)) (pos (2 ^ 41))) sum
nearest sum =
    let floor = floor_of_division (sum +ℤ pos (2 ^ 40)) (pos (2 ^ 41)) (omega (arith, ints)) in
    from_floor (int_div_euclid (sum +ℤ pos (2 ^ 40)) (pos (2 ^ 41))) sum floor.at_most floor.near
  where
    from_floor : (q sum : ℤ) → (q *ℤ pos (2 ^ 41)) ≤ℤ (sum +ℤ pos (2 ^ 40)) → (sum +ℤ pos (2 ^ 40)) <ℤ (q *ℤ pos (2 ^ 41) +ℤ pos (2 ^ 41)) → IsNearest q sum
    from_floor q sum low high = record { low = low; high = omega (arith, ints, high) }

module _ (share : ℕ) (small : share ≤ 2 ^ 41) where
  nonneg : (n : ℕ) → pos 0 ≤ℤ pos n
  nonneg n = omega (arith, ints)

  whole_is : pos (2 ^ 41 - share) +ℤ pos share ≡ pos (2 ^ 41)
  whole_is = omega (arith, ints, small)

  -- between two bounds of the ends lies the sum between multiples of these
  sum_from : (low start end : ℤ) → low ≤ℤ start → low ≤ℤ end → (low *ℤ pos (2 ^ 41)) ≤ℤ sum_of start end share
  sum_from low start end h k =
      subst (λ p. (low *ℤ p) ≤ℤ sum_of start end share) whole_is
      (le₅ ℤ_ordered (λ l s e p t. l ⊠ (p ⊞ t)) (λ l s e p t. s ⊠ p ⊞ e ⊠ t) (λ l s e p t. times p l s ∷ times t l e ∷ []) refl low start end
      (pos (2 ^ 41 - share)) (pos share) (nonneg (2 ^ 41 - share), h, (nonneg share, k, tt)))

  sum_to : (high start end : ℤ) → start ≤ℤ high → end ≤ℤ high → sum_of start end share ≤ℤ (high *ℤ pos (2 ^ 41))
  sum_to high start end h k =
      subst (λ p. sum_of start end share ≤ℤ (high *ℤ p)) whole_is
      (le₅ ℤ_ordered (λ l s e p t. s ⊠ p ⊞ e ⊠ t) (λ l s e p t. l ⊠ (p ⊞ t)) (λ l s e p t. times p s l ∷ times t e l ∷ []) refl high start end
      (pos (2 ^ 41 - share)) (pos share) (nonneg (2 ^ 41 - share), h, (nonneg share, k, tt)))

  -- the number between two others lies between the same bounds
  pub between_bounds : (low high start end : ℤ) → low ≤ℤ start → low ≤ℤ end → start ≤ℤ high → end ≤ℤ high
      → (low ≤ℤ between start end share) × (between start end share ≤ℤ high)
  between_bounds low high start end h k l m =
      let near = nearest (sum_of start end share) in
      let from = sum_from low start end h k in
      let to = sum_to high start end l m in
      bounded low high (between start end share) (sum_of start end share) near.low near.high from to
    where
      bounded : (a b q s : ℤ) → (q *ℤ pos (2 ^ 41)) ≤ℤ (s +ℤ pos (2 ^ 40)) → s ≤ℤ (q *ℤ pos (2 ^ 41) +ℤ pos (2 ^ 40)) → (a *ℤ pos (2 ^ 41)) ≤ℤ s
          → s ≤ℤ (b *ℤ pos (2 ^ 41)) → (a ≤ℤ q) × (q ≤ℤ b)
      bounded a b q s low high from to = (omega (arith, ints, high, from), omega (arith, ints, low, to))

  -- between two numbers of 32 bits lies one of 32 bits
  pub between_fits : (start end : ℤ) → FitsSigned w32 start → FitsSigned w32 end → FitsSigned w32 (between start end share)
  between_fits start end fits fits' =
      let low = pos 0 -ℤ pos (2 ^ 31) in
      let high = pos (2 ^ 31) -ℤ pos 1 in
      let first = range start fits in
      let second = range end fits' in
      let both = between_bounds low high start end first.0 second.0 first.1 second.1 in
      fitting (between start end share) both.0 both.1
    where
      range : (z : ℤ) → FitsSigned w32 z → ((pos 0 -ℤ pos (2 ^ 31)) ≤ℤ z) × (z ≤ℤ (pos (2 ^ 31) -ℤ pos 1))
      range (pos n) fits = (omega (arith, ints), omega (arith, ints, fits.sfits))
      range (negsuc n) fits = (omega (arith, ints, fits.sfits), omega (arith, ints))

      fitting : (z : ℤ) → (pos 0 -ℤ pos (2 ^ 31)) ≤ℤ z → z ≤ℤ (pos (2 ^ 31) -ℤ pos 1) → FitsSigned w32 z
      fitting (pos n) low high = record { sfits = omega (arith, ints, high) }
      fitting (negsuc n) low high = record { sfits = omega (arith, ints, low) }

  -- the part as a fraction
  abbrev pub part : ℚ
  part = pos share ÷ 2 ^ 41

  abbrev pub parts : ℚ
  parts = whole (2 ^ 41)

  sum_is : (start end : ℤ) → sum_of start end share ÷ 1 ≡ (start ÷ 1) *ℚ (parts -ℚ whole share) +ℚ (end ÷ 1) *ℚ whole share
  sum_is start end =
      int-add (start *ℤ pos (2 ^ 41 - share)) (end *ℤ pos share)
      ∙ ap₂ ◌+ℚ◌ (int-mul start (pos (2 ^ 41 - share)) ∙ ap (λ t. (start ÷ 1) *ℚ t) rest) (int-mul end (pos share))
    where
      rest : pos (2 ^ 41 - share) ÷ 1 ≡ parts -ℚ whole share
      rest = ap (λ z. z ÷ 1) difference ∙ int-sub (pos (2 ^ 41)) (pos share)
        where
          difference : pos (2 ^ 41 - share) ≡ pos (2 ^ 41) -ℤ pos share
          difference = omega (arith, ints, small)

  rest_nonneg : whole 0 ≤ℚ parts -ℚ whole share
  rest_nonneg = le₂ ℚ_ordered (λ p t. num 0) (λ p t. p ⊟ t) (λ p t. le t p ∷ []) refl parts (whole share) (whole_le share (2 ^ 41) small, tt)

  -- the distance from what lies between two numbers near the ends, in parts
  scaled : (z a b : ℚ) → (z -ℚ part_way part a b) *ℚ parts ≡ z *ℚ parts -ℚ ((parts -ℚ whole share) *ℚ a +ℚ whole share *ℚ b)
  scaled z a b =
      ring₅ ℚ_ring (λ z g a b p. (z ⊟ ((num 1 ⊟ g) ⊠ a ⊞ g ⊠ b)) ⊠ p) (λ z g a b p. z ⊠ p ⊟ ((p ⊟ g ⊠ p) ⊠ a ⊞ g ⊠ p ⊠ b)) refl z part a b parts
      ∙ ap (λ t. z *ℚ parts -ℚ ((parts -ℚ t) *ℚ a +ℚ t *ℚ b)) (over-mul (pos share) (2 ^ 41) (lit< tt))

  two_parts : whole 2 *ℚ parts ≡ whole (2 ^ 42)
  two_parts = sym (int-mul (pos 2) (pos (2 ^ 41)))

  one_side : (z s e a b : ℚ) → z *ℚ parts ≤ℚ s *ℚ (parts -ℚ whole share) +ℚ e *ℚ whole share +ℚ whole (2 ^ 40) → s -ℚ a ≤ℚ whole 1 → e -ℚ b ≤ℚ whole 1
      → z -ℚ part_way part a b ≤ℚ whole 2
  one_side z s e a b near h k =
      cancel_le (2 ^ 41) (lit< tt) (z -ℚ part_way part a b) (whole 2)
      (moved ℚ_ordered (sym (scaled z a b)) (sym two_parts)
      (le₆ ℚ_ordered (λ z s e a b t. z ⊠ num (2 ^ 41) ⊟ ((num (2 ^ 41) ⊟ t) ⊠ a ⊞ t ⊠ b)) (λ z s e a b t. num (2 ^ 42))
      (λ z s e a b t.
      le (z ⊠ num (2 ^ 41)) (s ⊠ (num (2 ^ 41) ⊟ t) ⊞ e ⊠ t ⊞ num (2 ^ 40)) ∷ times (num (2 ^ 41) ⊟ t) (s ⊟ a) (num 1) ∷ times t (e ⊟ b) (num 1)
      ∷ le (num 0) (num (2 ^ 40)) ∷ []) refl z s e a b (whole share)
      (near, (rest_nonneg, h, (whole_nonneg share, k, (whole_nonneg (2 ^ 40), tt))))))

  -- within 2 of what lies between numbers within 1 of the ends
  pub between_near : (start end : ℤ) (a b : ℚ) → abs (start ÷ 1 -ℚ a) ≤ℚ whole 1 → abs (end ÷ 1 -ℚ b) ≤ℚ whole 1
      → abs (between start end share ÷ 1 -ℚ part_way part a b) ≤ℚ whole 2
  between_near start end a b h k =
      let q = between start end share in
      let near = nearest (sum_of start end share) in
      let s = start ÷ 1 in
      let e = end ÷ 1 in
      let z = q ÷ 1 in
      let rest = parts -ℚ whole share in
      abs_le (z -ℚ part_way part a b) (whole 2)
      (one_side z s e a b
      (moved ℚ_ordered (int-mul q (pos (2 ^ 41))) (int-add (sum_of start end share) (pos (2 ^ 40)) ∙ ap (λ t. t +ℚ whole (2 ^ 40)) (sum_is start end))
      (int_le (q *ℤ pos (2 ^ 41)) (sum_of start end share +ℤ pos (2 ^ 40)) near.low))
      (le_trans (s -ℚ a) (abs (s -ℚ a)) (whole 1) (le_abs (s -ℚ a)) h) (le_trans (e -ℚ b) (abs (e -ℚ b)) (whole 1) (le_abs (e -ℚ b)) k))
      (moved ℚ_ordered (turned z a b) refl
      (one_side (neg_ℚ z) (neg_ℚ s) (neg_ℚ e) (neg_ℚ a) (neg_ℚ b)
      (low_turned z s e (moved ℚ_ordered (sum_is start end)
      (int-add (q *ℤ pos (2 ^ 41)) (pos (2 ^ 40)) ∙ ap (λ t. t +ℚ whole (2 ^ 40)) (int-mul q (pos (2 ^ 41))))
      (int_le (sum_of start end share) (q *ℤ pos (2 ^ 41) +ℤ pos (2 ^ 40)) near.high)))
      (turned_end s a h) (turned_end e b k)))
    where
      turned : (z a b : ℚ) → neg_ℚ z -ℚ part_way part (neg_ℚ a) (neg_ℚ b) ≡ neg_ℚ (z -ℚ part_way part a b)
      turned z a b =
          ring₄ ℚ_ring (λ z g a b. opp z ⊟ ((num 1 ⊟ g) ⊠ opp a ⊞ g ⊠ opp b)) (λ z g a b. opp (z ⊟ ((num 1 ⊟ g) ⊠ a ⊞ g ⊠ b))) refl z part a b

      turned_end : (s a : ℚ) → abs (s -ℚ a) ≤ℚ whole 1 → neg_ℚ s -ℚ neg_ℚ a ≤ℚ whole 1
      turned_end s a h =
          moved ℚ_ordered (ring₂ ℚ_ring (λ s a. opp (s ⊟ a)) (λ s a. opp s ⊟ opp a) refl s a) refl
          (le_trans (neg_ℚ (s -ℚ a)) (abs (s -ℚ a)) (whole 1) (neg_le_abs (s -ℚ a)) h)

      low_turned : (z s e : ℚ) → s *ℚ (parts -ℚ whole share) +ℚ e *ℚ whole share ≤ℚ z *ℚ parts +ℚ whole (2 ^ 40)
          → neg_ℚ z *ℚ parts ≤ℚ neg_ℚ s *ℚ (parts -ℚ whole share) +ℚ neg_ℚ e *ℚ whole share +ℚ whole (2 ^ 40)
      low_turned z s e h =
          le₅ ℚ_ordered (λ z s e p t. opp z ⊠ p) (λ z s e p t. opp s ⊠ (p ⊟ t) ⊞ opp e ⊠ t ⊞ num (2 ^ 40))
          (λ z s e p t. le (s ⊠ (p ⊟ t) ⊞ e ⊠ t) (z ⊠ p ⊞ num (2 ^ 40)) ∷ []) refl z s e parts (whole share) (h, tt)

-- ---- what the machine computes

-- the sum of two products, where a and b are the ends and t is the share
pub record IsComputed (start end : ℤ) (share : ℕ) (a b t : ℤ) : Type 0 where
  pub first_end : FitsSigned w128 a
  pub second_end : FitsSigned w128 b
  pub part : FitsSigned w128 t
  pub rest : FitsSigned w128 (pos (2 ^ 41) -ℤ t)
  pub first : FitsSigned w128 (a *ℤ (pos (2 ^ 41) -ℤ t))
  pub second : FitsSigned w128 (b *ℤ t)
  pub sum : FitsSigned w128 (a *ℤ (pos (2 ^ 41) -ℤ t) +ℤ b *ℤ t)
  pub more : FitsSigned w128 (a *ℤ (pos (2 ^ 41) -ℤ t) +ℤ b *ℤ t +ℤ pos (2 ^ 40))
  pub is : int_div_euclid (a *ℤ (pos (2 ^ 41) -ℤ t) +ℤ b *ℤ t +ℤ pos (2 ^ 40)) (pos (2 ^ 41)) ≡ between start end share

computed : (start end : ℤ) (share : ℕ) → share ≤ 2 ^ 41 → unsigned_abs start ≤ 2 ^ 31 → unsigned_abs end ≤ 2 ^ 31
    → IsComputed start end share start end (pos share)
computed start end share small start_small end_small =
    let rest = pos (2 ^ 41) -ℤ pos share in
    let rest_is : rest ≡ pos (2 ^ 41 - share) = omega (arith, ints, small) in
    let rest_small : unsigned_abs rest ≤ 2 ^ 41 = omega (arith, ints, small) in
    let first : unsigned_abs (start *ℤ rest) ≤ 2 ^ 31 * 2 ^ 41 = product_size start rest (2 ^ 31) (2 ^ 41) start_small rest_small in
    let second : unsigned_abs (end *ℤ pos share) ≤ 2 ^ 31 * 2 ^ 41 = product_size end (pos share) (2 ^ 31) (2 ^ 41) end_small small in
    let sizes = sums (start *ℤ rest) (end *ℤ pos share) first second in
    record {
      first_end = fits_128 start (omega (arith, start_small));
      second_end = fits_128 end (omega (arith, end_small));
      part = fits_128 (pos share) (omega (arith, ints, small));
      rest = fits_128 rest (omega (arith, rest_small));
      first = fits_128 (start *ℤ rest) (omega (arith, first));
      second = fits_128 (end *ℤ pos share) (omega (arith, second));
      sum = fits_128 (start *ℤ rest +ℤ end *ℤ pos share) sizes.0;
      more = fits_128 (start *ℤ rest +ℤ end *ℤ pos share +ℤ pos (2 ^ 40)) sizes.1;
      is = ap (λ r. int_div_euclid (start *ℤ r +ℤ end *ℤ pos share +ℤ pos (2 ^ 40)) (pos (2 ^ 41))) rest_is;
    }
  where
    sums : (a b : ℤ) → unsigned_abs a ≤ 2 ^ 31 * 2 ^ 41 → unsigned_abs b ≤ 2 ^ 31 * 2 ^ 41
        → (unsigned_abs (a +ℤ b) ≤ 2 ^ 120) × (unsigned_abs (a +ℤ b +ℤ pos (2 ^ 40)) ≤ 2 ^ 120)
    sums a b h k = (omega (arith, ints, h, k), omega (arith, ints, h, k))

pub sum_computed : (start end : ℤ) (share : ℕ) (a b t : ℤ) → share ≤ 2 ^ 41 → FitsSigned w32 start → FitsSigned w32 end → a ≡ to_z w32 (of_z w32 start)
    → b ≡ to_z w32 (of_z w32 end) → t ≡ pos share → IsComputed start end share a b t
sum_computed start end share a b t small fits fits' a_is b_is t_is =
    let plain = computed start end share small (size start fits) (size end fits') in
    subst₂ (λ u v. IsComputed start end share u v t) (sym (a_is ∙ to_z-of_z w32 start fits)) (sym (b_is ∙ to_z-of_z w32 end fits'))
    (subst (λ v. IsComputed start end share start end v) (sym t_is) plain)
  where
    size : (z : ℤ) → FitsSigned w32 z → unsigned_abs z ≤ 2 ^ 31
    size (pos n) fits = omega (arith, ints, fits.sfits)
    size (negsuc n) fits = omega (arith, ints, fits.sfits)

-- ---- bounces

-- 1000 times the number between two others lies between 1000 times these
thousand : (g a b : ℚ) → part_way g (whole 1000 *ℚ a) (whole 1000 *ℚ b) ≡ whole 1000 *ℚ part_way g a b
thousand =
    ring₃ ℚ_ring (λ g a b. (num 1 ⊟ g) ⊠ (num 1000 ⊠ a) ⊞ g ⊠ (num 1000 ⊠ b)) (λ g a b. num 1000 ⊠ ((num 1 ⊟ g) ⊠ a ⊞ g ⊠ b)) refl

thousand_down : (g a b : ℚ) → part_way g (neg_ℚ (whole 1000 *ℚ a)) (neg_ℚ (whole 1000 *ℚ b)) ≡ neg_ℚ (whole 1000 *ℚ part_way g a b)
thousand_down =
    ring₃ ℚ_ring (λ g a b. (num 1 ⊟ g) ⊠ opp (num 1000 ⊠ a) ⊞ g ⊠ opp (num 1000 ⊠ b)) (λ g a b. opp (num 1000 ⊠ ((num 1 ⊟ g) ⊠ a ⊞ g ⊠ b))) refl

pub bounce_drawn : (x y : ℚ) (t : DrawnTriangle) (b : Bounce) → IsFirstTriangle x y t → IsOnEdge b → IsPictureOfBounce b x y (point_on t b)
bounce_drawn x y t b drawn on =
    let share = b.low + b.high in
    let small : share ≤ 2 ^ 41 = omega (arith, on.in_order, on.below) in
    let c = next_corner b.edge in
    let d = next_corner c in
    let corner = next_is_corner b.edge on.edge in
    let start = drawn c corner in
    let end = drawn d (next_is_corner c corner) in
    record {
      across = onward_both (λ n h k. subst (λ v. abs ((point_on t b).across ÷ 1 -ℚ v) ≤ℚ whole 2)
          (thousand (half_way b) (first_coordinate n (first_corner c) x y) (first_coordinate n (first_corner d) x y))
          (between_near share small (point_at t c).across (point_at t d).across (whole 1000 *ℚ first_coordinate n (first_corner c) x y)
          (whole 1000 *ℚ first_coordinate n (first_corner d) x y) h k)) start.across end.across;
      down = onward_both (λ n h k. subst (λ v. abs ((point_on t b).down ÷ 1 -ℚ v) ≤ℚ whole 2)
          (thousand_down (half_way b) (second_coordinate n (first_corner c) x y) (second_coordinate n (first_corner d) x y))
          (between_near share small (point_at t c).down (point_at t d).down (neg_ℚ (whole 1000 *ℚ second_coordinate n (first_corner c) x y))
          (neg_ℚ (whole 1000 *ℚ second_coordinate n (first_corner d) x y)) h k)) start.down end.down;
    }

map_at : {A B : Type 0} (f : A → B) (xs : List A) (i : ℕ) (a : A) (b : B) → i < length xs → get_or (map f xs) i b ≡ f (get_or xs i a)
map_at f [] i a b below = absurd (omega (arith, below))
map_at f (x ∷ xs) zero a b below = refl
map_at f (x ∷ xs) (suc i) a b below = map_at f xs i a b (omega (arith, below))

pub bounces_drawn : (x y : ℚ) (t : DrawnTriangle) (bs : List Bounce) → IsFirstTriangle x y t → All IsOnEdge bs
    → ArePicturesOfBounces bs x y (drawn_bounces t bs)
bounces_drawn x y t bs drawn on = record {
  count = length-map bs (point_on t);
  each = λ i b p below.
      subst (λ (s : PicturePoint). IsPictureOfBounce (get_or bs i b) x y s) (sym (map_at (point_on t) bs i b p below))
      (bounce_drawn x y t (get_or bs i b) drawn (on i b below));
}

-- the texts of all points but the first
pub next_texts : (t : DrawnTriangle) (bs : List Bounce)
    → flat_map (next_point_text t) bs ≡ flat_map (λ s. codes " " ++ point_text s) (drawn_bounces t bs)
next_texts t [] = refl
next_texts t (b ∷ bs) = ap (λ (rest : List ℕ). next_point_text t b ++ rest) (next_texts t bs)
