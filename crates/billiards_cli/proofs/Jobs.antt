-- Generated jobs are jobs.
use Rattle.std.proofs.Common.{◌≡◌, ◌≢◌, ℕ, zero, suc, ◌+◌, ◌*◌, ◌<◌, List, [], ◌∷◌, All, pos, ◌-ℤ◌, refl, sym, subst, ap, ap₂, ◌∙◌, lit<, lit≤, inl}
use Rattle.std.proofs.Common.{arith, mul-pos, get_or, ◌%◌}
use Rattle.std.proofs.lemmas.Int.{ints}
use Rattle.std.proofs.lemmas.List.Elements.{All-cons, All-nil}
use Rattle.ring_solver.specs.Expression.{◌⊟◌, ◌⊠◌}
use Rattle.ring_solver.proofs.Solver.{ring₂}
use Rattle.rat_core.specs.Fraction.{ℚ, ◌÷◌, whole, ◌-ℚ◌, ◌*ℚ◌, ◌<ℚ◌}
use Rattle.rat_core.proofs.Laws.{ℚ_ring, over-product}
use Rattle.rat_core.proofs.Order.{over_positive}
use Rattle.rat_core.proofs.Quotients.{over-sub_same}
use Rattle.rational_polygon.specs.Outline.{IsInside, IsNumber, IsConvexAt, IsPolygon, corner}
use Rattle.rational_polygon.specs.Square.{unit_square}
use Rattle.rational_polygon.specs.Region.{IsRegion}
use Rattle.rational_polygon.proofs.Regions.{one_is_region}
use Rattle.edge_words.specs.Letters.{IsLetter}
use Rattle.edge_words.proofs.Balance.{stable_from_letters}
use Rattle.edge_words.proofs.Digits.{differ_from_indices}
use Rattle.covering_file.specs.Header.{IsStableWord, IsHeading}
use Rattle.billiards_cli.specs.Jobs.{IsJobNumber, near_side, far_side, job_outline, job_word, job_heading}

-- ---- the triangle

-- Each turn of the triangle is the square of the length of its sides, here over one denominator.
square_is_positive : (g a b d : ℕ) → 0 < g → 0 < d → a ≡ b + d → whole 0 <ℚ (pos a ÷ g -ℚ pos b ÷ g) *ℚ (pos a ÷ g -ℚ pos b ÷ g)
square_is_positive g a b d p q is =
    let step : pos a -ℤ pos b ≡ pos d = rw is (grind (arith, ints)) in
    let side : pos a ÷ g -ℚ pos b ÷ g ≡ pos d ÷ g = over-sub_same (pos a) (pos b) g p ∙ ap (λ z. z ÷ g) step in
    let square = ap₂ ◌*ℚ◌ side side ∙ over-product (pos d) (pos d) g g p p in
    subst (λ t. whole 0 <ℚ t) (sym square) (over_positive (d * d) (g * g) (mul-pos q q) (mul-pos p p))

at_first : (p q : ℚ) → (p -ℚ q) *ℚ (p -ℚ q) ≡ (p -ℚ p) *ℚ (p -ℚ q) -ℚ (p -ℚ q) *ℚ (q -ℚ p)
at_first = ring₂ ℚ_ring (λ p q. (p ⊟ q) ⊠ (p ⊟ q)) (λ p q. (p ⊟ p) ⊠ (p ⊟ q) ⊟ (p ⊟ q) ⊠ (q ⊟ p)) refl

at_second : (p q : ℚ) → (p -ℚ q) *ℚ (p -ℚ q) ≡ (q -ℚ p) *ℚ (q -ℚ p) -ℚ (p -ℚ p) *ℚ (p -ℚ p)
at_second = ring₂ ℚ_ring (λ p q. (p ⊟ q) ⊠ (p ⊟ q)) (λ p q. (q ⊟ p) ⊠ (q ⊟ p) ⊟ (p ⊟ p) ⊠ (p ⊟ p)) refl

at_third : (p q : ℚ) → (p -ℚ q) *ℚ (p -ℚ q) ≡ (p -ℚ q) *ℚ (p -ℚ p) -ℚ (q -ℚ p) *ℚ (p -ℚ q)
at_third = ring₂ ℚ_ring (λ p q. (p ⊟ q) ⊠ (p ⊟ q)) (λ p q. (p ⊟ q) ⊠ (p ⊟ p) ⊟ (q ⊟ p) ⊠ (p ⊟ q)) refl

is_convex : (k i j : ℕ) → IsJobNumber k → IsNumber (job_outline k) i → IsNumber (job_outline k) j → IsConvexAt (job_outline k) i j
is_convex k zero j is edge number start end = absurd (omega (arith, edge))
is_convex k (suc (suc (suc (suc i)))) j is edge number start end = absurd (omega (arith, edge))
is_convex k (suc zero) zero is edge number start end = absurd (omega (arith, number))
is_convex k (suc zero) (suc zero) is edge number start end = absurd (start refl)
is_convex k (suc zero) (suc (suc zero)) is edge number start end = absurd (end refl)
is_convex k (suc zero) (suc (suc (suc zero))) is edge number start end =
    subst (λ t. whole 0 <ℚ t) (at_first (pos (near_side k) ÷ 768) (pos (far_side k) ÷ 768))
    (square_is_positive 768 (near_side k) (far_side k) (3 * k) (lit< tt) (omega (arith, is)) (omega (arith, is)))
is_convex k (suc zero) (suc (suc (suc (suc j)))) is edge number start end = absurd (omega (arith, number))
is_convex k (suc (suc zero)) zero is edge number start end = absurd (omega (arith, number))
is_convex k (suc (suc zero)) (suc zero) is edge number start end =
    subst (λ t. whole 0 <ℚ t) (at_second (pos (near_side k) ÷ 768) (pos (far_side k) ÷ 768))
    (square_is_positive 768 (near_side k) (far_side k) (3 * k) (lit< tt) (omega (arith, is)) (omega (arith, is)))
is_convex k (suc (suc zero)) (suc (suc zero)) is edge number start end = absurd (start refl)
is_convex k (suc (suc zero)) (suc (suc (suc zero))) is edge number start end = absurd (end refl)
is_convex k (suc (suc zero)) (suc (suc (suc (suc j)))) is edge number start end = absurd (omega (arith, number))
is_convex k (suc (suc (suc zero))) zero is edge number start end = absurd (omega (arith, number))
is_convex k (suc (suc (suc zero))) (suc zero) is edge number start end = absurd (end refl)
is_convex k (suc (suc (suc zero))) (suc (suc zero)) is edge number start end =
    subst (λ t. whole 0 <ℚ t) (at_third (pos (near_side k) ÷ 768) (pos (far_side k) ÷ 768))
    (square_is_positive 768 (near_side k) (far_side k) (3 * k) (lit< tt) (omega (arith, is)) (omega (arith, is)))
is_convex k (suc (suc (suc zero))) (suc (suc (suc zero))) is edge number start end = absurd (start refl)
is_convex k (suc (suc (suc zero))) (suc (suc (suc (suc j)))) is edge number start end = absurd (omega (arith, number))

lower_corner : (k : ℕ) → IsJobNumber k → IsInside 768 (near_side k, far_side k)
lower_corner k is = record { x = omega (arith, is); y = omega (arith, is); sum = omega (arith, is) }

right_corner : (k : ℕ) → IsJobNumber k → IsInside 768 (near_side k, near_side k)
right_corner k is = record { x = omega (arith, is); y = omega (arith, is); sum = omega (arith, is) }

left_corner : (k : ℕ) → IsJobNumber k → IsInside 768 (far_side k, near_side k)
left_corner k is = record { x = omega (arith, is); y = omega (arith, is); sum = omega (arith, is) }

are_inside : (k : ℕ) → IsJobNumber k → All (IsInside 768) (job_outline k).corners
are_inside k is =
    let lower : ℕ × ℕ = (near_side k, far_side k) in
    let right : ℕ × ℕ = (near_side k, near_side k) in
    let left : ℕ × ℕ = (far_side k, near_side k) in
    All-cons (IsInside 768) lower (right ∷ left ∷ []) (lower_corner k is)
    (All-cons (IsInside 768) right (left ∷ []) (right_corner k is) (All-cons (IsInside 768) left [] (left_corner k is) (All-nil (IsInside 768))))

pub is_polygon : (k : ℕ) → IsJobNumber k → IsPolygon (job_outline k)
is_polygon k is = record {
  grid = (lit≤ tt, lit≤ tt);
  count = (lit≤ tt, lit≤ tt);
  inside = are_inside k is;
  convex = λ i j edge number. is_convex k i j is edge number;
}

pub is_region : (k : ℕ) → IsJobNumber k → IsRegion (job_outline k ∷ [])
is_region k is = (one_is_region (job_outline k) (corner (job_outline k) 1) unit_square (is_polygon k is)).0

-- ---- the word

differ : (i : ℕ) → i < 6 → get_or job_word i 0 ≢ get_or job_word ((i + 1) % 6) 0
differ zero low = λ same. cc
differ (suc zero) low = λ same. cc
differ (suc (suc zero)) low = λ same. cc
differ (suc (suc (suc zero))) low = λ same. cc
differ (suc (suc (suc (suc zero)))) low = λ same. cc
differ (suc (suc (suc (suc (suc zero))))) low = λ same. cc
differ (suc (suc (suc (suc (suc (suc i)))))) low = absurd (omega arith)

one : IsLetter 1
one = (lit≤ tt, lit≤ tt)

two : IsLetter 2
two = (lit≤ tt, lit≤ tt)

three : IsLetter 3
three = (lit≤ tt, lit≤ tt)

-- these three, and then others
letters_before : (w : List ℕ) → All IsLetter w → All IsLetter (1 ∷ 2 ∷ 3 ∷ w)
letters_before w all = All-cons IsLetter 1 (2 ∷ 3 ∷ w) one (All-cons IsLetter 2 (3 ∷ w) two (All-cons IsLetter 3 w three all))

are_letters : All IsLetter job_word
are_letters = letters_before (1 ∷ 2 ∷ 3 ∷ []) (letters_before [] (All-nil IsLetter))

pub is_stable_word : IsStableWord job_word
is_stable_word = record {
  word = record {
    letters = are_letters;
    even_length = record { even = refl; at_least = lit≤ tt; at_most = lit≤ tt };
    neighbours_differ = differ_from_indices job_word differ;
  };
  stable = stable_from_letters job_word refl refl refl;
}

-- ---- the job

pub generated_is_job : (k : ℕ) → IsJobNumber k → IsHeading (job_heading k)
generated_is_job k is = record {
  version = inl (refl, refl);
  region = is_region k is;
  word_count = (lit≤ tt, lit≤ tt);
  stable = All-cons IsStableWord job_word [] is_stable_word (All-nil IsStableWord);
  depth = lit≤ tt;
}
