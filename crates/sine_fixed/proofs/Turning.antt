-- Angles over one denominator, and turns of directions over it.
use Rattle.std.proofs.Common.{◌≡◌, [], ◌∷◌, refl, sym, ap, ap₂, ◌∙◌, subst, subst₂, ℕ, ◌+◌, ◌*◌, ◌^◌, ◌<◌, ◌≤◌, ℤ, pos, negsuc, ◌+ℤ◌, ◌*ℤ◌, ◌≤ℤ◌}
use Rattle.std.proofs.Common.{unsigned_abs, FitsSigned, to_z, of_z, lit<, arith, mul-pos, mul-le-mul}
use Rattle.std.specs.Int.{w32, w128}
use Rattle.std.proofs.Math.Pow.{pow_mono}
use Rattle.std.proofs.lemmas.Nat.{pow_pos}
use Rattle.std.proofs.lemmas.Grind.{pow_more}
use Rattle.std.proofs.lemmas.Int.{ints, to_z-of_z, fits_signed_from_abs}
use Rattle.ring_solver.specs.Expression.{num, ◌⊞◌, ◌⊠◌}
use Rattle.ring_solver.specs.Ordered.{le}
use Rattle.ring_solver.proofs.Certificate.{le₂}
use Rattle.ring_solver.proofs.Solver.{ring₂, ring₃, ring₅}
use Rattle.ring_solver.proofs.Whole.{pos_le, *ℤ_mono}
use Rattle.rat_core.specs.Fraction.{ℚ, ◌÷◌, whole, ◌+ℚ◌, ◌*ℚ◌, ◌≤ℚ◌, ◌<ℚ◌}
use Rattle.rat_core.specs.Written.{Written, value}
use Rattle.rat_core.proofs.Laws.{ℚ_ring, ℚ_ordered, lt_le, over-mul, over_le_back, int-add, int-mul}
use Rattle.rat_core.proofs.Order.{cancel, over_common}
use Rattle.rat_core.proofs.Compare.{small_fits, product_fits}
use Rattle.directed_fixed.proofs.Rounding.{product_size}
use Rattle.exp_sums.specs.declared.direction.Dir.{Dir}
use Rattle.exp_sums.specs.Limits.{IsNear}
use Rattle.trig_meaning.specs.Value.{turn_of}
use Rattle.trig_meaning.proofs.Quarters.{half_twice}
use Rattle.sine_fixed.specs.declared.angles.Angles.{Angles}
use Rattle.sine_fixed.specs.Angles.{IsAngles, IsTurnInRange, first_angle, second_angle}

-- X/d and Y/e over the product of the denominators
abbrev common : ℤ → ℤ → ℤ → ℤ → Angles
common X Y D E = record { first = X *ℤ E; second = Y *ℤ D; den = D *ℤ E }

-- both fractions are from 0 to 1
pub record IsUnitPoint (x y : Written) : Type 0 where
  pub x_least : whole 0 ≤ℚ value x
  pub x_most : value x ≤ℚ whole 1
  pub y_least : whole 0 ≤ℚ value y
  pub y_most : value y ≤ℚ whole 1

-- what is said of the answer
pub record IsCommon (x y : ℚ) (a : Angles) : Type 0 where
  pub angles : IsAngles a
  pub first : first_angle a ≡ x
  pub second : second_angle a ≡ y

pub numerator_nonneg : (X : ℤ) (d : ℕ) → 0 < d → whole 0 ≤ℚ X ÷ d → pos 0 ≤ℤ X
numerator_nonneg X d p h =
    let above : (pos 0 *ℤ pos d) ≤ℤ (X *ℤ pos 1) = over_le_back (pos 0) X 1 d (lit< tt) p h in
    omega (arith, ints)

pub numerator_within : (X : ℤ) (d : ℕ) → 0 < d → X ÷ d ≤ℚ whole 1 → X ≤ℤ pos d
numerator_within X d p h =
    let below : (X *ℤ pos 1) ≤ℤ (pos 1 *ℤ pos d) = over_le_back X (pos 1) d 1 p (lit< tt) h in
    omega (arith, ints)

product_nonneg : (X : ℤ) (e : ℕ) → pos 0 ≤ℤ X → pos 0 ≤ℤ (X *ℤ pos e)
product_nonneg X e h =
    let above : (pos 0 *ℤ pos e) ≤ℤ (X *ℤ pos e) = *ℤ_mono (pos 0) X e h in
    omega (arith, ints)

common_angles : (X Y : ℤ) (d e : ℕ) → 0 < d → 0 < e → d ≤ 2 ^ 21 → e ≤ 2 ^ 21 → whole 0 ≤ℚ X ÷ d → X ÷ d ≤ℚ whole 1 → whole 0 ≤ℚ Y ÷ e → Y ÷ e ≤ℚ whole 1
    → IsCommon (X ÷ d) (Y ÷ e) (common X Y (pos d) (pos e))
common_angles X Y d e p q d_small e_small x_least x_most y_least y_most =
    let positive : 0 < d * e = mul-pos p q in
    let small : d * e ≤ 2 ^ 21 * 2 ^ 21 = mul-le-mul d_small e_small in
    record {
      angles = record {
        positive = at_least_one (d * e) positive;
        small = pos_le (d * e) (2 ^ 42) (omega arith);
        first = product_nonneg X e (numerator_nonneg X d p x_least);
        second = product_nonneg Y d (numerator_nonneg Y e q y_least);
        first_within = *ℤ_mono X (pos d) e (numerator_within X d p x_most);
        second_within = subst (λ n. (Y *ℤ pos d) ≤ℤ pos n) (mul_comm e d) (*ℤ_mono Y (pos e) d (numerator_within Y e q y_most));
      };
      first = over_common X d e p q;
      second = ap (λ t. (Y *ℤ pos d) ÷ t) (mul_comm d e) ∙ over_common Y e d q p;
    }
  where
    at_least_one : (n : ℕ) → 0 < n → pos 1 ≤ℤ pos n
    at_least_one n h = omega (arith, ints)

    mul_comm : (m n : ℕ) → m * n ≡ n * m
    mul_comm m n = omega arith

-- the same for numbers that are those
common_at : (x_num y_num x_den y_den X Y : ℤ) (d e : ℕ) → x_num ≡ X → y_num ≡ Y → x_den ≡ pos d → y_den ≡ pos e
    → IsCommon (X ÷ d) (Y ÷ e) (common X Y (pos d) (pos e)) → IsCommon (X ÷ d) (Y ÷ e) (common x_num y_num x_den y_den)
common_at x_num y_num x_den y_den X Y d e p q r s h = subst (IsCommon (X ÷ d) (Y ÷ e)) (sym (λ i. common (p i) (q i) (r i) (s i))) h

-- a number as the machine keeps it
abbrev pub kept : ℤ → ℤ
kept z = to_z w128 (of_z w128 z)

-- X/d and Y/e over the product of the denominators, as the machine computes it
abbrev pub kept_common : ℤ → ℤ → ℤ → ℤ → Angles
kept_common X Y D E = record { first = kept (kept X *ℤ kept E); second = kept (kept Y *ℤ kept D); den = kept (kept D *ℤ kept E) }

pub common_computed : (x y : Written) (X Y D E : ℤ) → X ≡ x.num → Y ≡ y.num → D ≡ pos x.den → E ≡ pos y.den → unsigned_abs X < 2 ^ 60
    → unsigned_abs Y < 2 ^ 60 → 0 < x.den → 0 < y.den → x.den ≤ 2 ^ 21 → y.den ≤ 2 ^ 21 → IsUnitPoint x y → IsCommon (value x) (value y) (kept_common X Y D E)
common_computed x y X Y D E X_is Y_is D_is E_is X_small Y_small positive positive' small small' point =
    let D_small : unsigned_abs D < 2 ^ 60 = omega (arith, ints) in
    let E_small : unsigned_abs E < 2 ^ 60 = omega (arith, ints) in
    let X_fits = small_fits X X_small in
    let Y_fits = small_fits Y Y_small in
    let D_fits = small_fits D D_small in
    let E_fits = small_fits E E_small in
    let first = product_fits X E X_small E_small in
    let second = product_fits Y D Y_small D_small in
    let den = product_fits D E D_small E_small in
    simp to_z-of_z
    (common_at X Y D E x.num y.num x.den y.den X_is Y_is D_is E_is
    (common_angles x.num y.num x.den y.den positive positive' small small' point.x_least point.x_most point.y_least point.y_most))

-- both angles of a triangle are from 0 to 1
pub unit_triangle : (x y : ℚ) → whole 0 <ℚ x → whole 0 <ℚ y → x +ℚ y <ℚ whole 1 → (whole 0 ≤ℚ x) × (x ≤ℚ whole 1) × (whole 0 ≤ℚ y) × (y ≤ℚ whole 1)
unit_triangle x y a b c = (
  lt_le (whole 0) x a,
  le₂ ℚ_ordered (λ x y. x) (λ x y. num 1) (λ x y. le (num 0) y ∷ le (x ⊞ y) (num 1) ∷ []) refl x y (lt_le (whole 0) y b, (lt_le (x +ℚ y) (whole 1) c, tt)),
  lt_le (whole 0) y b,
  le₂ ℚ_ordered (λ x y. y) (λ x y. num 1) (λ x y. le (num 0) x ∷ le (x ⊞ y) (num 1) ∷ []) refl x y (lt_le (whole 0) x a, (lt_le (x +ℚ y) (whole 1) c, tt)),
)

-- ---- turns

pub numerator_over : (m n X Y : ℤ) (d : ℕ) → 0 < d → (m *ℤ X +ℤ n *ℤ Y) ÷ d ≡ (m ÷ 1) *ℚ (X ÷ d) +ℚ (n ÷ 1) *ℚ (Y ÷ d)
numerator_over m n X Y d p =
    let left : (m *ℤ X +ℤ n *ℤ Y) ÷ d *ℚ whole d ≡ (m ÷ 1) *ℚ (X ÷ 1) +ℚ (n ÷ 1) *ℚ (Y ÷ 1) =
    over-mul (m *ℤ X +ℤ n *ℤ Y) d p ∙ int-add (m *ℤ X) (n *ℤ Y) ∙ ap₂ ◌+ℚ◌ (int-mul m X) (int-mul n Y)
    in
    let right : ((m ÷ 1) *ℚ (X ÷ d) +ℚ (n ÷ 1) *ℚ (Y ÷ d)) *ℚ whole d ≡ (m ÷ 1) *ℚ (X ÷ 1) +ℚ (n ÷ 1) *ℚ (Y ÷ 1) =
    ring₅ ℚ_ring (λ m n x y d. (m ⊠ x ⊞ n ⊠ y) ⊠ d) (λ m n x y d. m ⊠ (x ⊠ d) ⊞ n ⊠ (y ⊠ d)) refl (m ÷ 1) (n ÷ 1) (X ÷ d) (Y ÷ d) (whole d)
    ∙ ap₂ (λ s t. (m ÷ 1) *ℚ s +ℚ (n ÷ 1) *ℚ t) (over-mul X d p) (over-mul Y d p)
    in
    cancel d p ((m *ℤ X +ℤ n *ℤ Y) ÷ d) ((m ÷ 1) *ℚ (X ÷ d) +ℚ (n ÷ 1) *ℚ (Y ÷ d)) (left ∙ sym right)

numerator_turns : (m n X Y D : ℤ) → pos 1 ≤ℤ D → (m *ℤ X +ℤ n *ℤ Y) ÷ unsigned_abs D ≡ (m ÷ 1) *ℚ (X ÷ unsigned_abs D) +ℚ (n ÷ 1) *ℚ (Y ÷ unsigned_abs D)
numerator_turns m n X Y (pos d) h = numerator_over m n X Y d (omega (arith, ints))
numerator_turns m n X Y (negsuc d) h = absurd h.le

-- sizes
record IsSmallTurn (m n X Y : ℤ) (d : ℕ) : Type 0 where
  pub first : unsigned_abs (m *ℤ X) ≤ 2 ^ 52
  pub second : unsigned_abs (n *ℤ Y) ≤ 2 ^ 52
  pub all : unsigned_abs (m *ℤ X +ℤ n *ℤ Y) ≤ (unsigned_abs m + unsigned_abs n) * d

-- angles are at most the denominator, which is at most 2^42
record IsSmallAngles (a : Angles) : Type 0 where
  pub first : unsigned_abs a.first ≤ unsigned_abs a.den
  pub second : unsigned_abs a.second ≤ unsigned_abs a.den
  pub den : unsigned_abs a.den ≤ 2 ^ 42

angle_size : (a : Angles) → IsAngles a → IsSmallAngles a
angle_size a h =
    let positive = h.positive in
    let small = h.small in
    let first = h.first in
    let second = h.second in
    let first_within = h.first_within in
    let second_within = h.second_within in
    record { first = omega (arith, ints); second = omega (arith, ints); den = omega (arith, ints) }

sum_size : (p q : ℤ) (m n d : ℕ) → unsigned_abs p ≤ m * d → unsigned_abs q ≤ n * d → unsigned_abs (p +ℤ q) ≤ (m + n) * d
sum_size p q m n d h k = omega (arith, ints, h, k)

part_size : (p : ℤ) (m n d : ℕ) → unsigned_abs p ≤ m * d → (m + n) * d ≤ 2 ^ 52 → unsigned_abs p ≤ 2 ^ 52
part_size p m n d h room = omega (arith, h, room)

other_size : (q : ℤ) (m n d : ℕ) → unsigned_abs q ≤ n * d → (m + n) * d ≤ 2 ^ 52 → unsigned_abs q ≤ 2 ^ 52
other_size q m n d h room = omega (arith, h, room)

small_turn : (m n : ℤ) (a : Angles) → (unsigned_abs m + unsigned_abs n) * unsigned_abs a.den ≤ 2 ^ 52 → IsAngles a
    → IsSmallTurn m n a.first a.second (unsigned_abs a.den)
small_turn m n a room angles =
    let sizes = angle_size a angles in
    let d = unsigned_abs a.den in
    let first : unsigned_abs (m *ℤ a.first) ≤ unsigned_abs m * d = product_size m a.first (unsigned_abs m) d (omega arith) sizes.first in
    let second : unsigned_abs (n *ℤ a.second) ≤ unsigned_abs n * d = product_size n a.second (unsigned_abs n) d (omega arith) sizes.second in
    record {
      first = part_size (m *ℤ a.first) (unsigned_abs m) (unsigned_abs n) d first room;
      second = other_size (n *ℤ a.second) (unsigned_abs m) (unsigned_abs n) d second room;
      all = sum_size (m *ℤ a.first) (n *ℤ a.second) (unsigned_abs m) (unsigned_abs n) d first second;
    }

pub fits_128 : (z : ℤ) → unsigned_abs z ≤ 2 ^ 120 → FitsSigned w128 z
fits_128 z h = fits_signed_from_abs w128 z (omega arith)

pub fits_32 : (z : ℤ) → unsigned_abs z ≤ 4096 → FitsSigned w32 z
fits_32 z h = fits_signed_from_abs w32 z (omega arith)

pub angles_fit : (a : Angles) → IsAngles a → FitsSigned w128 a.den
angles_fit a h = fits_128 a.den (omega (arith, (angle_size a h).den))

-- the numerator as the machine computes it
abbrev pub kept_numerator : ℤ → ℤ → Angles → ℤ
kept_numerator p q a = kept (kept p *ℤ kept a.first) +ℤ kept (kept q *ℤ kept a.second)

-- what is said of it
pub record IsNumerator (dir : Dir) (a : Angles) (z : ℤ) : Type 0 where
  pub fits : FitsSigned w128 z
  pub bound : unsigned_abs (kept z) ≤ (unsigned_abs dir.m + unsigned_abs dir.n) * unsigned_abs a.den
  pub size : unsigned_abs (kept z) ≤ 2 ^ 52
  pub turn : kept z ÷ unsigned_abs a.den ≡ turn_of dir (first_angle a) (second_angle a)

numerator_exactly : (dir : Dir) (a : Angles) → IsNear 4096 dir → IsTurnInRange dir a → IsAngles a → IsNumerator dir a (kept_numerator dir.m dir.n a)
numerator_exactly dir a near room angles =
    let small = small_turn dir.m dir.n a room angles in
    let sizes = angle_size a angles in
    let m_fits : FitsSigned w128 dir.m = fits_128 dir.m (omega (arith, near.m)) in
    let n_fits : FitsSigned w128 dir.n = fits_128 dir.n (omega (arith, near.n)) in
    let first_fits : FitsSigned w128 a.first = fits_128 a.first (omega (arith, sizes.first, sizes.den)) in
    let second_fits : FitsSigned w128 a.second = fits_128 a.second (omega (arith, sizes.second, sizes.den)) in
    let den_fits : FitsSigned w128 a.den = fits_128 a.den (omega (arith, sizes.den)) in
    let first_product : FitsSigned w128 (dir.m *ℤ a.first) = fits_128 (dir.m *ℤ a.first) (omega (arith, small.first)) in
    let second_product : FitsSigned w128 (dir.n *ℤ a.second) = fits_128 (dir.n *ℤ a.second) (omega (arith, small.second)) in
    let sum : FitsSigned w128 (dir.m *ℤ a.first +ℤ dir.n *ℤ a.second) = fits_128 (dir.m *ℤ a.first +ℤ dir.n *ℤ a.second) (omega (arith, small.all, room)) in
    let size : unsigned_abs (dir.m *ℤ a.first +ℤ dir.n *ℤ a.second) ≤ 2 ^ 52 = omega (arith, small.all, room) in
    record {
      fits = simp to_z-of_z sum;
      bound = simp to_z-of_z small.all;
      size = simp to_z-of_z size;
      turn = simp to_z-of_z (numerator_turns dir.m dir.n a.first a.second a.den angles.positive);
    }

pub numerator_computed : (dir : Dir) (a : Angles) (p q : ℤ) → IsNear 4096 dir → IsTurnInRange dir a → IsAngles a → p ≡ to_z w32 (of_z w32 dir.m)
    → q ≡ to_z w32 (of_z w32 dir.n) → IsNumerator dir a (kept_numerator p q a)
numerator_computed dir a p q near room angles p_is q_is =
    let m : p ≡ dir.m = p_is ∙ to_z-of_z w32 dir.m (fits_32 dir.m near.m) in
    let n : q ≡ dir.n = q_is ∙ to_z-of_z w32 dir.n (fits_32 dir.n near.n) in
    subst₂ (λ s t. IsNumerator dir a (kept_numerator s t a)) (sym m) (sym n) (numerator_exactly dir a near room angles)

-- the directions of a word's heights turn in range
pub near_in_range : (dir : Dir) (a : Angles) → IsNear 130 dir → IsAngles a → IsTurnInRange dir a
near_in_range dir a near angles =
    let sum : unsigned_abs dir.m + unsigned_abs dir.n ≤ 260 = omega (arith, near.m, near.n) in
    let product : (unsigned_abs dir.m + unsigned_abs dir.n) * unsigned_abs a.den ≤ 260 * 2 ^ 42 = mul-le-mul sum (angle_size a angles).den in
    omega (arith, product)

-- ---- boxes

-- the centre of a box, over a power of 2
pub box_angles : (i j level : ℕ) → level ≤ 20 → i < 2 ^ level → j < 2 ^ level
    → IsAngles (record { first = pos (2 * i + 1); second = pos (2 * j + 1); den = pos (2 ^ (level + 1)) })
box_angles i j level deep column row =
    let shallow : level + 1 ≤ 42 = omega arith in
    let small : 2 ^ (level + 1) ≤ 2 ^ 42 = pow_mono shallow in
    let double : 2 ^ (level + 1) ≡ 2 ^ level * 2 = pow_more 2 level in
    let positive : 0 < 2 ^ (level + 1) = pow_pos (level + 1) in
    record {
      positive = pos_le 1 (2 ^ (level + 1)) (omega arith);
      small = pos_le (2 ^ (level + 1)) (2 ^ 42) small;
      first = pos_le 0 (2 * i + 1) (omega arith);
      second = pos_le 0 (2 * j + 1) (omega arith);
      first_within = pos_le (2 * i + 1) (2 ^ (level + 1)) (omega arith);
      second_within = pos_le (2 * j + 1) (2 ^ (level + 1)) (omega arith);
    }

-- the same for numbers that are those, as the machine keeps them
pub box_angles_kept : (i j level : ℕ) (x y d : ℤ) → level ≤ 20 → i < 2 ^ level → j < 2 ^ level → x ≡ pos (2 * i + 1) → y ≡ pos (2 * j + 1)
    → d ≡ pos (2 ^ (level + 1)) → IsAngles (record { first = kept x; second = kept y; den = kept d })
box_angles_kept i j level x y d deep column row x_is y_is d_is =
    let angles = box_angles i j level deep column row in
    let sizes = angle_size (record { first = pos (2 * i + 1); second = pos (2 * j + 1); den = pos (2 ^ (level + 1)) }) angles in
    let x_fits : FitsSigned w128 x = subst (FitsSigned w128) (sym x_is) (fits_128 (pos (2 * i + 1)) (omega (arith, sizes.first, sizes.den))) in
    let y_fits : FitsSigned w128 y = subst (FitsSigned w128) (sym y_is) (fits_128 (pos (2 * j + 1)) (omega (arith, sizes.second, sizes.den))) in
    let d_fits : FitsSigned w128 d = subst (FitsSigned w128) (sym d_is) (fits_128 (pos (2 ^ (level + 1))) (omega (arith, sizes.den))) in
    simp to_z-of_z (subst IsAngles (sym (λ k. record { first = x_is k; second = y_is k; den = d_is k })) angles)

-- ---- a quarter turn more

-- N/d and a half, over twice the denominator
half_over : (N : ℤ) (d : ℕ) → 0 < d → (pos 2 *ℤ N +ℤ pos d) ÷ (2 * d) ≡ N ÷ d +ℚ pos 1 ÷ 2
half_over N d p =
    let double : 0 < 2 * d = omega (arith, p) in
    let left : (pos 2 *ℤ N +ℤ pos d) ÷ (2 * d) *ℚ whole (2 * d) ≡ whole 2 *ℚ (N ÷ 1) +ℚ whole d =
    over-mul (pos 2 *ℤ N +ℤ pos d) (2 * d) double ∙ int-add (pos 2 *ℤ N) (pos d) ∙ ap (λ t. t +ℚ whole d) (int-mul (pos 2) N)
    in
    let right : (N ÷ d +ℚ pos 1 ÷ 2) *ℚ whole (2 * d) ≡ whole 2 *ℚ (N ÷ 1) +ℚ whole d =
    ap (λ t. (N ÷ d +ℚ pos 1 ÷ 2) *ℚ t) (int-mul (pos 2) (pos d))
    ∙ ring₃ ℚ_ring (λ q h d. (q ⊞ h) ⊠ (num 2 ⊠ d)) (λ q h d. num 2 ⊠ (q ⊠ d) ⊞ (h ⊠ num 2) ⊠ d) refl (N ÷ d) (pos 1 ÷ 2) (whole d)
    ∙ ap₂ (λ s t. whole 2 *ℚ s +ℚ t *ℚ whole d) (over-mul N d p) half_twice
    ∙ ring₂ ℚ_ring (λ n d. num 2 ⊠ n ⊞ num 1 ⊠ d) (λ n d. num 2 ⊠ n ⊞ d) refl (N ÷ 1) (whole d)
    in
    cancel (2 * d) double ((pos 2 *ℤ N +ℤ pos d) ÷ (2 * d)) (N ÷ d +ℚ pos 1 ÷ 2) (left ∙ sym right)

pub half_further : (N D : ℤ) → pos 1 ≤ℤ D → (pos 2 *ℤ N +ℤ D) ÷ unsigned_abs (pos 2 *ℤ D) ≡ N ÷ unsigned_abs D +ℚ pos 1 ÷ 2
half_further N (pos d) h = half_over N d (omega (arith, ints))
half_further N (negsuc d) h = absurd h.le
