-- How the extremes and the pairs decide.
use Rattle.std.proofs.Common.{◌≡◌, ◌↔◌, refl, sym, ap, subst, subst₂, ℕ, ◌+◌, ◌-◌, ◌*◌, ◌^◌, ◌≤◌, List, ℤ, pos, negsuc, ◌+ℤ◌, ◌-ℤ◌, ◌*ℤ◌, neg_ℤ, ◌≤ℤ◌}
use Rattle.std.proofs.Common.{unsigned_abs, slice_index_or, FitsSigned, T, Bool, true, false, not, arith, mul-le-mul_left}
use Rattle.std.specs.Prelude.{int_le as is_at_most, int_lt as is_less, IsTrue}
use Rattle.std.specs.Int.{w128}
use Rattle.std.specs.Int.Signed.{le_z_yes, lt_z_no}
use Rattle.std.proofs.lemmas.Int.{ints, fits_signed_from_abs}
use Rattle.edge_words.specs.Letters.{IsPlace}
use Rattle.exp_sums.specs.FormalPoint.{FormalPoint}
use Rattle.exp_sums.specs.declared.sizes.Sizes.{Sizes}
use Rattle.unfolding.specs.Shift.{IsShift, HasShift}
use Rattle.defining_functions.specs.Functions.{defining_function}
use Rattle.defining_functions.specs.Sizes.{sizes_of, AreAtMost}
use Rattle.gradient_bounds.specs.declared.threshold.Measure.{Measure}
use Rattle.gradient_bounds.specs.declared.threshold.Measure.TheVariants.{Reach, Bend}
use Rattle.gradient_bounds.specs.declared.threshold.Threshold.{Threshold}
use Rattle.gradient_bounds.specs.Decision.{rounded_up, measured, needed_at, needed_by, IsThreshold, difference, Reaches, FallsBelow}
use Rattle.gradient_bounds.specs.Decision.{SomeFallsBelow, SomeInRowFalls, IsGreatest, ReachesInRow}
use Rattle.gradient_bounds.proofs.Computed.{needed_iff, product_at_least, margin_at_least, rounded_up_at_least, rounded_up_mono}

-- ---- one pair

-- the machine's comparison
pub at_most_iff : (a b : ℤ) → IsTrue (is_at_most a b) ↔ (a ≤ℤ b)
at_most_iff a b = (λ h. le_z_yes (subst T (sym h) tt), λ h. is_true (is_at_most a b) h.le)
  where
    is_true : (b : Bool) → T b → IsTrue b
    is_true true t = refl
    is_true false t = absurd t

-- and the machine's strict one, where it fails
pub not_less : (a b : ℤ) → is_less a b ≡ false → b ≤ℤ a
not_less a b h = lt_z_no (subst (λ t. T (not t)) (sym h) tt)

-- what the machine compares
pub needed_test : (t : Threshold) (s : Sizes) (z A n : ℤ) → IsThreshold t → A ≡ pos (256 * s.weight) +ℤ t.slack *ℤ pos (1 + s.weight)
    → n ≡ t.rate *ℤ pos (measured t.measure s) → IsTrue (is_at_most n ((z -ℤ A) *ℤ t.parts)) ↔ needed_at t s ≤ℤ z
needed_test t s z A n is A_is n_is =
    let iff = needed_iff (t.rate *ℤ pos (measured t.measure s)) t.parts (pos (256 * s.weight)) (t.slack *ℤ pos (1 + s.weight)) z is.parts_at_least in
    let machine = at_most_iff n ((z -ℤ A) *ℤ t.parts) in (
      λ h. iff.1 (subst₂ (λ a b. a ≤ℤ ((z -ℤ b) *ℤ t.parts)) n_is A_is (machine.0 h)),
      λ h. machine.1 (subst₂ (λ a b. a ≤ℤ ((z -ℤ b) *ℤ t.parts)) (sym n_is) (sym A_is) (iff.0 h)),
    )

-- The sizes s of the function of two corners, and a test of what functions of such sizes need.
pub record IsTestOf (t : Threshold) (w : List ℕ) (k l : ℕ) (s : Sizes) (b : Bool) (z : ℤ) : Type 0 where
  pub shift : HasShift w
  pub sizes : (v : FormalPoint) → IsShift w v → s ≡ sizes_of (defining_function v w k l)
  pub test : IsTrue b ↔ needed_at t s ≤ℤ z

module _ (t : Threshold) (w : List ℕ) (k l : ℕ) (s : Sizes) (b : Bool) (z : ℤ) (is : IsTestOf t w k l s b z) where
  need_of : (v : FormalPoint) → IsShift w v → needed_at t s ≡ needed_by t (defining_function v w k l)
  need_of v shift = ap (needed_at t) (is.sizes v shift)

  pub reaches_iff : IsTrue b ↔ Reaches (needed_by t) w k l z
  reaches_iff = (
    λ h v shift. subst (λ a. a ≤ℤ z) (need_of v shift) (is.test.0 h),
    λ h. is.test.1 (subst (λ a. a ≤ℤ z) (sym (need_of is.shift.0 is.shift.1)) (h is.shift.0 is.shift.1)),
  )

  pub falls_iff : (y : ℤ) → z ≡ pos 0 -ℤ y → IsTrue b ↔ FallsBelow (needed_by t) w k l y
  falls_iff y z_is = (
    λ h v shift. below y z (needed_by t (defining_function v w k l)) z_is (reaches_iff.0 h v shift),
    λ h. reaches_iff.1 (λ v shift. above y z (needed_by t (defining_function v w k l)) z_is (h v shift)),
  )
    where
      below : (y z n : ℤ) → z ≡ pos 0 -ℤ y → n ≤ℤ z → y ≤ℤ neg_ℤ n
      below y z n h k = omega (arith, ints)

      above : (y z n : ℤ) → z ≡ pos 0 -ℤ y → y ≤ℤ neg_ℤ n → n ≤ℤ z
      above y z n h k = omega (arith, ints)

-- the negative of a difference fits its type
pub negative_fits : (t : ℤ) → unsigned_abs t ≤ 2 ^ 77 → FitsSigned w128 (pos 0 -ℤ t)
negative_fits t h = fits_signed_from_abs w128 (pos 0 -ℤ t) (omega (arith, ints))

-- ---- the extremes

-- larger functions need more
product_mono : (R : ℤ) (a b : ℕ) → pos 0 ≤ℤ R → a ≤ b → (R *ℤ pos a) ≤ℤ (R *ℤ pos b)
product_mono (pos r) a b low less = as_whole (r * a) (r * b) (mul-le-mul_left r less)
  where
    as_whole : (m n : ℕ) → m ≤ n → pos m ≤ℤ pos n
    as_whole m n h = omega (arith, ints)
product_mono (negsuc r) a b low less = absurd low.le

measured_mono : (m : Measure) (s most : Sizes) → AreAtMost s most → measured m s ≤ measured m most
measured_mono Reach s most h = h.reach
measured_mono Bend s most h = h.bend

needed_mono : (t : Threshold) (s most : Sizes) → IsThreshold t → AreAtMost s most → needed_at t s ≤ℤ needed_at t most
needed_mono t s most is h =
    let lighter = h.weight in
    let factor : 1 + s.weight ≤ 1 + most.weight = omega (arith, lighter) in
    let some : pos 0 ≤ℤ t.slack = from_one t.slack is.slack_at_least in
    add_up (rounded_up (t.rate *ℤ pos (measured t.measure s)) t.parts) (rounded_up (t.rate *ℤ pos (measured t.measure most)) t.parts)
    (t.slack *ℤ pos (1 + s.weight)) (t.slack *ℤ pos (1 + most.weight)) s.weight most.weight lighter
    (rounded_up_mono (t.rate *ℤ pos (measured t.measure s)) (t.rate *ℤ pos (measured t.measure most)) t.parts is.parts_at_least
    (product_mono t.rate (measured t.measure s) (measured t.measure most) is.rate_at_least (measured_mono t.measure s most h)))
    (product_mono t.slack (1 + s.weight) (1 + most.weight) some factor)
  where
    from_one : (z : ℤ) → pos 1 ≤ℤ z → pos 0 ≤ℤ z
    from_one z h = omega (arith, ints)

    add_up : (x y m n : ℤ) (a b : ℕ) → a ≤ b → x ≤ℤ y → m ≤ℤ n → (pos (256 * a) +ℤ (x +ℤ m)) ≤ℤ (pos (256 * b) +ℤ (y +ℤ n))
    add_up x y m n a b h k l = omega (arith, ints)

-- so what sizes that are at least those of a function need is at least what the function needs
pub most_suffices : (t : Threshold) (w : List ℕ) (k l : ℕ) (most : Sizes) (z : ℤ) → IsThreshold t
    → ((v : FormalPoint) → IsShift w v → AreAtMost (sizes_of (defining_function v w k l)) most) → needed_at t most ≤ℤ z → Reaches (needed_by t) w k l z
most_suffices t w k l most z is at_most reached v shift =
    let s = sizes_of (defining_function v w k l) in
    through (needed_at t s) (needed_at t most) z (needed_mono t s most is (at_most v shift)) reached
  where
    through : (a b c : ℤ) → a ≤ℤ b → b ≤ℤ c → a ≤ℤ c
    through a b c h k = omega (arith, ints)

-- a greater difference reaches as much
pub reaches_more : (needs : FormalPoint → ℤ) (w : List ℕ) (k l : ℕ) (z y : ℤ) → z ≤ℤ y → Reaches needs w k l z → Reaches needs w k l y
reaches_more needs w k l z y more h v shift = through (needs (defining_function v w k l)) z y (h v shift) more
  where
    through : (a b c : ℤ) → a ≤ℤ b → b ≤ℤ c → a ≤ℤ c
    through a b c h k = omega (arith, ints)

-- ---- a fall

-- each function needs at least one unit
needed_positive : (t : Threshold) (f : FormalPoint) → IsThreshold t → pos 1 ≤ℤ needed_by t f
needed_positive t f is =
    let s = sizes_of f in
    let product : pos 0 ≤ℤ (t.rate *ℤ pos (measured t.measure s)) = product_at_least t.rate (measured t.measure s) is.rate_at_least in
    add_up (256 * s.weight) (rounded_up (t.rate *ℤ pos (measured t.measure s)) t.parts) (t.slack *ℤ pos (1 + s.weight))
    (rounded_up_at_least (t.rate *ℤ pos (measured t.measure s)) t.parts product is.parts_at_least)
    (margin_at_least t.slack s.weight is.slack_at_least)
  where
    add_up : (a : ℕ) (x m : ℤ) → pos 0 ≤ℤ x → pos 1 ≤ℤ m → pos 1 ≤ℤ (pos a +ℤ (x +ℤ m))
    add_up a x m h k = omega (arith, ints)

-- so a difference from 0 on does not fall below
pub no_fall : (t : Threshold) (w : List ℕ) (k l : ℕ) (z : ℤ) → IsThreshold t → HasShift w → pos 0 ≤ℤ z → ¬ (FallsBelow (needed_by t) w k l z)
no_fall t w k l z is shift above falls =
    let f = defining_function shift.0 w k l in
    contrary z (needed_by t f) above (falls shift.0 shift.1) (needed_positive t f is)
  where
    contrary : (z n : ℤ) → pos 0 ≤ℤ z → z ≤ℤ neg_ℤ n → pos 1 ≤ℤ n → ⊥
    contrary z n h k p = absurd (omega (arith, ints))

-- and none does where the least one is from 0 on
pub none_falls : (t : Threshold) (w : List ℕ) (uppers lowers : List ℤ) (least : ℤ) → IsThreshold t → HasShift w
    → ((i j : ℕ) → IsPlace w i → IsPlace w j → least ≤ℤ difference uppers lowers i j) → pos 0 ≤ℤ least
    → ¬ (SomeFallsBelow (needed_by t) w uppers lowers)
none_falls t w uppers lowers least is shift below above some =
    no_fall t w some.upper some.row.lower (difference uppers lowers some.upper some.row.lower) is shift
    (through least (difference uppers lowers some.upper some.row.lower) above
    (below some.upper some.row.lower some.is_upper some.row.is_lower)) some.row.falls
  where
    through : (b c : ℤ) → pos 0 ≤ℤ b → b ≤ℤ c → pos 0 ≤ℤ c
    through b c h k = omega (arith, ints)

-- in a row none does either
pub none_in_row : (t : Threshold) (w : List ℕ) (uppers lowers : List ℤ) (k : ℕ) (least : ℤ) → IsThreshold t → HasShift w
    → ((l : ℕ) → IsPlace w l → least ≤ℤ difference uppers lowers k l) → pos 0 ≤ℤ least → ¬ (SomeInRowFalls (needed_by t) w uppers lowers k)
none_in_row t w uppers lowers k least is shift below above some =
    no_fall t w k some.lower (difference uppers lowers k some.lower) is shift
    (through least (difference uppers lowers k some.lower) above (below some.lower some.is_lower)) some.falls
  where
    through : (b c : ℤ) → pos 0 ≤ℤ b → b ≤ℤ c → pos 0 ≤ℤ c
    through b c h k = omega (arith, ints)

-- nor where the least one misses what sizes need that are at most those of the row
pub none_so_deep : (t : Threshold) (w : List ℕ) (uppers lowers : List ℤ) (k : ℕ) (least : ℤ) (s : Sizes) → IsThreshold t → HasShift w
    → ((l : ℕ) → IsPlace w l → least ≤ℤ difference uppers lowers k l)
    → ((v : FormalPoint) (l : ℕ) → IsShift w v → IsPlace w l → AreAtMost s (sizes_of (defining_function v w k l)))
    → ¬ (needed_at t s ≤ℤ (pos 0 -ℤ least)) → ¬ (SomeInRowFalls (needed_by t) w uppers lowers k)
none_so_deep t w uppers lowers k least s is shift below at_least missed some =
    let f = defining_function shift.0 w k some.lower in
    missed (through (needed_at t s) (needed_by t f) (difference uppers lowers k some.lower) least
    (needed_mono t s (sizes_of f) is (at_least shift.0 some.lower shift.1 some.is_lower)) (some.falls shift.0 shift.1)
    (below some.lower some.is_lower))
  where
    through : (n m g z : ℤ) → n ≤ℤ m → g ≤ℤ neg_ℤ m → z ≤ℤ g → n ≤ℤ (pos 0 -ℤ z)
    through n m g z h k l = omega (arith, ints)

-- ---- what a comparison says of all

-- what is false does not hold of what would follow
pub never : (P : Type 0) → IsTrue false → P
never P h = cc

pub then_not : (A B : Type 0) → (IsTrue false ↔ A) → (B → A) → IsTrue false ↔ B
then_not A B h f = (λ t. never B t, λ b. h.1 (f b))

pub holds : (B : Type 0) → B → IsTrue true ↔ B
holds B b = (λ _. b, λ _. refl)

pub fails : (B : Type 0) → ¬ B → IsTrue false ↔ B
fails B none = (λ t. never B t, λ b. absurd (none b))

pub false_not : (A : Type 0) → (IsTrue false ↔ A) → ¬ A
false_not A h a = never ⊥ (h.1 a)

-- ---- differences

-- a lesser upper number and a greater lower one differ by less
pub differences_in_order : (uppers lowers : List ℤ) (k l i j : ℕ) → slice_index_or uppers (k - 1) (pos 0) ≤ℤ slice_index_or uppers (i - 1) (pos 0)
    → slice_index_or lowers (j - 1) (pos 0) ≤ℤ slice_index_or lowers (l - 1) (pos 0) → difference uppers lowers k l ≤ℤ difference uppers lowers i j
differences_in_order uppers lowers k l i j h h' = in_order (slice_index_or uppers (k - 1) (pos 0)) (slice_index_or uppers (i - 1) (pos 0))
    (slice_index_or lowers (j - 1) (pos 0)) (slice_index_or lowers (l - 1) (pos 0)) h h'
  where
    in_order : (a b c d : ℤ) → a ≤ℤ b → c ≤ℤ d → (a -ℤ d) ≤ℤ (b -ℤ c)
    in_order a b c d h k = omega (arith, ints)

-- of a row the difference from the greatest lower number is the least
pub row_least : (w : List ℕ) (uppers lowers : List ℤ) (k nearest l : ℕ) (least : ℤ) → least ≡ difference uppers lowers k nearest
    → IsGreatest w lowers nearest → IsPlace w l → least ≤ℤ difference uppers lowers k l
row_least w uppers lowers k nearest l least is greatest lower = subst (λ z. z ≤ℤ difference uppers lowers k l) (sym is)
    (in_order (slice_index_or uppers (k - 1) (pos 0)) (slice_index_or lowers (l - 1) (pos 0)) (slice_index_or lowers (nearest - 1) (pos 0)) (greatest l lower))
  where
    in_order : (a c d : ℤ) → c ≤ℤ d → (a -ℤ d) ≤ℤ (a -ℤ c)
    in_order a c d h = omega (arith, ints)

-- a row is reached where that difference is at least what reaches what each function of the row needs
pub row_reached_by : (needs : FormalPoint → ℤ) (w : List ℕ) (uppers lowers : List ℤ) (k nearest : ℕ) (least most : ℤ)
    → least ≡ difference uppers lowers k nearest → IsGreatest w lowers nearest → ReachesInRow needs w k most → most ≤ℤ least
    → (l : ℕ) → IsPlace w l → Reaches needs w k l (difference uppers lowers k l)
row_reached_by needs w uppers lowers k nearest least most is greatest enough reached l lower =
    reaches_more needs w k l least (difference uppers lowers k l) (row_least w uppers lowers k nearest l least is greatest lower)
    (reaches_more needs w k l most least reached (enough l lower))
