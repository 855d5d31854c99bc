-- Tables of sines and cosines, as whole numbers with a bound on the error, and angles that are multiples of pi / 2^21. Angles are counted in half
-- turns: t stands for pi·t. The cosine of an angle is the sine a quarter turn further.
-- Source: table-based methods by the addition theorem, Jean-Michel Muller, Elementary Functions: Algorithms and Implementation (2016).
use Rattle.std.specs.Prelude.{◌≡◌, ℕ, ◌^◌, ◌<◌, ◌≤◌, List, length, slice_index_or, ℤ, pos, unsigned_abs}
use Rattle.rat_core.specs.Fraction.{ℚ, ◌÷◌, whole, ◌+ℚ◌, ◌-ℚ◌, ◌*ℚ◌, ◌≤ℚ◌, abs}
use Rattle.trig_meaning.specs.FromSomeOn.{FromSomeOn}
use Rattle.trig_meaning.specs.Turn.{sine_of_turn}
use Rattle.sine_fixed.specs.declared.sine_cosine.SineCosine.{SineCosine}
use Rattle.sine_fixed.specs.declared.grid_angles.GridAngles.{GridAngles}
use Rattle.sine_fixed.specs.Near.{one}

-- in units of 2^-60, x is within 30 of v
abbrev pub IsClose : ℤ → ℚ → Type 0
IsClose x v = abs (v *ℚ one -ℚ x ÷ 1) ≤ℚ whole 30

-- x is within 30 of the sine of pi·t, from some n on
pub record IsCloseSine (t : ℚ) (x : ℤ) : Type 0 where
  pub close : FromSomeOn (λ n. IsClose x (sine_of_turn n t))
  pub size : unsigned_abs x ≤ 2 ^ 61

-- the sine and the cosine of pi·t
pub record IsSineCosine (t : ℚ) (e : SineCosine) : Type 0 where
  pub sine : IsCloseSine t e.sine
  pub cosine : IsCloseSine (t +ℚ pos 1 ÷ 2) e.cosine

-- the sines and the cosines of the first n multiples of pi / d, from 0 on
pub record AreMultiples (d n : ℕ) (entries : List SineCosine) : Type 0 where
  pub count : length entries ≡ n
  pub each : (i : ℕ) (e : SineCosine) → i < n → IsSineCosine (pos i ÷ d) (slice_index_or entries i e)

-- the parts of pi / 2^21 in half a turn
abbrev pub half_turn : ℕ
half_turn = 2 ^ 21

-- from 0 to half a turn
pub record IsGridAngles (a : GridAngles) : Type 0 where
  pub first : a.first ≤ half_turn
  pub second : a.second ≤ half_turn
