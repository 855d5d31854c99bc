-- How a line between boxes stands to a corner on the grid, by whole numbers.
use Rattle.std.proofs.Common.{◌≡◌, sym, ◌∙◌, ap, ℕ, ◌*◌, ◌%◌, ◌^◌, ◌<◌, ◌≤◌, pos, ◌*ℤ◌, ◌<ℤ◌, mul-le-mul, lit≤, arith}
use Rattle.std.specs.Prelude.{◌↔◌}
use Rattle.std.proofs.Math.Pow.{pow_mono}
use Rattle.std.proofs.lemmas.Nat.{pow_pos}
use Rattle.std.proofs.lemmas.Int.{ints}
use Rattle.rat_core.specs.Fraction.{◌÷◌, ◌<ℚ◌}
use Rattle.rat_core.proofs.Laws.{over_lt, over_lt_back}
use Rattle.rational_polygon.specs.Square.{dyadic}

-- a shifted number of 32 bits keeps all its bits
pub shift_kept : (steps level : ℕ) → steps < 2 ^ 32 → level ≤ 20 → steps * 2 ^ level % 2 ^ 64 ≡ steps * 2 ^ level
shift_kept steps level small shallow =
    let power : 2 ^ level ≤ 2 ^ 20 = pow_mono shallow in
    let least : steps ≤ 2 ^ 32 = omega arith in
    let product : steps * 2 ^ level ≤ 2 ^ 32 * 2 ^ 20 = mul-le-mul least power in
    omega (arith, product)

pos_lt : (a b : ℕ) → a < b → pos a <ℤ pos b
pos_lt a b h = omega (arith, ints)

pos_lt_back : (a b : ℕ) → pos a <ℤ pos b → a < b
pos_lt_back a b h = omega (arith, ints)

module _ (n level grid steps : ℕ) (positive : 0 < grid) where
  pub before : (n * grid < steps * 2 ^ level) ↔ (dyadic n level <ℚ pos steps ÷ grid)
  before = (
    λ h. over_lt (pos n) (pos steps) (2 ^ level) grid (pow_pos level) positive (pos_lt (n * grid) (steps * 2 ^ level) h),
    λ h. pos_lt_back (n * grid) (steps * 2 ^ level) (over_lt_back (pos n) (pos steps) (2 ^ level) grid (pow_pos level) positive h),
  )

  pub behind : (steps * 2 ^ level < n * grid) ↔ (pos steps ÷ grid <ℚ dyadic n level)
  behind = (
    λ h. over_lt (pos steps) (pos n) grid (2 ^ level) positive (pow_pos level) (pos_lt (steps * 2 ^ level) (n * grid) h),
    λ h. pos_lt_back (steps * 2 ^ level) (n * grid) (over_lt_back (pos steps) (pos n) grid (2 ^ level) positive (pow_pos level) h),
  )
