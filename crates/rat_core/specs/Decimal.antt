-- What the reading of a decimal number looks at first.
use Rattle.std.specs.Prelude.{◌≡◌, ℕ, ◌<◌, List, length, slice_index}

-- there is a first digit, and a leading zero stands alone
pub record StartsAsADecimal (bytes : List ℕ) : Type 0 where
  pub nonempty : 0 < length bytes
  pub zero_alone : slice_index bytes 0 ≡ 48 → length bytes ≡ 1
