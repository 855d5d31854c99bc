-- Lists of one entry for each number below a bound.

use Rattle.std.specs.Prelude.{◌≡◌, ℕ, ◌<◌, List, length, slice_index_or}

-- n entries, of which the i-th, counted from 0, is as wanted for i
pub record IsTable {A : Type 0} (IsEntry : ℕ → A → Type 0) (n : ℕ) (xs : List A) : Type 0 where
  pub count : length xs ≡ n
  pub each : (i : ℕ) (x : A) → i < n → IsEntry i (slice_index_or xs i x)
