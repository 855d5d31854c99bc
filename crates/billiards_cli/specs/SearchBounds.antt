-- How long the words may be that are searched for. The bounds are this program's own.
use Rattle.std.specs.Prelude.{◌≡◌, ℕ, ◌%◌, ◌≤◌, List, Some, None, nat_eq, if◌then◌else◌}
use Rattle.std.specs.declared.option.Option.{Option}
use Rattle.billiards_cli.specs.Arguments.{number_up_to, at_least}

-- an even number from 6 to 24
pub record IsSearchBound (n : ℕ) : Type 0 where
  pub at_least : 6 ≤ n
  pub at_most : n ≤ 24
  pub even : n % 2 ≡ 0

-- the number, where it is even
abbrev pub where_even : Option ℕ → Option ℕ
where_even None = None
where_even (Some n) = if nat_eq (n % 2) 0 then Some n else None

-- the bound that a text writes
abbrev pub search_bound : List ℕ → Option ℕ
search_bound text = where_even (at_least 6 (number_up_to 24 text))
