-- The calls of a source or a sink in memory.
use Rattle.std.specs.Prelude.{◌≡◌, ℕ, List, is_ok, if◌then◌else◌}
use Rattle.std.specs.declared.result.Result.{Result}
use Rattle.mcb_ends.specs.Causes.{next_count}

-- the numbers of the calls that are to fail, how many calls there were, and how many failed
pub record CallCounts : Type 0 where
  pub fails : List ℕ
  pub made : ℕ
  pub faults : ℕ

-- There was one more call, with this result.
pub record CountsCall {T E : Type 0} (old new : CallCounts) (result : Result T E) : Type 0 where
  pub fails : new.fails ≡ old.fails
  pub made : new.made ≡ next_count old.made
  pub faults : new.faults ≡ (if is_ok result then old.faults else next_count old.faults)
