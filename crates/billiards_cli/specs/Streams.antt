-- A source and a sink, as they stand before a run or after it.
use Rattle.std.specs.Prelude.{◌≡◌, ℕ, ◌-◌, ◌^◌, ◌<◌, List}
use Rattle.std.specs.declared.option.Option.{Option}

-- what the source has left, and how often it has failed; what the sink has taken, and how often it has failed
pub record Streams : Type 0 where
  pub left : Option (List ℕ)
  pub source_faults : ℕ
  pub written : Option (List ℕ)
  pub sink_faults : ℕ

-- a count of faults that could rise did not
abbrev pub Stands : ℕ → ℕ → Type 0
Stands before now = (now ≡ before) × (before < 2 ^ 64 - 1)

-- nothing outside failed
pub record MeetNoFault (before after : Streams) : Type 0 where
  pub source : Stands before.source_faults after.source_faults
  pub sink : Stands before.sink_faults after.sink_faults
