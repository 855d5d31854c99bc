-- When a failure may be laid to the outside: by a count of faults, which never falls.
use Rattle.std.specs.Prelude.{◌≡◌, ℕ, ◌+◌, ◌-◌, ◌^◌, ◌≤◌, Bool, min, Ok, Err, OnOk, OnErr, MatchBool}
use Rattle.std.specs.declared.result.Result.{Result}

-- one more, up to the last value of a u64, where a count stays
abbrev pub next_count : ℕ → ℕ
next_count count = min (count + 1) (2 ^ 64 - 1)

-- The count rose, or stands at the last value of a u64, from which it can't rise.
abbrev pub Rose : ℕ → ℕ → Type 0
Rose before now = next_count before ≤ now

-- A call fails only where the count rose in it, and succeeds only where the count stood.
pub record HasCause {T E : Type 0} (before now : ℕ) (result : Result T E) : Type 0 where
  pub later : before ≤ now
  pub failed : OnErr result (Rose before now)
  pub kept : OnOk result (now ≡ before)

-- A call that may fail in several ways does so by the outside only where the count rose. With every other answer the count stands.
abbrev pub HasCauseWhere : {T E : Type 0} → (E → Bool) → ℕ → ℕ → Result T E → Type 0
HasCauseWhere is_outside before now (Ok value) = now ≡ before
HasCauseWhere is_outside before now (Err fault) = MatchBool (is_outside fault) (Rose before now) (now ≡ before)
