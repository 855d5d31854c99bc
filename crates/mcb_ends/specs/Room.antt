-- The room that a sink in memory tells.
use Rattle.std.specs.Prelude.{◌≡◌, ℕ, ◌<◌, ◌≤◌, List, [], ◌∷◌, length, refl, Some, None}
use Rattle.std.proofs.Common.{subst, sym, length-append}
use Rattle.std.proofs.Math.Nat.{le_trans, le-add_right}
use Rattle.std.specs.Io.KnownBytes.{append_known}
use Rattle.std.specs.declared.option.Option.{Option}
use Rattle.mcb_ends.specs.Bytes.{IsHonest}

-- told exactly where no call is to fail
abbrev pub told_room : List ℕ → ℕ → Option ℕ
told_room [] room = Some room
told_room (call ∷ calls) room = None

-- a sink that tells its room so is honest
pub IsHonest-told_room : (fails : List ℕ) (room : ℕ) (bytes : List ℕ) (faults : ℕ) → (fails ≡ [] → 0 < faults → room ≤ length bytes)
    → IsHonest (told_room fails room) (Some bytes) faults
IsHonest-told_room [] room bytes faults fact = fact refl
IsHonest-told_room (call ∷ calls) room bytes faults fact = tt

-- more bytes keep a sink honest
pub IsHonest-append_known : (room : Option ℕ) (written : Option (List ℕ)) (faults : ℕ) (bytes : List ℕ)
    → IsHonest room written faults → IsHonest room (append_known written bytes) faults
IsHonest-append_known None written faults bytes honest = tt
IsHonest-append_known (Some room) None faults bytes honest = absurd honest
IsHonest-append_known (Some room) (Some xs) faults bytes honest = λ some.
    subst (λ n. room ≤ n) (sym (length-append xs bytes)) (le_trans (honest some) (le-add_right (length xs) (length bytes)))
