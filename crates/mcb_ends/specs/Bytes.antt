-- What a call leaves written, where a sink tells its bytes.
use Rattle.std.specs.Prelude.{ℕ, ◌≤◌, ◌<◌, List, length, take, ⊤, Ok, Err, Some, None}
use Rattle.std.specs.declared.result.Result.{Result}
use Rattle.std.specs.declared.option.Option.{Option}
use Rattle.std.specs.Borrow.{Bor}
use Rattle.std.specs.Coded.{Coded-set, coded_list, coded_ℕ, Unit-prop}
use Rattle.std.specs.Io.{StartsWith}
use Rattle.std.specs.Io.KnownBytes.{Appends}
use Rattle.std.specs.List.{flat_map}

-- Told bytes grow by a prefix of the text, perhaps by none or all of it.
abbrev pub AppendsPrefix : Option (List ℕ) → Option (List ℕ) → List ℕ → Type 0
AppendsPrefix old new text = (n : ℕ) × (n ≤ length text) × Appends old new (take n text)

-- The whole text was written at `Ok`, and a prefix of it at `Err`.
abbrev pub Writes : {T E : Type 0} → Option (List ℕ) → Option (List ℕ) → Result T E → List ℕ → Type 0
Writes old new (Ok _) text = Appends old new text
Writes old new (Err _) text = AppendsPrefix old new text

-- A sink that tells its room tells its bytes, and has failed only where they fill the room.
abbrev pub IsHonest : Option ℕ → Option (List ℕ) → ℕ → Type 0
IsHonest None written faults = ⊤
IsHonest (Some room) None faults = ⊥
IsHonest (Some room) (Some bytes) faults = 0 < faults → room ≤ length bytes

-- the pieces, one after the other
abbrev pub joined : List (Bor (List ℕ)) → List ℕ
joined pieces = flat_map (λ piece. piece.now) pieces

-- Told bytes stay told, at the front of what is told later.
abbrev pub HasGrown : Option (List ℕ) → Option (List ℕ) → Type 0
HasGrown None new = ⊤
HasGrown (Some xs) None = ⊥
HasGrown (Some xs) (Some ys) = StartsWith ys xs

pub HasGrown-prop : (old new : Option (List ℕ)) → IsProp (HasGrown old new)
HasGrown-prop None new = Unit-prop
HasGrown-prop (Some xs) None = λ x. absurd x
HasGrown-prop (Some xs) (Some ys) = Coded-set (coded_list coded_ℕ) (take (length xs) ys) xs
