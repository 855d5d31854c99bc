-- A reader of lines, and the bytes before it.
use Rattle.std.specs.Prelude.{◌≡◌, ◌⊎◌, ℕ, ◌+◌, ◌<◌, ◌≤◌, Bool, false, not, List, [], length, take, Contains, Some, None, ⊤, if◌then◌else◌}
use Rattle.std.specs.declared.option.Option.{Option}
use Rattle.std.specs.Io.KnownBytes.{prepend_known, Consumes, Keeps, IsAtEnd}
use Rattle.mcb_ends.specs.Lines.{Next, Text, TooLong, CutShort, End, IsNext, IsShortLine, is_text, newline}

-- the line that it handed out last, the bytes that it holds, whether it is done, and how many lines it handed out
pub record Reader : Type 0 where
  pub line : List ℕ
  pub held : List ℕ
  pub is_done : Bool
  pub number : ℕ

-- The bytes before a reader and its source are those that the reader holds and then those that the source has left. Before a
-- reader that is done there are none.
abbrev pub bytes_before : Reader → Option (List ℕ) → Option (List ℕ)
bytes_before reader left = if reader.is_done then Some [] else prepend_known reader.held left

-- Where bytes are told, they begin with this, and the rest is told afterwards.
abbrev pub Takes : Option (List ℕ) → Next → Option (List ℕ) → Type 0
Takes None next after = ⊤
Takes (Some bytes) next None = ⊥
Takes (Some bytes) next (Some rest) = IsNext bytes next rest

-- A text is a short line, also where no bytes are told.
abbrev pub IsLine : Next → Type 0
IsLine (Text line) = IsShortLine line
IsLine TooLong = ⊤
IsLine CutShort = ⊤
IsLine End = ⊤

-- Where the input ends at or before the end of a line, the source has nothing left.
abbrev pub HasEnded : Next → Option (List ℕ) → Type 0
HasEnded (Text line) left = ⊤
HasEnded TooLong left = ⊤
HasEnded CutShort left = IsAtEnd left
HasEnded End left = IsAtEnd left

-- A reader hands out what stands next in the bytes before it. After any but a text it is done.
pub record HandsOut (old new : Reader) (left left' : Option (List ℕ)) (next : Next) : Type 0 where
  pub bytes : Takes (bytes_before old left) next (bytes_before new left')
  pub form : IsLine next
  pub done : new.is_done ≡ not (is_text next)
  pub number : new.number ≡ (if is_text next then old.number + 1 else old.number)
  pub end : old.is_done ≡ false → HasEnded next left'

-- A reader that a fault stopped has the same bytes before it, and goes on from there.
pub record IsUnchanged (old new : Reader) (left left' : Option (List ℕ)) : Type 0 where
  pub bytes : Keeps (bytes_before old left) (bytes_before new left')
  pub done : new.is_done ≡ old.is_done
  pub number : new.number ≡ old.number

-- With what was read from the source, a reader held at most one buffer of 4,096 bytes.
abbrev pub ReadsOneBuffer : Reader → Option (List ℕ) → Option (List ℕ) → Type 0
ReadsOneBuffer old left left' = (more : List ℕ) × (length old.held + length more ≤ 4096) × Consumes left left' more

-- The bytes that a reader holds tell what stands next: a newline is among the first 81, or there are 81 of them.
abbrev pub IsInHand : Reader → Type 0
IsInHand reader = Contains (take 81 reader.held) newline ⊎ (80 < length reader.held)
