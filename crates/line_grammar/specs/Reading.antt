-- What it is to read a part of a text: its lines are taken one after another, up to the first that offends.
use Rattle.std.specs.Prelude.{◌≡◌, ℕ, ◌+◌, ◌≤◌, ◌⊎◌, true, false, List, [], ◌∷◌, ◌++◌, All, length, Some, None, Ok, Err}
use Rattle.std.specs.declared.option.Option.{Option}
use Rattle.std.specs.declared.result.Result.{Result}
use Rattle.std.specs.Io.KnownBytes.{Consumes, IsAtEnd}
use Rattle.mcb_ends.specs.Lines.{IsShortLine}
use Rattle.mcb_ends.specs.Reader.{Reader, bytes_before}
use Rattle.line_grammar.specs.Faults.{Refusal}
use Rattle.line_grammar.specs.Input.{MayBe, IsNew}
use Rattle.line_grammar.specs.Offence.{Grammar, IsFirstOffence}
use Rattle.line_grammar.specs.Part.{Part}
use Rattle.line_grammar.specs.Text.{text_of}

-- ---- lines that were taken

-- The reader took these lines, and reads on.
pub record TakesLines (lines : List (List ℕ)) (old new : Reader) (left left' : Option (List ℕ)) : Type 0 where
  pub each : All IsShortLine lines
  pub bytes : Consumes (bytes_before old left) (bytes_before new left') (text_of lines)
  pub reading : new.is_done ≡ false
  pub number : new.number ≡ old.number + length lines

-- What was read ends at most one buffer of 4,096 bytes after these lines.
pub record EndsWithin (lines : List (List ℕ)) (old : Reader) (left left' : Option (List ℕ)) : Type 0 where
  pub more : List ℕ
  pub one_buffer : length more ≤ 4096
  pub read : Consumes (bytes_before old left) left' (text_of lines ++ more)

-- For lines that were taken this much was read, and for none nothing.
abbrev pub ReadsAhead : List (List ℕ) → Reader → Option (List ℕ) → Option (List ℕ) → Type 0
ReadsAhead [] old left left' = left' ≡ left
ReadsAhead (line ∷ lines) old left left' = EndsWithin (line ∷ lines) old left left'

-- ---- where a reader stops

-- The reader took these lines, and found no whole line after them: it is done.
pub record IsDoneAfter (lines : List (List ℕ)) (old new : Reader) : Type 0 where
  pub done : new.is_done ≡ true
  pub number : new.number ≡ old.number + length lines

-- The reader took these lines, and perhaps the line after them, or is done.
abbrev pub StandsAfter : List (List ℕ) → Reader → Reader → Option (List ℕ) → Option (List ℕ) → Type 0
StandsAfter lines old new left left' =
    TakesLines lines old new left left'
    ⊎ ((line : List ℕ) × TakesLines (lines ++ line ∷ []) old new left left')
    ⊎ IsDoneAfter lines old new

-- Reading stopped at the line that is due after these.
pub record StopsAfter (lines : List (List ℕ)) (old new : Reader) (left left' : Option (List ℕ)) : Type 0 where
  pub ahead : EndsWithin lines old left left'
  pub stands : StandsAfter lines old new left left'

-- ---- faults

-- The input offends first at this line, by this least reason, and reading stopped there.
pub record RefusesFirst (g : Grammar) (old new : Reader) (left left' : Option (List ℕ)) (refusal : Refusal) : Type 0 where
  pub bytes : List ℕ
  pub input : MayBe (bytes_before old left) bytes
  pub line : ℕ
  pub first : IsFirstOffence g bytes line refusal.reason
  pub number : refusal.line ≡ old.number + line
  pub stops : StopsAfter (g.lines_before first.due) old new left left'

-- Reading stopped at a due line that is reached.
pub record StopsEarly (g : Grammar) (old new : Reader) (left left' : Option (List ℕ)) : Type 0 where
  pub due : g.Due
  pub reached : g.IsReached due
  pub stops : StopsAfter (g.lines_before due) old new left left'

-- What was read ends at most one buffer of 4,096 bytes after the lines before this due line, which is reached.
pub record EndsAt (g : Grammar) (due : g.Due) (left left' : Option (List ℕ)) : Type 0 where
  pub reached : g.IsReached due
  pub more : List ℕ
  pub one_buffer : length more ≤ 4096
  pub read : Consumes left left' (text_of (g.lines_before due) ++ more)

-- A fault names the first line that offends, or comes at some due line.
abbrev pub FailsPart : Grammar → Reader → Reader → Option (List ℕ) → Option (List ℕ) → Option Refusal → Type 0
FailsPart g old new left left' (Some refusal) = RefusesFirst g old new left left' refusal
FailsPart g old new left left' None = StopsEarly g old new left left'

-- ---- a part that is read

-- The part said this, and exactly its lines were taken.
pub record TakesPart {V : Type 0} (part : Part V) (old new : Reader) (left left' : Option (List ℕ)) (value : V) : Type 0 where
  pub says : part.Says value
  pub taken : TakesLines (part.lines_of value) old new left left'
  pub ahead : ReadsAhead (part.lines_of value) old left left'

-- A reader takes a part, or fails in it. The faults are seen as refusals, as far as they are.
abbrev pub ReadsPart : {V F : Type 0} → Part V → (F → Option Refusal) → Reader → Reader → Option (List ℕ) → Option (List ℕ)
    → Result V F → Type 0
ReadsPart part refusal old new left left' (Ok value) = TakesPart part old new left left' value
ReadsPart part refusal old new left left' (Err fault) = FailsPart part.grammar old new left left' (refusal fault)

-- The input is the text of this value, and nothing is left.
pub record TakesText {V : Type 0} (part : Part V) (old : Reader) (left left' : Option (List ℕ)) (value : V) : Type 0 where
  pub says : part.Says value
  pub text : MayBe (bytes_before old left) (text_of (part.lines_of value))
  pub ended : IsAtEnd left'

-- A reader takes a part that ends with the text, and so the whole input, or fails in it.
abbrev pub ReadsText : {V F : Type 0} → Part V → (F → Option Refusal) → Reader → Reader → Option (List ℕ) → Option (List ℕ)
    → Result V F → Type 0
ReadsText part refusal old new left left' (Ok value) = TakesText part old left left' value
ReadsText part refusal old new left left' (Err fault) = FailsPart part.grammar old new left left' (refusal fault)

-- The input is read so by a reader of its own.
pub record ReadsInput {V F : Type 0} (part : Part V) (refusal : F → Option Refusal) (left left' : Option (List ℕ))
    (result : Result V F) : Type 0 where
  pub old : Reader
  pub new : Reader
  pub is_new : IsNew old
  pub reads : ReadsText part refusal old new left left' result
