-- What a run of a command does to its source and its sink.
use Rattle.std.specs.Prelude.{◌≡◌, ◌≢◌, ◌⊎◌, ℕ, ◌+◌, List, [], length, ⊤}
use Rattle.std.specs.declared.option.Option.{Option}
use Rattle.std.specs.declared.result.Result.{Result}
use Rattle.std.specs.declared.result.Result.TheVariants.{Ok, Err}
use Rattle.std.specs.Io.KnownBytes.{Appends, IsAtEnd}
use Rattle.mcb_ends.specs.Bytes.{AppendsPrefix}
use Rattle.mcb_ends.specs.Causes.{Rose}
use Rattle.line_grammar.specs.Input.{MayBe}
use Rattle.line_grammar.specs.Offence.{Grammar, IsFirstOffence}
use Rattle.line_grammar.specs.declared.reason.Reason.{Reason}
use Rattle.line_grammar.specs.Reading.{EndsAt}
use Rattle.billiards_cli.specs.Command.{Reading, Nothing, By, Extent, ToTheEnd, ToALine, ToEither, Command}
use Rattle.billiards_cli.specs.Refusals.{refused_text}
use Rattle.billiards_cli.specs.Streams.{Streams}
use Rattle.billiards_cli.specs.declared.status.Status.{Status}
use Rattle.billiards_cli.specs.declared.status.Status.TheVariants.{Done, NotShown, Usage, Malformed, ReadFault, WriteFault, OutOfMemory, Full}

-- ---- how much was read

-- the line that a refusal names; a text that is empty names none
abbrev pub MayName : List ℕ → ℕ → Type 0
MayName text line = (text ≡ []) ⊎ ((reason : Reason) × (text ≡ refused_text line reason))

-- Reading stopped at a due line that is reached, which the text may name: at most one buffer of 4,096 bytes after the lines before it was
-- read.
pub record StopsAtNamed (g : Grammar) (text : List ℕ) (left left' : Option (List ℕ)) : Type 0 where
  pub due : g.Due
  pub named : MayName text (length (g.lines_before due) + 1)
  pub ends : EndsAt g due left left'

-- An input, or some input where the source does not tell its own, was read to its end: no line of it offends.
pub record ReadsWhole (g : Grammar) (left left' : Option (List ℕ)) : Type 0 where
  pub input : List ℕ
  pub may_be : MayBe left input
  pub taken : (line : ℕ) (reason : Reason) → ¬ (IsFirstOffence g input line reason)
  pub ended : IsAtEnd left'

-- an answer was read for: to the end of the input, or as far as the line that it names
abbrev pub ReadsFor : Reading → Extent → List ℕ → Option (List ℕ) → Option (List ℕ) → Type 0
ReadsFor Nothing extent text left left' = ⊤
ReadsFor (By g) ToTheEnd text left left' = IsAtEnd left'
ReadsFor (By g) ToALine text left left' = StopsAtNamed g text left left'
ReadsFor (By g) ToEither text left left' = StopsAtNamed g text left left' ⊎ ReadsWhole g left left'

-- a read failed: at some due line
abbrev pub FailsIn : Reading → Option (List ℕ) → Option (List ℕ) → Type 0
FailsIn Nothing left left' = ⊥
FailsIn (By g) left left' = (due : g.Due) × EndsAt g due left left'

-- ---- what was written

-- A right answer to the input, or to some input where the source does not tell its own: the status is one that the input may have,
-- and no more was read than it takes.
pub record IsAnswer (command : Command) (left left' : Option (List ℕ)) (status : Status) (text : List ℕ) : Type 0 where
  pub input : List ℕ
  pub may_be : MayBe left input
  pub right : command.IsRight input status text
  pub due : command.IsDue input status
  pub read : ReadsFor command.reads (command.reads_to status) text left left'

-- the whole text of a right answer was written
pub record WritesAnswer (command : Command) (before after : Streams) (status : Status) : Type 0 where
  pub text : List ℕ
  pub answer : IsAnswer command before.left after.left status text
  pub written : Appends before.written after.written text

-- A prefix of the text of a right answer was written. A text that goes with WriteFault itself is one that may go on; the input has no part in
-- that status.
pub record BeginsAnswer (command : Command) (before after : Streams) : Type 0 where
  pub input : List ℕ
  pub status : Status
  pub text : List ℕ
  pub may_be : MayBe before.left input
  pub right : command.IsRight input status text
  pub due : status ≢ WriteFault → command.IsDue input status
  pub read : ReadsFor command.reads (command.reads_to status) text before.left after.left
  pub begun : AppendsPrefix before.written after.written text

-- memory was wanting, where that is a right answer, and nothing was written
pub record WantsMemory (command : Command) (before after : Streams) : Type 0 where
  pub answer : IsAnswer command before.left after.left OutOfMemory []
  pub unwritten : after.written ≡ before.written

-- a read failed, and nothing was written
pub record FailsToRead (command : Command) (before after : Streams) : Type 0 where
  pub stops : FailsIn command.reads before.left after.left
  pub unwritten : after.written ≡ before.written

-- ---- a run

-- what was read and written, by the status; that the arguments ask for nothing is no answer of a command
abbrev pub Leaves : Command → Streams → Streams → Status → Type 0
Leaves command before after Done = WritesAnswer command before after Done
Leaves command before after NotShown = WritesAnswer command before after NotShown
Leaves command before after Malformed = WritesAnswer command before after Malformed
Leaves command before after Full = WritesAnswer command before after Full
Leaves command before after WriteFault = BeginsAnswer command before after
Leaves command before after OutOfMemory = WantsMemory command before after
Leaves command before after ReadFault = FailsToRead command before after
Leaves command before after Usage = ⊥

-- which count of faults rose, by the status; the other stands
abbrev pub CountsAfter : Streams → Streams → Status → Type 0
CountsAfter before after ReadFault = Rose before.source_faults after.source_faults × (after.sink_faults ≡ before.sink_faults)
CountsAfter before after WriteFault = (after.source_faults ≡ before.source_faults) × Rose before.sink_faults after.sink_faults
CountsAfter before after status = (after.source_faults ≡ before.source_faults) × (after.sink_faults ≡ before.sink_faults)

-- what a run of a command does, by its status
pub record Serves (command : Command) (before after : Streams) (status : Status) : Type 0 where
  pub leaves : Leaves command before after status
  pub counts : CountsAfter before after status

-- the status is one that the command may have on the input where nothing outside fails
pub record IsDecided (command : Command) (left : Option (List ℕ)) (status : Status) : Type 0 where
  pub input : List ℕ
  pub may_be : MayBe left input
  pub due : command.IsDue input status

-- how a run ends whose answer was to be written
abbrev pub status_after : {T E : Type 0} → Status → Result T E → Status
status_after status (Ok value) = status
status_after status (Err error) = WriteFault
