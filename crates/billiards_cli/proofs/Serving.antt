-- An answer that was to be written makes up what is said of a run.
use Rattle.std.proofs.Common.{◌≡◌, ℕ, List, Result, Ok, Err, sym, subst}
use Rattle.mcb_ends.specs.Bytes.{AppendsPrefix, Writes}
use Rattle.mcb_ends.specs.Causes.{HasCause}
use Rattle.billiards_cli.specs.Command.{Command}
use Rattle.billiards_cli.specs.Services.{IsAnswer, BeginsAnswer, Serves, status_after}
use Rattle.billiards_cli.specs.Streams.{Streams}
use Rattle.billiards_cli.specs.declared.status.Status.{Status}
use Rattle.billiards_cli.specs.declared.status.Status.TheVariants.{Done, NotShown, Usage, Malformed, ReadFault, WriteFault, OutOfMemory, Full}

-- the statuses of answers that are written
abbrev pub IsWritten : Status → Type 0
IsWritten Done = Unit {0}
IsWritten NotShown = Unit {0}
IsWritten Malformed = Unit {0}
IsWritten Full = Unit {0}
IsWritten status = ⊥

-- a right answer of which a prefix was written
begins : (command : Command) (before after : Streams) (status : Status) (text : List ℕ) → IsAnswer command before.left after.left status text
    → AppendsPrefix before.written after.written text → BeginsAnswer command before after
begins command before after status text answer begun = record {
  input = answer.input;
  status = status;
  text = text;
  may_be = answer.may_be;
  right = answer.right;
  due = λ _. answer.due;
  read = answer.read;
  begun = begun;
}

served_after : {T E : Type 0} (command : Command) (before after : Streams) (status : Status) (text : List ℕ) (result : Result T E)
    → IsWritten status → IsAnswer command before.left after.left status text → after.source_faults ≡ before.source_faults
    → Writes before.written after.written result text → HasCause before.sink_faults after.sink_faults result
    → Serves command before after (status_after status result)
served_after command before after Done text (Ok value) is answer stood writes cause =
    record { leaves = record { text = text; answer = answer; written = writes }; counts = (stood, cause.kept) }
served_after command before after NotShown text (Ok value) is answer stood writes cause =
    record { leaves = record { text = text; answer = answer; written = writes }; counts = (stood, cause.kept) }
served_after command before after Malformed text (Ok value) is answer stood writes cause =
    record { leaves = record { text = text; answer = answer; written = writes }; counts = (stood, cause.kept) }
served_after command before after Full text (Ok value) is answer stood writes cause =
    record { leaves = record { text = text; answer = answer; written = writes }; counts = (stood, cause.kept) }
served_after command before after status text (Err error) is answer stood writes cause =
    record { leaves = begins command before after status text answer writes; counts = (stood, cause.failed) }
served_after command before after Usage text (Ok value) is answer stood writes cause = absurd is
served_after command before after ReadFault text (Ok value) is answer stood writes cause = absurd is
served_after command before after WriteFault text (Ok value) is answer stood writes cause = absurd is
served_after command before after OutOfMemory text (Ok value) is answer stood writes cause = absurd is

-- a right answer that was to be written
pub served : {T E : Type 0} (command : Command) (before after : Streams) (status ending : Status) (text : List ℕ) (result : Result T E)
    → IsWritten status → IsAnswer command before.left after.left status text → after.source_faults ≡ before.source_faults
    → Writes before.written after.written result text → HasCause before.sink_faults after.sink_faults result
    → ending ≡ status_after status result → Serves command before after ending
served command before after status ending text result is answer stood writes cause ends =
    subst (λ (s : Status). Serves command before after s) (sym ends) (served_after command before after status text result is answer stood writes cause)
