-- A run over a sink that gathers, once what it gathered was passed on.
use Rattle.std.proofs.Common.{◌≡◌, ◌⊎◌, inl, inr, refl, ℕ, List, Option, Some, None, IfSome, Result, Ok, Err, IsOk, subst, arith}
use Rattle.std.specs.Io.KnownBytes.{Appends}
use Rattle.mcb_ends.specs.Bytes.{Writes}
use Rattle.mcb_ends.specs.Causes.{HasCause, Rose}
use Rattle.mcb_ends.proofs.Gathering.{AppendsPrefix-written}
use Rattle.billiards_cli.specs.Command.{Command}
use Rattle.billiards_cli.specs.Requests.{command_of}
use Rattle.billiards_cli.specs.Services.{BeginsAnswer, WritesAnswer, Serves, IsDecided, status_after}
use Rattle.billiards_cli.specs.Streams.{Streams, MeetNoFault}
use Rattle.billiards_cli.specs.declared.request.Request.{Request}
use Rattle.billiards_cli.specs.declared.status.Status.{Status}
use Rattle.billiards_cli.specs.declared.status.Status.TheVariants.{Done, NotShown, Usage, Malformed, ReadFault, WriteFault, OutOfMemory, Full}
use Rattle.billiards_cli.proofs.Deciding.{decided}
use Rattle.billiards_cli.proofs.Serving.{IsWritten, served}

-- the sink that took it has what it had before, and nothing failed
abbrev pub StandsUnwritten : {T E : Type 0} → Streams → Streams → Result T E → Type 0
StandsUnwritten before after result = (after.written ≡ before.written) × (after.sink_faults ≡ before.sink_faults) × IsOk result

-- what the sink that took it has afterwards, where the run left `mid` and the passing on ended with the result
abbrev pub passed : Streams → Option (List ℕ) → ℕ → Streams
passed mid written faults = record { left = mid.left; source_faults = mid.source_faults; written = written; sink_faults = faults }

-- what passing on does: of each text that was written the sink has all, or a prefix
pub record PassesOn {T E : Type 0} (before mid after : Streams) (result : Result T E) : Type 0 where
  pub text : (text : List ℕ) → Appends before.written mid.written text → Writes before.written after.written result text
  pub cause : HasCause mid.sink_faults after.sink_faults result

answered : {T E : Type 0} (command : Command) (before mid : Streams) (written : Option (List ℕ)) (faults : ℕ) (status : Status) (result : Result T E)
    → IsWritten status → WritesAnswer command before mid status → mid.source_faults ≡ before.source_faults → mid.sink_faults ≡ before.sink_faults
    → PassesOn before mid (passed mid written faults) result → Serves command before (passed mid written faults) (status_after status result)
answered command before mid written faults status result is leaves stood kept on =
    let cause : HasCause before.sink_faults faults result = subst (λ (n : ℕ). HasCause n faults result) kept on.cause in
    served command before (passed mid written faults) status (status_after status result) leaves.text result is leaves.answer stood
    (on.text leaves.text leaves.written) cause refl

begun_on : {T E : Type 0} (command : Command) (before mid : Streams) (written : Option (List ℕ)) (faults : ℕ) (result : Result T E)
    → BeginsAnswer command before mid → PassesOn before mid (passed mid written faults) result
    → BeginsAnswer command before (passed mid written faults)
begun_on command before mid written faults result begins on =
    let prefix = begins.begun in
    record {
      input = begins.input;
      status = begins.status;
      text = begins.text;
      may_be = begins.may_be;
      right = begins.right;
      due = begins.due;
      read = begins.read;
      begun = AppendsPrefix-written before.written written begins.text prefix.0 result (on.text _ prefix.2);
    }

failed_on : {T E : Type 0} (command : Command) (before mid : Streams) (written : Option (List ℕ)) (faults : ℕ) (result : Result T E)
    → Serves command before mid WriteFault → PassesOn before mid (passed mid written faults) result
    → Serves command before (passed mid written faults) WriteFault
failed_on command before mid written faults result serves on =
    let rose : Rose before.sink_faults faults = omega (arith, serves.counts.1, on.cause.later) in
    record { leaves = begun_on command before mid written faults result serves.leaves on; counts = (serves.counts.0, rose) }

-- what was served stays so
pub passed_on : {T E : Type 0} (command : Command) (before mid : Streams) (written : Option (List ℕ)) (faults : ℕ) (status : Status) (result : Result T E)
    → Serves command before mid status → PassesOn before mid (passed mid written faults) result
    → ((status ≡ ReadFault) ⊎ (status ≡ OutOfMemory) → StandsUnwritten before (passed mid written faults) result)
    → Serves command before (passed mid written faults) (status_after status result)
passed_on command before mid written faults Done result serves on unwritten =
    answered command before mid written faults Done result tt serves.leaves serves.counts.0 serves.counts.1 on
passed_on command before mid written faults NotShown result serves on unwritten =
    answered command before mid written faults NotShown result tt serves.leaves serves.counts.0 serves.counts.1 on
passed_on command before mid written faults Malformed result serves on unwritten =
    answered command before mid written faults Malformed result tt serves.leaves serves.counts.0 serves.counts.1 on
passed_on command before mid written faults Full result serves on unwritten =
    answered command before mid written faults Full result tt serves.leaves serves.counts.0 serves.counts.1 on
passed_on command before mid written faults WriteFault (Ok value) serves on unwritten = failed_on command before mid written faults (Ok value) serves on
passed_on command before mid written faults WriteFault (Err error) serves on unwritten = failed_on command before mid written faults (Err error) serves on
passed_on command before mid written faults ReadFault (Ok value) serves on unwritten =
    let stands = unwritten (inl refl) in
    record { leaves = record { stops = serves.leaves.stops; unwritten = stands.0 }; counts = (serves.counts.0, stands.1) }
passed_on {T = T} {E = E} command before mid written faults ReadFault (Err error) serves on unwritten =
    let failed : IsOk {T = T} {E = E} (Err error) = (unwritten (inl refl)).2 in absurd cc
passed_on command before mid written faults OutOfMemory (Ok value) serves on unwritten =
    let stands = unwritten (inr refl) in
    record { leaves = record { answer = serves.leaves.answer; unwritten = stands.0 }; counts = (serves.counts.0, stands.1) }
passed_on {T = T} {E = E} command before mid written faults OutOfMemory (Err error) serves on unwritten =
    let failed : IsOk {T = T} {E = E} (Err error) = (unwritten (inr refl)).2 in absurd cc
passed_on command before mid written faults Usage result serves on unwritten = absurd serves.leaves

-- whatever is asked for
pub passed_on_asked : {T E : Type 0} (asked : Option Request) (before mid : Streams) (written : Option (List ℕ)) (faults : ℕ) (status : Status)
    (result : Result T E) → IfSome asked (λ request. Serves (command_of request) before mid status)
    → PassesOn before mid (passed mid written faults) result
    → ((status ≡ ReadFault) ⊎ (status ≡ OutOfMemory) → StandsUnwritten before (passed mid written faults) result)
    → IfSome asked (λ request. Serves (command_of request) before (passed mid written faults) (status_after status result))
passed_on_asked None before mid written faults status result serves on unwritten = tt
passed_on_asked (Some request) before mid written faults status result serves on unwritten =
    passed_on (command_of request) before mid written faults status result serves on unwritten

pub decided_asked : (asked : Option Request) (before after : Streams) (status : Status)
    → IfSome asked (λ request. Serves (command_of request) before after status) → MeetNoFault before after
    → IfSome asked (λ request. IsDecided (command_of request) before.left status)
decided_asked None before after status serves stood = tt
decided_asked (Some request) before after status serves stood = decided (command_of request) before after status serves stood
