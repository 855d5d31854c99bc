-- A run that met no fault has a status that is due.
use Rattle.std.proofs.Common.{◌≡◌, ◌≢◌, ℕ, List, Option, Some, IfSome, [], subst, arith}
use Rattle.mcb_ends.specs.Causes.{Rose}
use Rattle.billiards_cli.specs.Command.{Command}
use Rattle.billiards_cli.specs.Requests.{command_of}
use Rattle.billiards_cli.specs.Services.{IsAnswer, Serves, IsDecided}
use Rattle.billiards_cli.specs.Streams.{Streams, Stands, MeetNoFault}
use Rattle.billiards_cli.specs.declared.request.Request.{Request}
use Rattle.billiards_cli.specs.declared.status.Status.{Status}
use Rattle.billiards_cli.specs.declared.status.Status.TheVariants.{Done, NotShown, Usage, Malformed, ReadFault, WriteFault, OutOfMemory, Full}

not_risen : (before now : ℕ) → Stands before now → Rose before now → ⊥
not_risen before now stands rose = omega (arith, stands.0, stands.1, rose)

answer_is_due : (command : Command) (left left' : Option (List ℕ)) (status : Status) (text : List ℕ)
    → IsAnswer command left left' status text → IsDecided command left status
answer_is_due command left left' status text answer =
    record { input = answer.input; may_be = answer.may_be; due = answer.due }

pub decided : (command : Command) (before after : Streams) (status : Status) → Serves command before after status → MeetNoFault before after
    → IsDecided command before.left status
decided command before after Done serves stood = answer_is_due command before.left after.left Done serves.leaves.text serves.leaves.answer
decided command before after NotShown serves stood = answer_is_due command before.left after.left NotShown serves.leaves.text serves.leaves.answer
decided command before after Malformed serves stood = answer_is_due command before.left after.left Malformed serves.leaves.text serves.leaves.answer
decided command before after Full serves stood = answer_is_due command before.left after.left Full serves.leaves.text serves.leaves.answer
decided command before after OutOfMemory serves stood = answer_is_due command before.left after.left OutOfMemory [] serves.leaves.answer
decided command before after ReadFault serves stood = absurd (not_risen before.source_faults after.source_faults stood.source serves.counts.0)
decided command before after WriteFault serves stood = absurd (not_risen before.sink_faults after.sink_faults stood.sink serves.counts.1)
decided command before after Usage serves stood = absurd serves.leaves

-- what is asked for is decided
pub decided_if_asked : (asked : Option Request) (request : Request) (before after : Streams) (status : Status)
    → asked ≡ Some request → Serves (command_of request) before after status → MeetNoFault before after
    → IfSome asked (λ request. IsDecided (command_of request) before.left status)
decided_if_asked asked request before after status is serves stood = rw is (decided (command_of request) before after status serves stood)

-- that the arguments ask for nothing is no answer of a command
pub not_usage : (command : Command) (before after : Streams) (status : Status) → Serves command before after status → status ≢ Usage
not_usage command before after status serves is =
    let serves_usage : Serves command before after Usage = subst (λ (s : Status). Serves command before after s) is serves in serves_usage.leaves
