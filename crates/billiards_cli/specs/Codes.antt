-- The exit status of the process.
use Rattle.std.specs.Prelude.{ℕ}
use Rattle.billiards_cli.specs.declared.status.Status.{Status}
use Rattle.billiards_cli.specs.declared.status.Status.TheVariants.{Done, NotShown, Usage, Malformed, ReadFault, WriteFault, OutOfMemory, Full}

abbrev pub code_of : Status → ℕ
code_of Done = 0
code_of NotShown = 1
code_of Usage = 2
code_of Malformed = 3
code_of ReadFault = 4
code_of WriteFault = 5
code_of OutOfMemory = 6
code_of Full = 7
