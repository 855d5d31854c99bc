-- What a command is to do.
use Rattle.std.specs.Prelude.{ℕ, Bool, true, false, List}
use Rattle.line_grammar.specs.Offence.{Grammar}
use Rattle.billiards_cli.specs.declared.status.Status.{Status}

-- what a command reads: nothing, or an input by a grammar
pub data Reading : Type 1 where
  Nothing : Reading
  By : Grammar → Reading

-- how much of its input a command reads for an answer: all of it; what comes before a line that is due; or either, all where no line offends
pub data Extent : Type 0 where
  ToTheEnd : Extent
  ToALine : Extent
  ToEither : Extent

-- whether there is an input
abbrev pub reads_input : Reading → Bool
reads_input Nothing = false
reads_input (By g) = true

-- a command: what it reads, and what it may answer
pub record Command : Type 1 where
  pub reads : Reading
  -- how much of the input it has read with a status
  pub reads_to : Status → Extent
  -- the right answers to an input: a status and a text
  pub IsRight : List ℕ → Status → List ℕ → Type 0
  -- the statuses that it may have on an input where nothing outside fails
  pub IsDue : List ℕ → Status → Type 0
