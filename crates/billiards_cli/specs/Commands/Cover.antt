-- The command `cover`: a covering file for a job that is read from the input.
use Rattle.std.specs.Prelude.{◌≡◌, ◌⊎◌, ℕ, List, [], ◌∷◌, Some, None, ⊤}
use Rattle.std.specs.declared.option.Option.{Option}
use Rattle.line_grammar.specs.Offence.{IsFirstOffence}
use Rattle.line_grammar.specs.declared.reason.Reason.{Reason}
use Rattle.covering_file.specs.Header.{Heading, IsHeading, job_text}
use Rattle.covering_file.specs.Faults.{BeginsFile}
use Rattle.covering_file.specs.HeaderPart.{job_part}
use Rattle.covering_file.specs.declared.TheConstants.{MAX_NODES}
use Rattle.covering_file.specs.declared.file_kind.FileKind.TheVariants.{Job}
use Rattle.coverer.specs.Begun.{IsCover, IsBegunText}
use Rattle.coverer.specs.declared.answer.Covered.{Covered}
use Rattle.coverer.specs.declared.answer.Covered.TheVariants as covered
use Rattle.billiards_cli.specs.Refusals.{RefusesLine}
use Rattle.billiards_cli.specs.Command.{Extent, ToTheEnd, ToALine, ToEither}
use Rattle.billiards_cli.specs.declared.request.Request.{Request}
use Rattle.billiards_cli.specs.declared.request.Request.TheVariants as request
use Rattle.billiards_cli.specs.declared.status.Status.{Status}
use Rattle.billiards_cli.specs.declared.status.Status.TheVariants.{Done, NotShown, Malformed, WriteFault, OutOfMemory, Full}

-- it takes no arguments
abbrev pub cover_request : List (List ℕ) → Option Request
cover_request [] = Some request.Cover
cover_request (argument ∷ more) = None

-- ---- the input

-- the input is the text of a job, and nothing more
pub record IsJobText (input : List ℕ) (h : Heading) : Type 0 where
  pub is_heading : IsHeading h
  pub text : input ≡ job_text h

-- the input offends first at this line, counted from 1, and this is the least of its reasons there
abbrev pub IsRefusedJob : List ℕ → ℕ → Reason → Type 0
IsRefusedJob input line reason = IsFirstOffence job_part.grammar input line reason

-- ---- the text

-- that of a covering of the job's region with this end
pub record CoversJob (input : List ℕ) (end : Covered) (text : List ℕ) : Type 0 where
  pub heading : Heading
  pub job : IsJobText input heading
  pub cover : IsCover MAX_NODES heading end text

-- that of a covering that may go on
pub record BeginsToCover (input text : List ℕ) : Type 0 where
  pub heading : Heading
  pub job : IsJobText input heading
  pub begun : IsBegunText MAX_NODES heading text

-- ---- the command

pub record CoverWantsMemory (input text : List ℕ) : Type 0 where
  pub begins : BeginsFile Job input
  pub text_is : text ≡ []

-- Done where the whole tree has no uncovered box, and not shown where it has some; full where the most nodes are written and more are due.
-- The first line that offends is refused. Memory is wanting only after the first line of a job. Where the sink fails, it has a prefix of the
-- text of a covering that may go on.
abbrev pub IsCoverAnswer : List ℕ → Status → List ℕ → Type 0
IsCoverAnswer input Done text = (nodes : ℕ) × CoversJob input (covered.Complete nodes) text
IsCoverAnswer input NotShown text = (nodes left : ℕ) × CoversJob input (covered.OpenBoxes nodes left) text
IsCoverAnswer input Full text = (nodes : ℕ) × CoversJob input (covered.Full nodes) text
IsCoverAnswer input Malformed text = RefusesLine (IsRefusedJob input) text
IsCoverAnswer input WriteFault text = BeginsToCover input text
IsCoverAnswer input OutOfMemory text = CoverWantsMemory input text
IsCoverAnswer input status text = ⊥

-- the statuses of a job, which is not refused
abbrev pub EndsJob : Status → Type 0
EndsJob Done = ⊤
EndsJob NotShown = ⊤
EndsJob Full = ⊤
EndsJob OutOfMemory = ⊤
EndsJob status = ⊥

-- a job is covered, and any other input refused, unless memory is wanting
pub record IsCoverDue (input : List ℕ) (status : Status) : Type 0 where
  pub covered : (h : Heading) → IsJobText input h → EndsJob status
  pub refused : ¬ ((h : Heading) × IsJobText input h) → (status ≡ Malformed) ⊎ (status ≡ OutOfMemory)

-- it writes a covering only at the end of the input, and may want memory before that or there
abbrev pub cover_reads_to : Status → Extent
cover_reads_to Done = ToTheEnd
cover_reads_to NotShown = ToTheEnd
cover_reads_to Full = ToTheEnd
cover_reads_to WriteFault = ToTheEnd
cover_reads_to OutOfMemory = ToEither
cover_reads_to status = ToALine
