-- The right answers of `cover`.
use Rattle.std.proofs.Common.{ℕ, List, [], ◌∷◌, ◌++◌, length, Option, codes, refl, subst, inl, inr, append_assoc}
use Rattle.mcb_ends.specs.Lines.{newline}
use Rattle.line_grammar.specs.Input.{MayBe}
use Rattle.line_grammar.specs.Offence.{IsFirstOffence}
use Rattle.line_grammar.specs.Text.{text_of, named_line}
use Rattle.line_grammar.specs.declared.reason.Reason.{Reason}
use Rattle.covering_file.specs.Header.{Heading, IsHeading, first_line, region_lines, words_lines, job_text}
use Rattle.covering_file.specs.Faults.{BeginsFile}
use Rattle.covering_file.specs.HeaderPart.{job_part}
use Rattle.covering_file.specs.declared.file_kind.FileKind.TheVariants.{Job}
use Rattle.covering_file.proofs.HeaderLaws.{job_never_offends}
use Rattle.covering_file.proofs.HeadLines.{first_line-short, some_version}
use Rattle.covering_file.specs.declared.TheConstants.{MAX_NODES}
use Rattle.coverer.specs.Begun.{IsCover}
use Rattle.coverer.specs.declared.answer.Covered.{Covered}
use Rattle.coverer.proofs.Sure.{complete_is_sure_lem}
use Rattle.billiards_cli.specs.Command.{By}
use Rattle.billiards_cli.specs.Commands.Cover.{IsJobText, IsRefusedJob, CoversJob, IsCoverAnswer, IsCoverDue, cover_reads_to}
use Rattle.billiards_cli.specs.Laws.{CompleteIsAccepted}
use Rattle.billiards_cli.specs.Requests.{command_of}
use Rattle.billiards_cli.specs.Services.{IsAnswer, ReadsFor}
use Rattle.billiards_cli.specs.declared.request.Request.TheVariants as request
use Rattle.billiards_cli.specs.declared.status.Status.{Status}
use Rattle.billiards_cli.specs.declared.status.Status.TheVariants.{Done, NotShown, Usage, Malformed, ReadFault, WriteFault, OutOfMemory, Full}
use Rattle.billiards_cli.proofs.CheckAnswers.{check_answer_is_due}

-- the text of a job does not offend
pub job_is_not_refused : (input : List ℕ) (h : Heading) (line : ℕ) (reason : Reason) → IsJobText input h → IsRefusedJob input line reason → ⊥
job_is_not_refused input h line reason job refused =
    job_never_offends h line reason job.is_heading (subst (λ (xs : List ℕ). IsFirstOffence job_part.grammar xs line reason) job.text refused)

-- any other status than that of a sink that failed
abbrev pub IsNoFault : Status → Type 0
IsNoFault WriteFault = ⊥
IsNoFault status = Unit {0}

cover_answer_is_due : (input : List ℕ) (status : Status) (text : List ℕ) → IsNoFault status → IsCoverAnswer input status text → IsCoverDue input status
cover_answer_is_due input Done text no_fault answer =
    record { covered = λ h job. tt; refused = λ none. absurd (none (answer.1.heading, answer.1.job)) }
cover_answer_is_due input NotShown text no_fault answer =
    record { covered = λ h job. tt; refused = λ none. absurd (none (answer.2.heading, answer.2.job)) }
cover_answer_is_due input Full text no_fault answer =
    record { covered = λ h job. tt; refused = λ none. absurd (none (answer.1.heading, answer.1.job)) }
cover_answer_is_due input Malformed text no_fault answer =
    record { covered = λ h job. absurd (job_is_not_refused input h answer.line answer.reason job answer.refused); refused = λ none. inl refl }
cover_answer_is_due input OutOfMemory text no_fault answer = record { covered = λ h job. tt; refused = λ none. inr refl }
cover_answer_is_due input WriteFault text no_fault answer = absurd no_fault
cover_answer_is_due input ReadFault text no_fault answer = absurd answer
cover_answer_is_due input Usage text no_fault answer = absurd answer

-- a right answer is one that the command may give
pub cover_answer : (left left' : Option (List ℕ)) (input : List ℕ) (status : Status) (text : List ℕ) → IsNoFault status
    → MayBe left input → IsCoverAnswer input status text → ReadsFor (By job_part.grammar) (cover_reads_to status) text left left'
    → IsAnswer (command_of request.Cover) left left' status text
cover_answer left left' input status text no_fault may_be right read =
    record { input = input; may_be = may_be; right = right; due = cover_answer_is_due input status text no_fault right; read = read }

-- the text of a job begins with its first line
pub job_begins : (h : Heading) → IsHeading h → BeginsFile Job (job_text h)
job_begins h is =
    let others = (region_lines h.version h.region ++ words_lines h.words ++ named_line (codes "depth") h.depth ∷ []) ++ codes "end" ∷ [] in
    let version = some_version h.version (length h.region) is.version in (
      h.version,
      version,
      (
        text_of others,
        (
          first_line-short Job h.version version,
          append_assoc (first_line Job h.version) (newline ∷ []) (text_of others),
        ),
      ),
    )

-- a covering of the region of a job
pub covers_job : (h : Heading) (end : Covered) (text : List ℕ) → IsHeading h → IsCover MAX_NODES h end text → CoversJob (job_text h) end text
covers_job h end text is cover = record { heading = h; job = record { is_heading = is; text = refl }; cover = cover }

-- a complete file is accepted
pub complete_is_accepted : CompleteIsAccepted
complete_is_accepted input file answer =
    let covers = answer.1 in
    let sure = complete_is_sure_lem MAX_NODES answer.0 covers.heading file covers.job.is_heading covers.cover in
    (sure, λ status line checked. check_answer_is_due file status line checked sure)
