-- The right answers of `check`.
use Rattle.std.proofs.Common.{ℕ, List, Option, refl, inl, inr}
use Rattle.line_grammar.specs.Input.{MayBe}
use Rattle.line_grammar.specs.Offence.{Grammar}
use Rattle.line_grammar.specs.declared.reason.Reason.{Reason}
use Rattle.line_grammar.specs.declared.reason.Reason.TheVariants.{NotApart, NotShown, Uncovered}
use Rattle.covering_file.specs.CheckClaims.{check_claims}
use Rattle.covering_file.specs.FilePart.{file_grammar}
use Rattle.covering_file.specs.Verdicts.{IsRefused}
use Rattle.covering_file.specs.declared.TheConstants.{MAX_NODES}
use Rattle.covering_file.proofs.Sure.{sure_is_not_refused}
use Rattle.billiards_cli.specs.Command.{By}
use Rattle.billiards_cli.specs.Commands.Check.{check_reads_to, IsCheckAnswer, IsCheckDue, refusal_status}
use Rattle.billiards_cli.specs.Refusals.{refused_text}
use Rattle.billiards_cli.specs.Requests.{command_of}
use Rattle.billiards_cli.specs.Services.{IsAnswer, ReadsFor, StopsAtNamed}
use Rattle.billiards_cli.specs.declared.request.Request.TheVariants as request
use Rattle.billiards_cli.specs.declared.status.Status.{Status}
use Rattle.billiards_cli.specs.declared.status.Status.TheVariants as status
use Rattle.billiards_cli.proofs.Serving.{IsWritten}

-- the grammar of what it reads
abbrev pub checked : Grammar
checked = file_grammar check_claims MAX_NODES

-- a file with a sure tree is not refused
pub check_answer_is_due : (input : List ℕ) (ending : Status) (text : List ℕ) → IsCheckAnswer input ending text → IsCheckDue input ending
check_answer_is_due input status.Done text answer sure = inl refl
check_answer_is_due input status.OutOfMemory text answer sure = inr refl
check_answer_is_due input status.Malformed text answer sure =
    absurd (sure_is_not_refused MAX_NODES input answer.line answer.reason sure answer.refused.first)
check_answer_is_due input status.NotShown text answer sure =
    absurd (sure_is_not_refused MAX_NODES input answer.line answer.reason sure answer.refused.first)
check_answer_is_due input ending text answer sure = absurd answer

-- a right answer is one that the command may give
pub check_answer : (left left' : Option (List ℕ)) (input : List ℕ) (ending : Status) (text : List ℕ)
    → MayBe left input → IsCheckAnswer input ending text → ReadsFor (By checked) (check_reads_to ending) text left left'
    → IsAnswer (command_of request.Check) left left' ending text
check_answer left left' input ending text may_be right read =
    record { input = input; may_be = may_be; right = right; due = check_answer_is_due input ending text right; read = read }

-- a refusal stops reading at its line, and goes with its status
pub refusal_reads : (line : ℕ) (why : Reason) (left left' : Option (List ℕ)) → StopsAtNamed checked (refused_text line why) left left'
    → ReadsFor (By checked) (check_reads_to (refusal_status why)) (refused_text line why) left left'
refusal_reads line NotApart left left' stops = stops
refusal_reads line NotShown left left' stops = stops
refusal_reads line Uncovered left left' stops = stops
refusal_reads line why left left' stops = stops

pub refusal_answer : (input : List ℕ) (line : ℕ) (why : Reason) → IsRefused MAX_NODES line why input
    → IsCheckAnswer input (refusal_status why) (refused_text line why)
refusal_answer input line NotApart refused =
    record { line = line; reason = NotApart; refused = record { first = refused; status_is = refl }; named = refl }
refusal_answer input line NotShown refused =
    record { line = line; reason = NotShown; refused = record { first = refused; status_is = refl }; named = refl }
refusal_answer input line Uncovered refused =
    record { line = line; reason = Uncovered; refused = record { first = refused; status_is = refl }; named = refl }
refusal_answer input line why refused = record { line = line; reason = why; refused = record { first = refused; status_is = refl }; named = refl }

pub refusal_is_written : (why : Reason) → IsWritten (refusal_status why)
refusal_is_written NotApart = tt
refusal_is_written NotShown = tt
refusal_is_written Uncovered = tt
refusal_is_written why = tt
