-- The right answers of `demo`.
use Rattle.std.proofs.Common.{◌≢◌, ℕ, zero, suc, List, Option, refl, inl, inr}
use Rattle.line_grammar.specs.declared.reason.Reason.{Reason}
use Rattle.line_grammar.specs.declared.reason.Reason.TheVariants as reason
use Rattle.covering_file.specs.declared.TheConstants.{MAX_NODES}
use Rattle.covering_file.proofs.Sure.{sure_is_not_refused}
use Rattle.cover_checker.specs.Verdicts.{IsRight}
use Rattle.cover_checker.specs.declared.verdict.Verdict.{Verdict}
use Rattle.cover_checker.specs.declared.verdict.Verdict.TheVariants.{Accepted, Refused}
use Rattle.coverer.specs.Begun.{IsCover}
use Rattle.coverer.specs.declared.answer.Covered.TheVariants.{Complete}
use Rattle.coverer.proofs.Sure.{complete_is_sure_lem}
use Rattle.billiards_cli.specs.Commands.Check.{IsCheckAnswer, refusal_status}
use Rattle.billiards_cli.specs.Commands.Demo.{IsDemoAnswer, IsDemoDue, demo_text, verdict_text, covered_with, status_with}
use Rattle.billiards_cli.specs.Jobs.{IsJobNumber, job_heading}
use Rattle.billiards_cli.specs.Requests.{command_of}
use Rattle.billiards_cli.specs.Services.{IsAnswer}
use Rattle.billiards_cli.specs.declared.request.Request.TheVariants as request
use Rattle.billiards_cli.specs.declared.status.Status.{Status}
use Rattle.billiards_cli.specs.declared.status.Status.TheVariants.{Done, NotShown, OutOfMemory}
use Rattle.billiards_cli.proofs.CheckAnswers.{refusal_answer}
use Rattle.billiards_cli.proofs.Inputs.{some_input}
use Rattle.billiards_cli.proofs.Jobs.{generated_is_job}
use Rattle.billiards_cli.proofs.Serving.{IsWritten}

demo_answer_is_due : (k : ℕ) (status : Status) (text : List ℕ) → IsDemoAnswer k status text → IsDemoDue status
demo_answer_is_due k Done text answer = inl refl
demo_answer_is_due k NotShown text answer = inr (inl refl)
demo_answer_is_due k OutOfMemory text answer = inr (inr refl)
demo_answer_is_due k status text answer = absurd answer

-- a right answer is one that the command may give, whatever the input
pub demo_answer : (k : ℕ) (left : Option (List ℕ)) (status : Status) (text : List ℕ) → IsDemoAnswer k status text
    → IsAnswer (command_of (request.Demo k)) left left status text
demo_answer k left status text right =
    let some = some_input left in
    record { input = some.0; may_be = some.1; right = right; due = demo_answer_is_due k status text right; read = tt }

-- ---- the verdict

abbrev verdict_status : Verdict → Status
verdict_status (Accepted nodes words) = Done
verdict_status (Refused line why) = refusal_status why

verdict_answer : (file : List ℕ) (verdict : Verdict) → IsRight MAX_NODES file verdict → IsCheckAnswer file (verdict_status verdict) (verdict_text verdict)
verdict_answer file (Accepted nodes words) right = record { nodes = nodes; words = words; accepted = right; text_is = refl }
verdict_answer file (Refused line why) right = refusal_answer file line why right

is_refusal : (why : Reason) → refusal_status why ≢ OutOfMemory
is_refusal reason.NotApart = λ is. cc
is_refusal reason.NotShown = λ is. cc
is_refusal reason.Uncovered = λ is. cc
is_refusal why = λ is. cc

is_verdict : (verdict : Verdict) → verdict_status verdict ≢ OutOfMemory
is_verdict (Accepted nodes words) = λ is. cc
is_verdict (Refused line why) = is_refusal why

-- a complete file is accepted
accepted : (k nodes : ℕ) (file : List ℕ) (verdict : Verdict) → IsJobNumber k → IsCover MAX_NODES (job_heading k) (Complete nodes) file
    → IsRight MAX_NODES file verdict → IsCheckAnswer file Done (verdict_text verdict)
accepted k nodes file (Accepted n w) is cover right = record { nodes = n; words = w; accepted = right; text_is = refl }
accepted k nodes file (Refused line why) is cover right =
    let sure = complete_is_sure_lem MAX_NODES nodes (job_heading k) file (generated_is_job k is) cover in
    absurd (sure_is_not_refused MAX_NODES file line why sure right)

-- ---- what is made

pub made_answer : (k nodes left : ℕ) (verdict : Verdict) (file : List ℕ) → IsJobNumber k → IsCover MAX_NODES (job_heading k) (covered_with nodes left) file
    → IsRight MAX_NODES file verdict → IsDemoAnswer k (status_with left) (demo_text k nodes left (verdict_text verdict))
made_answer k nodes zero verdict file is cover right =
    (nodes, verdict_text verdict, record { file = file; cover = cover; checked = accepted k nodes file verdict is cover right; is_verdict = λ is. cc }, refl)
made_answer k nodes (suc more) verdict file is cover right = (
  nodes,
  suc more,
  verdict_status verdict,
  verdict_text verdict,
  record { file = file; cover = cover; checked = verdict_answer file verdict right; is_verdict = is_verdict verdict },
  refl,
)

pub made_is_written : (left : ℕ) → IsWritten (status_with left)
made_is_written zero = tt
made_is_written (suc more) = tt
