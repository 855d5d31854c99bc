-- The command `demo`: the covering of a generated job, and the verdict on the file that was made.
use Rattle.std.specs.Prelude.{◌≡◌, ◌≢◌, ◌⊎◌, ℕ, zero, suc, List, [], ◌∷◌, ◌++◌, codes, None}
use Rattle.std.specs.Option.{option_map}
use Rattle.std.specs.declared.option.Option.{Option}
use Rattle.std.specs.List.{concat}
use Rattle.std.specs.Fmt.{decimal}
use Rattle.covering_file.specs.declared.TheConstants.{MAX_NODES}
use Rattle.cover_checker.specs.Verdicts.{IsRight}
use Rattle.cover_checker.specs.declared.verdict.Verdict.{Verdict}
use Rattle.cover_checker.specs.declared.verdict.Verdict.TheVariants.{Accepted, Refused}
use Rattle.coverer.specs.Begun.{IsCover}
use Rattle.coverer.specs.declared.answer.Covered.{Covered}
use Rattle.coverer.specs.declared.answer.Covered.TheVariants as covered
use Rattle.billiards_cli.specs.Commands.Check.{IsCheckAnswer, accepted_text}
use Rattle.billiards_cli.specs.Jobs.{IsJobNumber, job_number, job_heading}
use Rattle.billiards_cli.specs.Refusals.{newline, refused_text}
use Rattle.billiards_cli.specs.declared.commands.demo.making.Made.{Made}
use Rattle.billiards_cli.specs.declared.request.Request.{Request}
use Rattle.billiards_cli.specs.declared.request.Request.TheVariants as request
use Rattle.billiards_cli.specs.declared.status.Status.{Status}
use Rattle.billiards_cli.specs.declared.status.Status.TheVariants.{Done, NotShown, OutOfMemory}

-- it takes the number of a job
abbrev pub demo_request : List (List ℕ) → Option Request
demo_request (text ∷ []) = option_map request.Demo (job_number text)
demo_request arguments = None

-- the number of the job, how many nodes its covering has, and how many of them are uncovered
abbrev pub covered_text : ℕ → ℕ → ℕ → List ℕ
covered_text k nodes left =
    concat (codes "job " ∷ decimal k ∷ codes "\ncovered nodes=" ∷ decimal nodes ∷ codes " open=" ∷ decimal left ∷ newline ∷ [])

-- and then the line of a verdict
abbrev pub demo_text : ℕ → ℕ → ℕ → List ℕ → List ℕ
demo_text k nodes left line = covered_text k nodes left ++ line

-- the job was covered with this end, and on the file that was made `check` may write this line with this status
pub record CoversAndChecks (k : ℕ) (end : Covered) (verdict : Status) (line : List ℕ) : Type 0 where
  pub file : List ℕ
  pub cover : IsCover MAX_NODES (job_heading k) end file
  pub checked : IsCheckAnswer file verdict line
  pub is_verdict : verdict ≢ OutOfMemory

-- Done where the file is complete, which is then accepted, and not shown where boxes are left uncovered.
abbrev pub IsDemoAnswer : ℕ → Status → List ℕ → Type 0
IsDemoAnswer k Done text =
    (nodes : ℕ) × (line : List ℕ) × CoversAndChecks k (covered.Complete nodes) Done line × (text ≡ demo_text k nodes 0 line)
IsDemoAnswer k NotShown text =
    (nodes left : ℕ) × (verdict : Status) × (line : List ℕ) × CoversAndChecks k (covered.OpenBoxes nodes left) verdict line
    × (text ≡ demo_text k nodes left line)
IsDemoAnswer k OutOfMemory text = text ≡ []
IsDemoAnswer k status text = ⊥

-- no other status where nothing outside fails
abbrev pub IsDemoDue : Status → Type 0
IsDemoDue status = (status ≡ Done) ⊎ (status ≡ NotShown) ⊎ (status ≡ OutOfMemory)

-- ---- its steps

-- the line that `check` writes for a verdict
abbrev pub verdict_text : Verdict → List ℕ
verdict_text (Accepted nodes words) = accepted_text nodes words
verdict_text (Refused line reason) = refused_text line reason

-- the end of a covering of so many nodes, so many of them uncovered
abbrev pub covered_with : ℕ → ℕ → Covered
covered_with nodes zero = covered.Complete nodes
covered_with nodes (suc more) = covered.OpenBoxes nodes (suc more)

-- the status that goes with so many uncovered nodes
abbrev pub status_with : ℕ → Status
status_with zero = Done
status_with (suc more) = NotShown

-- these are the sizes of a covering of the job, and the verdict on its file is right
pub record IsMade (k : ℕ) (made : Made) : Type 0 where
  pub is_number : IsJobNumber k
  pub file : List ℕ
  pub cover : IsCover MAX_NODES (job_heading k) (covered_with made.nodes made.left) file
  pub right : IsRight MAX_NODES file made.verdict
