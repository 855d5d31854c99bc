-- The command `job`: the generated job of a number.
use Rattle.std.specs.Prelude.{◌≡◌, ℕ, List, [], ◌∷◌, None}
use Rattle.std.specs.Option.{option_map}
use Rattle.std.specs.declared.option.Option.{Option}
use Rattle.covering_file.specs.Header.{job_text}
use Rattle.billiards_cli.specs.Jobs.{job_number, job_heading}
use Rattle.billiards_cli.specs.declared.request.Request.{Request}
use Rattle.billiards_cli.specs.declared.request.Request.TheVariants as request
use Rattle.billiards_cli.specs.declared.status.Status.{Status}
use Rattle.billiards_cli.specs.declared.status.Status.TheVariants.{Done}

-- it takes the number of a job
abbrev pub job_request : List (List ℕ) → Option Request
job_request (text ∷ []) = option_map request.Job (job_number text)
job_request arguments = None

-- its text is that of the job, and it is always done
abbrev pub IsJobAnswer : ℕ → Status → List ℕ → Type 0
IsJobAnswer k Done text = text ≡ job_text (job_heading k)
IsJobAnswer k status text = ⊥

abbrev pub IsJobDue : Status → Type 0
IsJobDue status = status ≡ Done
