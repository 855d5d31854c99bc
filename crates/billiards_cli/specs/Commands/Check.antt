-- The command `check`: the verdict on a covering file that is read from the input.
use Rattle.std.specs.Prelude.{◌≡◌, ◌⊎◌, ℕ, List, [], ◌∷◌, codes, Some, None}
use Rattle.std.specs.declared.option.Option.{Option}
use Rattle.std.specs.List.{concat}
use Rattle.std.specs.Fmt.{decimal}
use Rattle.line_grammar.specs.declared.reason.Reason.{Reason}
use Rattle.line_grammar.specs.declared.reason.Reason.TheVariants as reason
use Rattle.covering_file.specs.declared.file_kind.FileKind.TheVariants.{Cover}
use Rattle.covering_file.specs.Faults.{BeginsFile}
use Rattle.covering_file.specs.Verdicts.{IsAccepted, IsRefused, IsSureFile}
use Rattle.billiards_cli.specs.Refusals.{newline, RefusesLine}
use Rattle.covering_file.specs.declared.TheConstants.{MAX_NODES}
use Rattle.billiards_cli.specs.Command.{Extent, ToTheEnd, ToALine}
use Rattle.billiards_cli.specs.declared.request.Request.{Request}
use Rattle.billiards_cli.specs.declared.request.Request.TheVariants as request
use Rattle.billiards_cli.specs.declared.status.Status.{Status}
use Rattle.billiards_cli.specs.declared.status.Status.TheVariants.{Done, NotShown, Malformed, OutOfMemory}

-- it takes no arguments
abbrev pub check_request : List (List ℕ) → Option Request
check_request [] = Some request.Check
check_request (argument ∷ more) = None

-- an accepted covering file: how many nodes its tree has, and how many words it lists
abbrev pub accepted_text : ℕ → ℕ → List ℕ
accepted_text nodes words = concat (codes "accepted nodes=" ∷ decimal nodes ∷ codes " words=" ∷ decimal words ∷ newline ∷ [])

-- what a refusal of a covering file says: that something is not shown, or that the file is malformed
abbrev pub refusal_status : Reason → Status
refusal_status reason.NotApart = NotShown
refusal_status reason.NotShown = NotShown
refusal_status reason.Uncovered = NotShown
refusal_status reason = Malformed

pub record AcceptsFile (input text : List ℕ) : Type 0 where
  pub nodes : ℕ
  pub words : ℕ
  pub accepted : IsAccepted MAX_NODES nodes words input
  pub text_is : text ≡ accepted_text nodes words

-- this line is the first that can be refused, this its least reason, and the status goes with it
pub record IsRefusedWith (input : List ℕ) (status : Status) (line : ℕ) (reason : Reason) : Type 0 where
  pub first : IsRefused MAX_NODES line reason input
  pub status_is : refusal_status reason ≡ status

pub record CheckWantsMemory (input text : List ℕ) : Type 0 where
  pub begins : BeginsFile Cover input
  pub text_is : text ≡ []

-- Done where the file is accepted. Else the first line that can be refused is named. Memory is wanting only after the first line of a file.
abbrev pub IsCheckAnswer : List ℕ → Status → List ℕ → Type 0
IsCheckAnswer input Done text = AcceptsFile input text
IsCheckAnswer input NotShown text = RefusesLine (IsRefusedWith input NotShown) text
IsCheckAnswer input Malformed text = RefusesLine (IsRefusedWith input Malformed) text
IsCheckAnswer input OutOfMemory text = CheckWantsMemory input text
IsCheckAnswer input status text = ⊥

-- done on every file with a sure tree, unless memory is wanting
abbrev pub IsCheckDue : List ℕ → Status → Type 0
IsCheckDue input status = IsSureFile MAX_NODES input → (status ≡ Done) ⊎ (status ≡ OutOfMemory)

-- it accepts a file at the end of the input
abbrev pub check_reads_to : Status → Extent
check_reads_to Done = ToTheEnd
check_reads_to status = ToALine
