-- Which statuses of `merge` are due.
use Rattle.std.proofs.Common.{◌≡◌, ◌⊎◌, inl, inr, refl, subst₂, ℕ}
use Rattle.std.proofs.Common.{List, Option, Ok, Err}
use Rattle.line_grammar.specs.Input.{MayBe}
use Rattle.line_grammar.specs.declared.reason.Reason.{Reason}
use Rattle.line_grammar.specs.declared.reason.Reason.TheVariants as reason
use Rattle.covering_file.specs.TreeFile.{TreeFile}
use Rattle.cover_merge.specs.Merge.{HasUnion}
use Rattle.cover_merge.specs.Rounds.{AreAlike}
use Rattle.cover_merge.specs.declared.fault.MergeFault.{MergeFault}
use Rattle.cover_merge.specs.declared.fault.MergeFault.TheVariants.{Line, Differs, Words, Full, Read, Memory}
use Rattle.billiards_cli.specs.Command.{By}
use Rattle.billiards_cli.specs.Commands.Check.{refusal_status}
use Rattle.billiards_cli.specs.Commands.Merge.{merge_input, merge_reads_to, AnswersFiles, OffendsFirst, fault_status}
use Rattle.billiards_cli.specs.Commands.Merge.{IsMergeAnswer, HaveOneRegion, IsMergeDue}
use Rattle.billiards_cli.specs.Requests.{command_of}
use Rattle.billiards_cli.specs.Services.{IsAnswer, ReadsFor}
use Rattle.billiards_cli.specs.declared.request.Request.TheVariants as request
use Rattle.billiards_cli.specs.declared.status.Status.{Status}
use Rattle.billiards_cli.specs.declared.status.Status.TheVariants as status
use Rattle.billiards_cli.proofs.MergeReasons.{first_is_of_no_claim}
use Rattle.billiards_cli.proofs.MergeRounds.{same_files, files_never_offend, not_another_region, not_one_too_many, refused_claim_is_not_shown}

merged_region : (input : List ℕ) (merged : TreeFile) → AnswersFiles input (Ok merged) → HaveOneRegion input
merged_region input merged a =
    record { first = a.first; second = a.second; files = a.files; alike = a.merges.0.alike; union = a.merges.0.union }

-- where a first line offends, the input is malformed
pub first_is_malformed : (input : List ℕ) (line : ℕ) (why : Reason) → OffendsFirst input (Line line why)
    → refusal_status why ≡ status.NotShown → ⊥
first_is_malformed input line reason.NotApart first is = first_is_of_no_claim input line reason.NotApart tt first
first_is_malformed input line reason.NotShown first is = first_is_of_no_claim input line reason.NotShown tt first
first_is_malformed input line reason.Uncovered first is = first_is_of_no_claim input line reason.Uncovered tt first
first_is_malformed input line why first is = cc

-- an input that is not shown is two files of one region
not_shown_region : (input : List ℕ) (fault : MergeFault) → fault_status fault ≡ status.NotShown
    → OffendsFirst input fault ⊎ AnswersFiles input (Err fault) → HaveOneRegion input
not_shown_region input (Line line why) is (inl first) = absurd (first_is_malformed input line why first is)
not_shown_region input (Line line why) is (inr a) =
    record { first = a.first; second = a.second; files = a.files; alike = a.merges.0; union = a.merges.1 }
not_shown_region input (Differs line) is cause = cc
not_shown_region input (Words line) is cause = cc
not_shown_region input (Full nodes) is cause = cc
not_shown_region input Read is cause = cc
not_shown_region input Memory is cause = cc

full_region : (input : List ℕ) (fault : MergeFault) → fault_status fault ≡ status.Full → OffendsFirst input fault ⊎ AnswersFiles input (Err fault)
    → HaveOneRegion input
full_region input (Full nodes) is (inl first) = absurd first
full_region input (Full nodes) is (inr a) =
    record { first = a.first; second = a.second; files = a.files; alike = a.merges.0.alike; union = a.merges.0.union }
full_region input (Line line reason.NotApart) is cause = cc
full_region input (Line line reason.NotShown) is cause = cc
full_region input (Line line reason.Uncovered) is cause = cc
full_region input (Line line why) is cause = cc
full_region input (Differs line) is cause = cc
full_region input (Words line) is cause = cc
full_region input Read is cause = cc
full_region input Memory is cause = cc

-- and one that is malformed is not
malformed_has_none : (input : List ℕ) (fault : MergeFault) → fault_status fault ≡ status.Malformed
    → OffendsFirst input fault ⊎ AnswersFiles input (Err fault) → HaveOneRegion input → ⊥
malformed_has_none input (Line line why) is (inl first) one = files_never_offend input one.first one.second line why one.files first
malformed_has_none input (Line line why) is (inr a) one =
    let shown = refused_claim_is_not_shown a.first a.second line why a.files.first a.files.second a.merges.2 in cc
malformed_has_none input (Differs line) is (inr a) one =
    let same = same_files input one.first one.second a.first a.second one.files a.files in
    not_another_region a.first a.second line
    (subst₂ (λ (f g : TreeFile). AreAlike f.heading g.heading) same.0 same.1 one.alike) a.merges
malformed_has_none input (Words line) is (inr a) one =
    let same = same_files input one.first one.second a.first a.second one.files a.files in
    not_one_too_many a.first a.second line (subst₂ (λ (f g : TreeFile). HasUnion f g) same.0 same.1 one.union) a.merges.1
malformed_has_none input (Differs line) is (inl first) one = first
malformed_has_none input (Words line) is (inl first) one = first
malformed_has_none input (Full nodes) is cause one = cc
malformed_has_none input Read is cause one = cc
malformed_has_none input Memory is cause one = cc

merge_answer_is_due : (input : List ℕ) (ending : Status) (text : List ℕ) → IsMergeAnswer input ending text → IsMergeDue input ending
merge_answer_is_due input status.Done text answer =
    record { merged = λ one. tt; refused = λ none. absurd (none (merged_region input answer.merged answer.answers)) }
merge_answer_is_due input status.NotShown text (inl answer) =
    record { merged = λ one. tt; refused = λ none. absurd (none (merged_region input answer.merged answer.answers)) }
merge_answer_is_due input status.NotShown text (inr answer) =
    record { merged = λ one. tt; refused = λ none. absurd (none (not_shown_region input answer.fault answer.status_is answer.cause)) }
merge_answer_is_due input status.Full text answer =
    record { merged = λ one. tt; refused = λ none. absurd (none (full_region input answer.fault answer.status_is answer.cause)) }
merge_answer_is_due input status.Malformed text answer =
    record { merged = λ one. absurd (malformed_has_none input answer.fault answer.status_is answer.cause one); refused = λ none. inl refl }
merge_answer_is_due input status.OutOfMemory text answer = record { merged = λ one. tt; refused = λ none. inr refl }
merge_answer_is_due input ending text answer = absurd answer

-- a right answer is one that the command may give
pub merge_answer : (left left' : Option (List ℕ)) (input : List ℕ) (ending : Status) (text : List ℕ)
    → MayBe left input → IsMergeAnswer input ending text → ReadsFor (By merge_input.grammar) (merge_reads_to ending) text left left'
    → IsAnswer (command_of request.Merge) left left' ending text
merge_answer left left' input ending text may_be right read =
    record { input = input; may_be = may_be; right = right; due = merge_answer_is_due input ending text right; read = read }
