-- The right answers of `merge`.
use Rattle.std.proofs.Common.{◌≡◌, ◌⊎◌, inl, inr, refl, sym, ap, subst, subst₂, ℕ}
use Rattle.std.proofs.Common.{zero, suc, List, [], ◌++◌, Option, Result, Ok, Err, count_by}
use Rattle.line_grammar.specs.Input.{MayBe}
use Rattle.line_grammar.specs.Reading.{ReadsInput}
use Rattle.line_grammar.specs.declared.reason.Reason.{Reason}
use Rattle.line_grammar.specs.declared.reason.Reason.TheVariants as reason
use Rattle.covering_file.specs.Faults.{BeginsHeader, head_refusal}
use Rattle.covering_file.specs.declared.file_kind.FileKind.TheVariants.{Cover}
use Rattle.covering_file.specs.Node.{is_uncovered}
use Rattle.covering_file.specs.TreeFile.{TreeFile, IsTreeFile, tree_file_text}
use Rattle.covering_file.specs.declared.TheConstants.{MAX_NODES}
use Rattle.covering_file.specs.declared.fault.HeadFault.{HeadFault}
use Rattle.covering_file.specs.declared.fault.HeadFault.TheVariants as head
use Rattle.cover_merge.specs.Merge.{MergesInput, FollowsReading, fault_of}
use Rattle.cover_merge.specs.declared.fault.MergeFault.{MergeFault}
use Rattle.cover_merge.specs.declared.fault.MergeFault.TheVariants.{Line, Differs, Words, Full, Read, Memory}
use Rattle.billiards_cli.specs.Command.{By}
use Rattle.billiards_cli.specs.Commands.Check.{refusal_status}
use Rattle.billiards_cli.specs.Commands.Merge.{merge_input, AreFiles, AnswersFiles, MergesFiles, RefusesMerge, fault_status}
use Rattle.billiards_cli.specs.Commands.Merge.{fault_text, merged_status, MergeWantsMemory}
use Rattle.billiards_cli.specs.Refusals.{refused_text}
use Rattle.billiards_cli.specs.Requests.{command_of}
use Rattle.billiards_cli.specs.Services.{IsAnswer, ReadsWhole, FailsIn, StopsAtNamed}
use Rattle.billiards_cli.specs.declared.request.Request.TheVariants as request
use Rattle.billiards_cli.specs.declared.status.Status.{Status}
use Rattle.billiards_cli.specs.declared.status.Status.TheVariants as status
use Rattle.billiards_cli.proofs.Inputs.{NamesFirst, names_first, fails_in, whole_input}
use Rattle.billiards_cli.proofs.MergeReasons.{first_is_of_no_claim}
use Rattle.billiards_cli.proofs.MergeRounds.{text_of_both, files_never_offend}
use Rattle.billiards_cli.proofs.Serving.{IsWritten}
use Rattle.billiards_cli.proofs.MergeDue.{merge_answer}

-- ---- what was read

-- the input was read as two files, to its end
pub record HasFiles (left left' : Option (List ℕ)) (result : Result TreeFile MergeFault) : Type 0 where
  pub input : List ℕ
  pub may_be : MayBe left input
  pub answers : AnswersFiles input result
  pub whole : ReadsWhole merge_input.grammar left left'

-- or reading it failed
pub record FailsToRead (left left' : Option (List ℕ)) (result : Result TreeFile MergeFault) : Type 0 where
  pub fault : HeadFault
  pub result_is : result ≡ Err (fault_of fault)
  pub reads : ReadsInput merge_input head_refusal left left' (Err fault)

files_or_fault : (left left' : Option (List ℕ)) (result : Result TreeFile MergeFault) (read : Result (TreeFile × TreeFile) HeadFault)
    → ReadsInput merge_input head_refusal left left' read → FollowsReading MAX_NODES read result
    → HasFiles left left' result ⊎ FailsToRead left left' result
files_or_fault left left' result (Ok files) reads follows =
    let f = files.0 in
    let g = files.1 in
    let input = tree_file_text f ++ tree_file_text g in
    let are : AreFiles input f g = record { first = reads.reads.says.0; second = reads.reads.says.1; text = refl } in
    let may_be = subst (λ (xs : List ℕ). MayBe left xs) (text_of_both f g) (whole_input merge_input files reads.old left left' reads.is_new reads.reads) in
    inl (record {
      input = input;
      may_be = may_be;
      answers = record { first = f; second = g; files = are; merges = follows };
      whole = record {
        input = input;
        may_be = may_be;
        taken = λ line why. files_never_offend input f g line why are;
        ended = reads.reads.ended;
      };
    })
files_or_fault left left' result (Err fault) reads follows = inr (record { fault = fault; result_is = follows; reads = reads })

pub what_was_read : (left left' : Option (List ℕ)) (result : Result TreeFile MergeFault) → MergesInput MAX_NODES left left' result
    → HasFiles left left' result ⊎ FailsToRead left left' result
what_was_read left left' result input = files_or_fault left left' result input.read input.reads input.follows

-- ---- a merge

abbrev Answered : Option (List ℕ) → Option (List ℕ) → Status → List ℕ → Type 0
Answered left left' ending text = IsAnswer (command_of request.Merge) left left' ending text

merged_with : (left left' : Option (List ℕ)) (merged : TreeFile) (uncovered : ℕ) → IsTreeFile MAX_NODES merged
    → uncovered ≡ count_by is_uncovered merged.nodes → HasFiles left left' (Ok merged)
    → Answered left left' (merged_status uncovered) (tree_file_text merged)
merged_with left left' merged zero is count files =
    let right : MergesFiles files.input status.Done (tree_file_text merged) =
    record { merged = merged; is_file = is; answers = files.answers; status_is = sym (ap merged_status count); text_is = refl } in
    merge_answer left left' files.input status.Done (tree_file_text merged) files.may_be right files.whole.ended
merged_with left left' merged (suc more) is count files =
    let right : MergesFiles files.input status.NotShown (tree_file_text merged) =
    record { merged = merged; is_file = is; answers = files.answers; status_is = sym (ap merged_status count); text_is = refl } in
    merge_answer left left' files.input status.NotShown (tree_file_text merged) files.may_be (inl right) files.whole.ended

pub merged_answer : (left left' : Option (List ℕ)) (merged : TreeFile) → IsTreeFile MAX_NODES merged → MergesInput MAX_NODES left left' (Ok merged)
    → Answered left left' (merged_status (count_by is_uncovered merged.nodes)) (tree_file_text merged)
merged_answer left left' merged is input =
    elim (what_was_read left left' (Ok merged) input) [
      | inl files ↦ merged_with left left' merged (count_by is_uncovered merged.nodes) is refl files
      | inr fails ↦ let same = fails.result_is in absurd cc
    ]

pub merged_is_written : (uncovered : ℕ) → IsWritten (merged_status uncovered)
merged_is_written zero = tt
merged_is_written (suc more) = tt

-- ---- the first line that offends

offends : (left left' : Option (List ℕ)) (line : ℕ) (why : Reason) → NamesFirst merge_input.grammar line why left left'
    → Answered left left' (refusal_status why) (refused_text line why)
offends left left' line reason.NotApart names = absurd (first_is_of_no_claim names.input line reason.NotApart tt names.first)
offends left left' line reason.NotShown names = absurd (first_is_of_no_claim names.input line reason.NotShown tt names.first)
offends left left' line reason.Uncovered names = absurd (first_is_of_no_claim names.input line reason.Uncovered tt names.first)
offends left left' line why names =
    let right : RefusesMerge names.input status.Malformed (refused_text line why) =
    record { fault = Line line why; cause = inl names.first; status_is = refl; text_is = refl } in
    merge_answer left left' names.input status.Malformed (refused_text line why) names.may_be right (inl names.stops)

not_shown : (left left' : Option (List ℕ)) (fault : MergeFault) → fault_status fault ≡ status.NotShown → HasFiles left left' (Err fault)
    → Answered left left' status.NotShown (fault_text fault)
not_shown left left' fault is files =
    let right : RefusesMerge files.input status.NotShown (fault_text fault) =
    record { fault = fault; cause = inr files.answers; status_is = is; text_is = refl } in
    merge_answer left left' files.input status.NotShown (fault_text fault) files.may_be (inr right) files.whole.ended

malformed : (left left' : Option (List ℕ)) (fault : MergeFault) → fault_status fault ≡ status.Malformed → HasFiles left left' (Err fault)
    → Answered left left' status.Malformed (fault_text fault)
malformed left left' fault is files =
    let right : RefusesMerge files.input status.Malformed (fault_text fault) =
    record { fault = fault; cause = inr files.answers; status_is = is; text_is = refl } in
    merge_answer left left' files.input status.Malformed (fault_text fault) files.may_be right (inr files.whole)

-- a claim that fails
claim_fails : (left left' : Option (List ℕ)) (line : ℕ) (why : Reason) → HasFiles left left' (Err (Line line why))
    → Answered left left' (refusal_status why) (refused_text line why)
claim_fails left left' line reason.NotApart files = not_shown left left' (Line line reason.NotApart) refl files
claim_fails left left' line reason.NotShown files = not_shown left left' (Line line reason.NotShown) refl files
claim_fails left left' line reason.Uncovered files = not_shown left left' (Line line reason.Uncovered) refl files
claim_fails left left' line why files = malformed left left' (Line line why) refl files

names_line : (left left' : Option (List ℕ)) (line : ℕ) (why : Reason) (fault : HeadFault) → Line line why ≡ fault_of fault
    → ReadsInput merge_input head_refusal left left' (Err fault) → NamesFirst merge_input.grammar line why left left'
names_line left left' line why (head.Line at for_) same reads =
    let line_is : at ≡ line = cc in
    let why_is : for_ ≡ why = cc in
    subst₂ (λ (l : ℕ) (r : Reason). NamesFirst merge_input.grammar l r left left') line_is why_is
    (names_first merge_input.grammar at for_ reads.old reads.new left left' reads.is_new reads.reads)
names_line left left' line why head.Read same reads = absurd cc
names_line left left' line why head.Memory same reads = absurd cc

abbrev failed : MergeFault → Result TreeFile MergeFault
failed fault = Err fault

err_is_one : (a b : MergeFault) → failed a ≡ failed b → a ≡ b
err_is_one a b same = cc

pub line_answer : (left left' : Option (List ℕ)) (line : ℕ) (why : Reason) → MergesInput MAX_NODES left left' (Err (Line line why))
    → Answered left left' (refusal_status why) (refused_text line why)
line_answer left left' line why input =
    elim (what_was_read left left' (Err (Line line why)) input) [
      | inl files ↦ claim_fails left left' line why files
      | inr fails ↦
          offends left left' line why
          (names_line left left' line why fails.fault (err_is_one (Line line why) (fault_of fails.fault) fails.result_is) fails.reads)
    ]

pub refusal_is_written : (why : Reason) → IsWritten (refusal_status why)
refusal_is_written reason.NotApart = tt
refusal_is_written reason.NotShown = tt
refusal_is_written reason.Uncovered = tt
refusal_is_written why = tt

-- ---- what only two files are answered

-- no fault of reading
abbrev IsLater : MergeFault → Type 0
IsLater (Differs line) = Unit {0}
IsLater (Words line) = Unit {0}
IsLater (Full nodes) = Unit {0}
IsLater fault = ⊥

not_of_reading : (fault : HeadFault) → ¬ (IsLater (fault_of fault))
not_of_reading (head.Line line why) later = later
not_of_reading head.Read later = later
not_of_reading head.Memory later = later

later_has_files : (left left' : Option (List ℕ)) (fault : MergeFault) → IsLater fault → MergesInput MAX_NODES left left' (Err fault)
    → HasFiles left left' (Err fault)
later_has_files left left' fault later input =
    elim (what_was_read left left' (Err fault) input) [
      | inl files ↦ files
      | inr fails ↦ absurd (not_of_reading fails.fault (subst IsLater (err_is_one fault (fault_of fails.fault) fails.result_is) later))
    ]

pub differs_answer : (left left' : Option (List ℕ)) (line : ℕ) → MergesInput MAX_NODES left left' (Err (Differs line))
    → Answered left left' status.Malformed (fault_text (Differs line))
differs_answer left left' line input = malformed left left' (Differs line) refl (later_has_files left left' (Differs line) tt input)

pub words_answer : (left left' : Option (List ℕ)) (line : ℕ) → MergesInput MAX_NODES left left' (Err (Words line))
    → Answered left left' status.Malformed (fault_text (Words line))
words_answer left left' line input = malformed left left' (Words line) refl (later_has_files left left' (Words line) tt input)

pub full_answer : (left left' : Option (List ℕ)) (nodes : ℕ) → MergesInput MAX_NODES left left' (Err (Full nodes)) → Answered left left' status.Full []
full_answer left left' nodes input =
    let files = later_has_files left left' (Full nodes) tt input in
    let right : RefusesMerge files.input status.Full [] = record { fault = Full nodes; cause = inr files.answers; status_is = refl; text_is = refl } in
    merge_answer left left' files.input status.Full [] files.may_be right files.whole.ended

-- ---- faults from outside, and want of memory

read_fails : (left left' : Option (List ℕ)) (fault : HeadFault) → Read ≡ fault_of fault → ReadsInput merge_input head_refusal left left' (Err fault)
    → FailsIn (By merge_input.grammar) left left'
read_fails left left' (head.Line line why) same reads = absurd cc
read_fails left left' head.Read same reads = fails_in merge_input.grammar reads.old reads.new left left' reads.is_new reads.reads
read_fails left left' head.Memory same reads = absurd cc

pub read_fault : (left left' : Option (List ℕ)) → MergesInput MAX_NODES left left' (Err Read) → FailsIn (By merge_input.grammar) left left'
read_fault left left' input =
    elim (what_was_read left left' (Err Read) input) [
      | inl files ↦ absurd files.answers.merges
      | inr fails ↦ read_fails left left' fails.fault (err_is_one Read (fault_of fails.fault) fails.result_is) fails.reads
    ]

memory_stops : (left left' : Option (List ℕ)) (fault : HeadFault) → Memory ≡ fault_of fault → ReadsInput merge_input head_refusal left left' (Err fault)
    → StopsAtNamed merge_input.grammar [] left left'
memory_stops left left' (head.Line line why) same reads = absurd cc
memory_stops left left' head.Read same reads = absurd cc
memory_stops left left' head.Memory same reads =
    let fails = fails_in merge_input.grammar reads.old reads.new left left' reads.is_new reads.reads in
    record { due = fails.0; named = inl refl; ends = fails.1 }

pub memory_answer : (left left' : Option (List ℕ)) → MergesInput MAX_NODES left left' (Err Memory) → BeginsHeader Cover left
    → Answered left left' status.OutOfMemory []
memory_answer left left' input begins =
    let right : MergeWantsMemory begins.0 [] = record { begins = begins.2; text_is = refl } in
    let read : StopsAtNamed merge_input.grammar [] left left' ⊎ ReadsWhole merge_input.grammar left left' =
    elim (what_was_read left left' (Err Memory) input) [
      | inl files ↦ inr files.whole
      | inr fails ↦ inl (memory_stops left left' fails.fault (err_is_one Memory (fault_of fails.fault) fails.result_is) fails.reads)
    ] in
    merge_answer left left' begins.0 status.OutOfMemory [] begins.1 right read
