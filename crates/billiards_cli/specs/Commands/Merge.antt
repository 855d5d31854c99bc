-- The command `merge`: two covering files of one region, which are read from the input, made into one.
use Rattle.std.specs.Prelude.{◌≡◌, ◌⊎◌, ℕ, zero, suc, List, [], ◌∷◌, ◌++◌, count_by, Some, None, Ok, Err, ⊤}
use Rattle.std.specs.declared.option.Option.{Option}
use Rattle.std.specs.declared.result.Result.{Result}
use Rattle.line_grammar.specs.Offence.{IsFirstOffence}
use Rattle.line_grammar.specs.Part.{Part}
use Rattle.covering_file.specs.Faults.{BeginsFile}
use Rattle.covering_file.specs.Node.{is_uncovered}
use Rattle.covering_file.specs.TreeFile.{TreeFile, IsTreeFile, tree_file_text}
use Rattle.covering_file.specs.declared.TheConstants.{MAX_NODES}
use Rattle.covering_file.specs.declared.file_kind.FileKind.TheVariants.{Cover}
use Rattle.cover_merge.specs.Merge.{Merges, HasUnion}
use Rattle.cover_merge.specs.Rounds.{two_files, AreAlike}
use Rattle.cover_merge.specs.declared.fault.MergeFault.{MergeFault}
use Rattle.cover_merge.specs.declared.fault.MergeFault.TheVariants as fault
use Rattle.billiards_cli.specs.Command.{Extent, ToTheEnd, ToEither}
use Rattle.billiards_cli.specs.Commands.Check.{refusal_status}
use Rattle.billiards_cli.specs.Refusals.{numbered_text, refused_text}
use Rattle.billiards_cli.specs.declared.request.Request.{Request}
use Rattle.billiards_cli.specs.declared.request.Request.TheVariants as request
use Rattle.billiards_cli.specs.declared.status.Status.{Status}
use Rattle.billiards_cli.specs.declared.status.Status.TheVariants.{Done, NotShown, Malformed, ReadFault, OutOfMemory, Full}

-- it takes no arguments
abbrev pub merge_request : List (List ℕ) → Option Request
merge_request [] = Some request.Merge
merge_request (argument ∷ more) = None

-- ---- the input

-- two covering files none of whose boxes is judged, the second directly after the first, and nothing more
abbrev pub merge_input : Part (TreeFile × TreeFile)
merge_input = two_files MAX_NODES

-- the input is the text of these two files, be their claims true or not
pub record AreFiles (input : List ℕ) (f g : TreeFile) : Type 0 where
  pub first : IsTreeFile MAX_NODES f
  pub second : IsTreeFile MAX_NODES g
  pub text : input ≡ tree_file_text f ++ tree_file_text g

-- what is answered for the two files that the input is
pub record AnswersFiles (input : List ℕ) (result : Result TreeFile MergeFault) : Type 0 where
  pub first : TreeFile
  pub second : TreeFile
  pub files : AreFiles input first second
  pub merges : Merges MAX_NODES first second result

-- ---- a merge

-- how a merge ends that leaves so many boxes uncovered
abbrev pub merged_status : ℕ → Status
merged_status zero = Done
merged_status (suc more) = NotShown

-- the text of a merge of the two files, none of whose lines is refused
pub record MergesFiles (input : List ℕ) (status : Status) (text : List ℕ) : Type 0 where
  pub merged : TreeFile
  pub is_file : IsTreeFile MAX_NODES merged
  pub answers : AnswersFiles input (Ok merged)
  pub status_is : merged_status (count_by is_uncovered merged.nodes) ≡ status
  pub text_is : text ≡ tree_file_text merged

-- ---- what is answered in place of one

abbrev pub fault_status : MergeFault → Status
fault_status (fault.Line line reason) = refusal_status reason
fault_status (fault.Differs line) = Malformed
fault_status (fault.Words line) = Malformed
fault_status (fault.Full nodes) = Full
fault_status fault.Read = ReadFault
fault_status fault.Memory = OutOfMemory

-- The line that is refused, and the number of its reason. Nothing is written of a merge with too many nodes.
abbrev pub fault_text : MergeFault → List ℕ
fault_text (fault.Line line reason) = refused_text line reason
fault_text (fault.Differs line) = numbered_text line 16
fault_text (fault.Words line) = numbered_text line 17
fault_text other = []

-- the input offends first at this line, counted from 1, and this is the least of its reasons there
abbrev pub OffendsFirst : List ℕ → MergeFault → Type 0
OffendsFirst input (fault.Line line reason) = IsFirstOffence merge_input.grammar input line reason
OffendsFirst input other = ⊥

-- the input is not two files, or a later round refuses a line of them, or their merge has too many nodes
pub record RefusesMerge (input : List ℕ) (status : Status) (text : List ℕ) : Type 0 where
  pub fault : MergeFault
  pub cause : OffendsFirst input fault ⊎ AnswersFiles input (Err fault)
  pub status_is : fault_status fault ≡ status
  pub text_is : text ≡ fault_text fault

pub record MergeWantsMemory (input text : List ℕ) : Type 0 where
  pub begins : BeginsFile Cover input
  pub text_is : text ≡ []

-- ---- the command

-- Done where a merge has no uncovered box. It is not shown where it has some, or where a line is refused for what it claims; any other line that
-- is refused is malformed. Memory is wanting only after the first line of a file.
abbrev pub IsMergeAnswer : List ℕ → Status → List ℕ → Type 0
IsMergeAnswer input Done text = MergesFiles input Done text
IsMergeAnswer input NotShown text = MergesFiles input NotShown text ⊎ RefusesMerge input NotShown text
IsMergeAnswer input Malformed text = RefusesMerge input Malformed text
IsMergeAnswer input Full text = RefusesMerge input Full text
IsMergeAnswer input OutOfMemory text = MergeWantsMemory input text
IsMergeAnswer input status text = ⊥

-- the input is two files of one version and one region, with at most 32 words
pub record HaveOneRegion (input : List ℕ) : Type 0 where
  pub first : TreeFile
  pub second : TreeFile
  pub files : AreFiles input first second
  pub alike : AreAlike first.heading second.heading
  pub union : HasUnion first second

-- the statuses of two such files
abbrev pub EndsMerge : Status → Type 0
EndsMerge Done = ⊤
EndsMerge NotShown = ⊤
EndsMerge Full = ⊤
EndsMerge OutOfMemory = ⊤
EndsMerge status = ⊥

-- two such files are merged, and any other input refused, unless memory is wanting
pub record IsMergeDue (input : List ℕ) (status : Status) : Type 0 where
  pub merged : HaveOneRegion input → EndsMerge status
  pub refused : ¬ (HaveOneRegion input) → (status ≡ Malformed) ⊎ (status ≡ OutOfMemory)

-- It refuses the first line that offends where it stands. All else that it answers, it answers at the end of the input, but for want of memory.
abbrev pub merge_reads_to : Status → Extent
merge_reads_to Done = ToTheEnd
merge_reads_to NotShown = ToTheEnd
merge_reads_to Full = ToTheEnd
merge_reads_to status = ToEither
