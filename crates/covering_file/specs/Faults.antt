-- The listed words by their numbers; why a header could not be made, and why a file could not be read.
use Rattle.std.specs.Prelude.{ℕ, ◌-◌, ◌<◌, ◌≤◌, Bool, true, false, List, [], length, slice_index_or, ⊤, Some, None}
use Rattle.std.specs.declared.option.Option.{Option}
use Rattle.edge_words.specs.Stable.{IsStable}
use Rattle.covering_file.specs.declared.fault.HeaderFault.{HeaderFault}
use Rattle.covering_file.specs.declared.fault.HeaderFault.TheVariants.{Version, Words, Unstable, Depth}
use Rattle.covering_file.specs.declared.fault.HeadFault.{HeadFault}
use Rattle.covering_file.specs.declared.fault.HeadFault.TheVariants.{Line, Read, Memory}
use Rattle.covering_file.specs.declared.file_kind.FileKind.{FileKind}
use Rattle.covering_file.specs.Header.{Heading, IsVersion, IsVersionFor, IsWordCount, IsDepth, first_line}
use Rattle.line_grammar.specs.declared.fault.LineFault.{LineFault}
use Rattle.line_grammar.specs.declared.fault.LineFault.TheVariants as line
use Rattle.line_grammar.specs.Faults.{Refusal}
use Rattle.line_grammar.specs.Input.{MayBe}
use Rattle.line_grammar.specs.Text.{BeginsWith}

-- the listed word of number i, counted from 1
abbrev pub word_at : List (List ℕ) → ℕ → List ℕ
word_at words i = slice_index_or words (i - 1) []

-- i is the number of a listed word
abbrev pub IsListed : List (List ℕ) → ℕ → Type 0
IsListed words i = (1 ≤ i) × (i ≤ length words)

-- word i is the first that is not stable
pub record IsFirstUnstable (words : List (List ℕ)) (i : ℕ) : Type 0 where
  pub listed : IsListed words i
  pub unstable : ¬ (IsStable (word_at words i))
  pub earlier : (j : ℕ) → IsListed words j → j < i → IsStable (word_at words j)

abbrev pub AreStable : List (List ℕ) → Type 0
AreStable words = (i : ℕ) → IsListed words i → IsStable (word_at words i)

-- the first condition on words and a depth that fails
abbrev pub IsFaultIn : List (List ℕ) → ℕ → HeaderFault → Type 0
IsFaultIn words depth Version = ⊥
IsFaultIn words depth Words = ¬ (IsWordCount (length words))
IsFaultIn words depth (Unstable i) = IsWordCount (length words) × IsFirstUnstable words i
IsFaultIn words depth Depth = IsWordCount (length words) × AreStable words × ¬ (IsDepth depth)

-- the first condition that fails, in the order of the variants
abbrev pub IsFaultOf : Heading → HeaderFault → Type 0
IsFaultOf h Version = ¬ (IsVersionFor h.version (length h.region))
IsFaultOf h fault = IsVersionFor h.version (length h.region) × IsFaultIn h.words h.depth fault

-- the fault of a line, as that of a header
abbrev pub head_of : LineFault → HeadFault
head_of (line.Line number reason) = Line number reason
head_of line.Read = Read

-- the refusal that a fault is, if it is one
abbrev pub head_refusal : HeadFault → Option Refusal
head_refusal (Line line reason) = Some (record { line = line; reason = reason })
head_refusal Read = None
head_refusal Memory = None

-- the fault that comes from outside
abbrev pub is_head_read : HeadFault → Bool
is_head_read (Line line reason) = false
is_head_read Read = true
is_head_read Memory = false

-- the bytes begin with the first line of such a file, in some version
abbrev pub BeginsFile : FileKind → List ℕ → Type 0
BeginsFile kind bytes = (version : ℕ) × IsVersion version × BeginsWith bytes (first_line kind version)

-- The input begins with the first line of a header. Nothing before it takes memory.
abbrev pub BeginsHeader : FileKind → Option (List ℕ) → Type 0
BeginsHeader kind input = (bytes : List ℕ) × MayBe input bytes × BeginsFile kind bytes

-- Memory is wanted only where it does.
abbrev pub WantsMemory : FileKind → Option (List ℕ) → HeadFault → Type 0
WantsMemory kind input (Line line reason) = ⊤
WantsMemory kind input Read = ⊤
WantsMemory kind input Memory = BeginsHeader kind input
