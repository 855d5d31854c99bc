-- What the steps of a merge say. Only they cite these.
use Rattle.std.specs.Prelude.{ℕ, ◌-◌, ◌≤◌, List, length, slice_index_or, ⊤}
use Rattle.covering_file.specs.declared.TheConstants.{MAX_WORDS}
use Rattle.covering_file.specs.TreeFile.{TreeFile, IsTreeFile}
use Rattle.cover_merge.specs.declared.fault.MergeFault.{MergeFault}
use Rattle.cover_merge.specs.declared.fault.MergeFault.TheVariants.{Line, Words, Memory}
use Rattle.cover_merge.specs.declared.words.United.{United}
use Rattle.cover_merge.specs.declared.words.United.TheVariants as united
use Rattle.cover_merge.specs.Merge.{IsMerge}
use Rattle.cover_merge.specs.Rounds.{IsOneTooMany, RefusesWords, RefusesClaim}
use Rattle.cover_merge.specs.Union.{IsUnion}

-- the number that stands for i
abbrev pub number_at : List ℕ → ℕ → ℕ
number_at numbers i = slice_index_or numbers (i - 1) 0

-- a union of at most 32 words, or the first word that is one too many
abbrev pub Unites : List (List ℕ) → List (List ℕ) → United → Type 0
Unites words others (united.Words union) = IsUnion words others union.items × (length union.items ≤ MAX_WORDS)
Unites words others (united.OneTooMany before) = IsOneTooMany words others before

-- a merge of the two files, however many nodes it has
abbrev pub LaysTogether : TreeFile → TreeFile → TreeFile → Type 0
LaysTogether f g r = IsMerge f g r × IsTreeFile (length r.nodes) r

-- the third round refuses a line
abbrev pub IsWordsFault : TreeFile → TreeFile → MergeFault → Type 0
IsWordsFault f g (Words line) = RefusesWords f g line
IsWordsFault f g Memory = ⊤
IsWordsFault f g fault = ⊥

-- the fourth round refuses a line
abbrev pub IsClaimFault : TreeFile → TreeFile → MergeFault → Type 0
IsClaimFault f g (Line line reason) = RefusesClaim f g line reason
IsClaimFault f g Memory = ⊤
IsClaimFault f g fault = ⊥
