-- What the coverer leaves written.
use Rattle.std.specs.Prelude.{◌≡◌, ◌≢◌, ℕ, Bool, true, false, List, [], map, length, count_by, Ok, Err}
use Rattle.std.specs.Io.KnownBytes.{Appends}
use Rattle.std.specs.declared.option.Option.{Option}
use Rattle.std.specs.declared.result.Result.{Result}
use Rattle.mcb_ends.specs.Bytes.{AppendsPrefix}
use Rattle.line_grammar.specs.Text.{text_of}
use Rattle.covering_file.specs.declared.node.Node.{Node}
use Rattle.covering_file.specs.DueBoxes.{due_boxes}
use Rattle.covering_file.specs.Header.{Heading}
use Rattle.covering_file.specs.Node.{is_uncovered, node_line}
use Rattle.coverer.specs.declared.answer.Covered.{Covered}
use Rattle.coverer.specs.declared.answer.CoverFault.{CoverFault}
use Rattle.coverer.specs.declared.answer.CoverFault.TheVariants.{Write, Memory}
use Rattle.coverer.specs.declared.nodes.Tally.{Tally}
use Rattle.coverer.specs.Begun.{IsBegun, IsCover, IsBegunText}

-- The whole text of a covering was written. Where the sink failed, a prefix was. Where memory is wanting, nothing was.
abbrev pub WritesCover : ℕ → Heading → Option (List ℕ) → Option (List ℕ) → Result Covered CoverFault → Type 0
WritesCover limit h old new (Ok answer) = (text : List ℕ) × IsCover limit h answer text × Appends old new text
WritesCover limit h old new (Err Write) = (text : List ℕ) × IsBegunText limit h text × AppendsPrefix old new text
WritesCover limit h old new (Err Memory) = new ≡ old

-- the fault that comes from outside
abbrev pub is_cover_write : CoverFault → Bool
is_cover_write Write = true
is_cover_write Memory = false

-- The lines of some nodes were written, so many of them uncovered. The tree is whole, or as many nodes are written as are allowed and a box is due.
pub record WritesNodes (limit : ℕ) (h : Heading) (old new : Option (List ℕ)) (t : Tally) : Type 0 where
  pub nodes : List Node
  pub begun : IsBegun limit h nodes
  pub counted : t.nodes ≡ length nodes
  pub uncovered : t.left ≡ count_by is_uncovered nodes
  pub whole : t.is_whole ≡ true → due_boxes nodes ≡ []
  pub full : t.is_whole ≡ false → (t.nodes ≡ limit) × (due_boxes nodes ≢ [])
  pub text : Appends old new (text_of (map node_line nodes))
