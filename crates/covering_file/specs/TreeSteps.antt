-- What the steps say by which the nodes of a tree are read, whatever is claimed of them. Only those who read trees cite these.
use Rattle.std.specs.Prelude.{◌≡◌, ℕ, ◌<◌, ◌≤◌, ◌⊎◌, List, length, Some, Ok, Err}
use Rattle.std.specs.declared.option.Option.{Option}
use Rattle.std.specs.declared.result.Result.{Result}
use Rattle.rational_polygon.specs.Square.{Square}
use Rattle.mcb_ends.specs.Reader.{Reader}
use Rattle.line_grammar.specs.declared.reason.Reason.{Reason}
use Rattle.line_grammar.specs.declared.reason.Reason.TheVariants.{TooMany, TooShallow}
use Rattle.line_grammar.specs.declared.fault.LineFault.{LineFault}
use Rattle.line_grammar.specs.Faults.{refusal_of}
use Rattle.line_grammar.specs.Reading.{ReadsPart}
use Rattle.covering_file.specs.declared.node.Node.{Node}
use Rattle.covering_file.specs.DueBoxes.{due_boxes, first_of}
use Rattle.covering_file.specs.FilePart.{Claims, node_part}
use Rattle.covering_file.specs.Header.{Heading}

-- A node may stand at the box and is within the limit, or is refused for its claim, or as one too many, which is the lesser reason where the
-- box is too shallow.
abbrev pub JudgesNode : Claims → Heading → Square → Node → ℕ → ℕ → Result (Unit {0}) Reason → Type 0
JudgesNode claims h box node limit count (Ok passed) = claims.MayStand h box node × (count < limit)
JudgesNode claims h box node limit count (Err reason) =
    (claims.Has h box node reason × ((reason ≡ TooShallow) → count < limit))
    ⊎ ((reason ≡ TooMany) × (claims.MayStand h box node ⊎ claims.Has h box node TooShallow) × (limit ≤ count))

-- A node is read at this box, where it is the first that is due after so many nodes.
abbrev pub ReadsNode : Claims → ℕ → Heading → ℕ → Square → Reader → Reader → Option (List ℕ) → Option (List ℕ) → Result Node LineFault → Type 0
ReadsNode claims limit h count box old new left left' result =
    (nodes : List Node) → count ≡ length nodes → first_of (due_boxes nodes) ≡ Some box
    → ReadsPart (node_part claims limit h nodes) refusal_of old new left left' result
