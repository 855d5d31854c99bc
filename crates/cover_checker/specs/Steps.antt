-- What the steps of a check say. Only they cite these.
use Rattle.std.specs.Prelude.{◌≡◌, ℕ, List, length}
use Rattle.std.specs.declared.option.Option.{Option}
use Rattle.mcb_ends.specs.Reader.{Reader}
use Rattle.line_grammar.specs.Reading.{TakesPart, TakesText}
use Rattle.covering_file.specs.declared.node.Node.{Node}
use Rattle.covering_file.specs.CheckClaims.{check_claims}
use Rattle.covering_file.specs.FilePart.{nodes_part}
use Rattle.covering_file.specs.Header.{Heading}
use Rattle.cover_checker.specs.Verdicts.{checked_tree}

-- so many nodes were taken, and no box is due after them
abbrev pub TakesNodes : ℕ → Heading → Reader → Reader → Option (List ℕ) → Option (List ℕ) → ℕ → Type 0
TakesNodes limit h old new left left' count =
    (nodes : List Node) × (count ≡ length nodes) × TakesPart (nodes_part check_claims limit h) old new left left' nodes

-- the lines after a header are those of so many nodes and their end line, and nothing is left
abbrev pub TakesTree : ℕ → Heading → Reader → Option (List ℕ) → Option (List ℕ) → ℕ → Type 0
TakesTree limit h old left left' count =
    (nodes : List Node) × (count ≡ length nodes) × TakesText (checked_tree limit h) old left left' nodes
