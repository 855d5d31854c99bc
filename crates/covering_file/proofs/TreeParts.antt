-- The nodes of a tree and its end line, and a header before them, one after another.
use Rattle.std.proofs.Common.{◌≡◌, ℕ, false, List, Option, sym}
use Rattle.mcb_ends.specs.Reader.{Reader}
use Rattle.line_grammar.specs.Faults.{Refusal}
use Rattle.line_grammar.specs.Part.{followed_by}
use Rattle.line_grammar.specs.Reading.{TakesPart, FailsPart}
use Rattle.line_grammar.proofs.Parts.{fails_first, fails_second, takes_both, takes_seen}
use Rattle.covering_file.specs.declared.file_kind.FileKind.TheVariants.{Cover}
use Rattle.covering_file.specs.declared.node.Node.{Node}
use Rattle.covering_file.specs.FilePart.{Claims, nodes_part, tree_part, tree_lines, file_part}
use Rattle.covering_file.specs.Header.{Heading}
use Rattle.covering_file.specs.HeaderPart.{header_part}
use Rattle.covering_file.proofs.FileParts.{end_after, node_lines}

-- ---- the tree

pub nodes_fail : (claims : Claims) (limit : ℕ) (h : Heading) (old new : Reader) (a b : Option (List ℕ)) (refusal : Option Refusal) → old.is_done ≡ false
    → FailsPart (nodes_part claims limit h).grammar old new a b refusal → FailsPart (tree_part claims limit h).grammar old new a b refusal
nodes_fail claims limit h old new a b refusal reading fails =
    fails_first (nodes_part claims limit h) end_after old new a b refusal reading fails

pub end_fails : (claims : Claims) (limit : ℕ) (h : Heading) (nodes : List Node) (old mid new : Reader) (a b c : Option (List ℕ))
    (refusal : Option Refusal) → TakesPart (nodes_part claims limit h) old mid a b nodes → FailsPart (end_after nodes).grammar mid new b c refusal
    → FailsPart (tree_part claims limit h).grammar old new a c refusal
end_fails claims limit h nodes old mid new a b c refusal taken fails =
    fails_second (nodes_part claims limit h) end_after nodes old mid new a b c refusal taken fails

pub tree_taken : (claims : Claims) (limit : ℕ) (h : Heading) (nodes : List Node) (old mid new : Reader) (a b c : Option (List ℕ))
    → TakesPart (nodes_part claims limit h) old mid a b nodes → TakesPart (end_after nodes) mid new b c tt
    → TakesPart (tree_part claims limit h) old new a c nodes
tree_taken claims limit h nodes old mid new a b c taken end =
    takes_seen (followed_by (nodes_part claims limit h) end_after) (nodes_part claims limit h).Says tree_lines
    (let p : List Node × Unit {0} = (nodes, tt) in p) nodes old new a c
    (takes_both (nodes_part claims limit h) end_after nodes tt old mid new a b c taken end) taken.says (sym (node_lines claims limit h nodes))

-- ---- the file

pub header_fails : (claims : Claims) (limit : ℕ) (old new : Reader) (a b : Option (List ℕ)) (refusal : Option Refusal) → old.is_done ≡ false
    → FailsPart (header_part Cover).grammar old new a b refusal → FailsPart (file_part claims limit).grammar old new a b refusal
header_fails claims limit old new a b refusal reading fails =
    fails_first (header_part Cover) (tree_part claims limit) old new a b refusal reading fails

pub tree_fails : (claims : Claims) (limit : ℕ) (h : Heading) (old mid new : Reader) (a b c : Option (List ℕ)) (refusal : Option Refusal)
    → TakesPart (header_part Cover) old mid a b h → FailsPart (tree_part claims limit h).grammar mid new b c refusal
    → FailsPart (file_part claims limit).grammar old new a c refusal
tree_fails claims limit h old mid new a b c refusal header fails =
    fails_second (header_part Cover) (tree_part claims limit) h old mid new a b c refusal header fails

pub file_taken : (claims : Claims) (limit : ℕ) (h : Heading) (nodes : List Node) (old mid new : Reader) (a b c : Option (List ℕ))
    → TakesPart (header_part Cover) old mid a b h → TakesPart (tree_part claims limit h) mid new b c nodes
    → TakesPart (file_part claims limit) old new a c (h, nodes)
file_taken claims limit h nodes old mid new a b c header tree =
    takes_both (header_part Cover) (tree_part claims limit) h nodes old mid new a b c header tree
