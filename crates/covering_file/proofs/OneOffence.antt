-- A file that is read without being judged offends first at one line, and there by one least reason.
use Rattle.std.proofs.Common.{ℕ, ◌≤◌, List, [], length, sym, ◌∙◌, subst}
use Rattle.line_grammar.specs.declared.reason.Reason.{Reason}
use Rattle.line_grammar.specs.declared.reason.Reason.TheVariants.{TooLong, Ends, OtherLine, Number, EndLine, TooMany}
use Rattle.line_grammar.specs.Form.{whole_line}
use Rattle.line_grammar.specs.Laws.{NeverOffends, OffenceIsOne}
use Rattle.line_grammar.specs.Offence.{IsLeast, HaveReason, LackReason}
use Rattle.line_grammar.proofs.Laws.{Any, both_offences_are_one, line_offence_is_one, text_offence_is_one, turn_offences_are_one, turns_never}
use Rattle.line_grammar.proofs.Laws.{all_sure}
use Rattle.line_grammar.proofs.Offending.{least_is_one}
use Rattle.covering_file.specs.declared.file_kind.FileKind.TheVariants.{Cover}
use Rattle.covering_file.specs.declared.node.Node.{Node}
use Rattle.covering_file.specs.FilePart.{NodeHas, NodeLacks, node_part, nodes_part, due_end, tree_part, file_part}
use Rattle.covering_file.specs.Header.{Heading}
use Rattle.covering_file.specs.HeaderPart.{header_part}
use Rattle.covering_file.specs.Laws.{TreeFileOffenceIsOne}
use Rattle.covering_file.specs.TreeFile.{HasLevelFor, level_claims, tree_file_part}
use Rattle.covering_file.proofs.FileParts.{end_after, nodes_are_one}
use Rattle.covering_file.proofs.HeaderLaws.{header_value_is_one, header_never, header_offence_is_one}
use Rattle.covering_file.proofs.NodeParts.{node_is_one, node_never}
use Rattle.covering_file.proofs.NodesSaid.{node_due}
use Rattle.covering_file.proofs.TreeFiles.{level_never, tree_file_is_one, tree_file_never}

-- a line of a node does not both have and lack a reason
line_apart : (limit : ℕ) (h : Heading) (nodes : List Node) (line : List ℕ) (r : Reason) → NodeHas level_claims limit h nodes line r
    → NodeLacks level_claims limit h nodes line r → ⊥
line_apart limit h nodes line OtherLine has lacks = lacks has
line_apart limit h nodes line Number has lacks = lacks has
line_apart limit h nodes line TooMany has lacks = lacks has
line_apart limit h nodes line r has lacks = lacks has.0 has.1 has.2 has.3

bytes_apart : (limit : ℕ) (h : Heading) (nodes : List Node) (bytes : List ℕ) (r : Reason) → HaveReason (NodeHas level_claims limit h nodes) bytes r
    → LackReason (NodeLacks level_claims limit h nodes) bytes r → ⊥
bytes_apart limit h nodes bytes TooLong has lacks = lacks has
bytes_apart limit h nodes bytes Ends has lacks = lacks has
bytes_apart limit h nodes bytes r has lacks = line_apart limit h nodes has.0 r has.2 (lacks has.0 has.1)

node_offence_is_one : (limit : ℕ) (h : Heading) (nodes : List Node) → OffenceIsOne (node_part level_claims limit h nodes).grammar
node_offence_is_one limit h nodes bytes line other r s p q =
    let has = HaveReason (NodeHas level_claims limit h nodes) in
    let lacks = LackReason (NodeLacks level_claims limit h nodes) in
    let here = subst (λ (xs : List ℕ). IsLeast (has xs) (lacks xs) r) (sym p.text) p.least in
    let there = subst (λ (xs : List ℕ). IsLeast (has xs) (lacks xs) s) (sym q.text) q.least in
    (p.number ∙ sym q.number, least_is_one (has bytes) (lacks bytes) (λ t. bytes_apart limit h nodes bytes t) r s here there)

-- a node that may be said is at a level for it
node_never_offends : (limit : ℕ) (h : Heading) (nodes : List Node) (x : List ℕ) → length h.words ≤ 32
    → NeverOffends (node_part level_claims limit h nodes) Any x
node_never_offends limit h nodes x few n line r says any o =
    node_never level_claims HasLevelFor limit h nodes x level_never few n line r says says.stands o

nodes_never_offend : (limit : ℕ) (h : Heading) (x : List ℕ) → length h.words ≤ 32 → NeverOffends (nodes_part level_claims limit h) Any x
nodes_never_offend limit h x few nodes line r says any o =
    turns_never node_due (node_part level_claims limit h) (λ _. Any) x (λ l. node_is_one level_claims limit h l few)
    (λ l y. node_never_offends limit h l y few) nodes line r says (all_sure [] nodes) o

tree_offence_is_one : (limit : ℕ) (h : Heading) → length h.words ≤ 32 → OffenceIsOne (tree_part level_claims limit h).grammar
tree_offence_is_one limit h few =
    both_offences_are_one (nodes_part level_claims limit h) end_after (nodes_are_one level_claims limit h few) (λ x. nodes_never_offend limit h x few)
    (turn_offences_are_one node_due (node_part level_claims limit h) (λ l. node_is_one level_claims limit h l few)
    (λ l y. node_never_offends limit h l y few) (λ l. node_offence_is_one limit h l))
    (λ nodes says. line_offence_is_one (whole_line (due_end nodes) EndLine))

file_offence_is_one : (limit : ℕ) → OffenceIsOne (file_part level_claims limit).grammar
file_offence_is_one limit =
    both_offences_are_one (header_part Cover) (tree_part level_claims limit) (header_value_is_one Cover) (header_never Cover) (header_offence_is_one Cover)
    (λ h is. tree_offence_is_one limit h is.word_count.1)

pub tree_file_offence_is_one : TreeFileOffenceIsOne
tree_file_offence_is_one limit few =
    text_offence_is_one (tree_file_part limit) (tree_file_is_one limit few) (λ x. tree_file_never limit x few) (file_offence_is_one limit)
