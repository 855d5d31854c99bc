-- The parts of a covering file: they tell one value, and whole ones with a sure tree never offend.
use Rattle.std.proofs.Common.{◌≡◌, ℕ, zero, suc, ◌^◌, ◌<◌, ◌≤◌, List, [], ◌∷◌, ◌++◌, length, codes, count_by, refl, sym, ap, arith}
use Rattle.rational_polygon.specs.Square.{Square}
use Rattle.gradient_bounds.specs.Slacks as slacks
use Rattle.mcb_ends.specs.Lines.{newline}
use Rattle.line_grammar.specs.declared.reason.Reason.TheVariants.{EndLine}
use Rattle.line_grammar.specs.Form.{IsForm, whole_line}
use Rattle.line_grammar.specs.Laws.{ValueIsOne, NeverOffends}
use Rattle.line_grammar.specs.Part.{Part, AreSaid, line_part, followed_by, whole_text}
use Rattle.line_grammar.proofs.Counted.{lines_of_each}
use Rattle.line_grammar.proofs.Forms.{whole_is_form}
use Rattle.line_grammar.proofs.Laws.{Any, AreSure, line_is_one, line_never, both_are_one, both_never, turns_are_one, turns_never, seen_is_one}
use Rattle.line_grammar.proofs.Laws.{seen_never, text_never}
use Rattle.line_grammar.proofs.Lines.{lacks_byte, two_fields-short}
use Rattle.covering_file.specs.declared.file_kind.FileKind.TheVariants.{Cover}
use Rattle.covering_file.specs.declared.node.Node.{Node}
use Rattle.covering_file.specs.CheckClaims.{check_claims}
use Rattle.covering_file.specs.DueBoxes.{due_boxes}
use Rattle.covering_file.specs.FilePart.{Claims, first_box, node_part, nodes_part, due_end, tree_lines, tree_part, file_part, whole_file}
use Rattle.covering_file.specs.Header.{Heading}
use Rattle.covering_file.specs.HeaderPart.{header_part}
use Rattle.covering_file.specs.Node.{is_uncovered, node_line, end_line}
use Rattle.covering_file.proofs.HeaderLaws.{header_value_is_one, header_never}
use Rattle.covering_file.proofs.NodeLines.{sound_is_covered}
use Rattle.covering_file.proofs.NodeParts.{IsSureAfter, NeverHas, node_is_one, node_never}
use Rattle.covering_file.proofs.NodesSaid.{node_due}

-- the end line that is due after these nodes
abbrev pub end_after : List Node → Part (Unit {0})
end_after nodes = line_part (whole_line (due_end nodes) EndLine)

pub node_lines : (claims : Claims) (limit : ℕ) (h : Heading) (nodes : List Node)
    → tree_lines nodes ≡ (followed_by (nodes_part claims limit h) end_after).lines_of (let p : List Node × Unit {0} = (nodes, tt) in p)
node_lines claims limit h nodes =
    ap (λ (ls : List (List ℕ)). ls ++ due_end nodes ∷ []) (sym (lines_of_each (node_part claims limit h) node_line (λ l n. refl) [] nodes))

-- ---- no box is left uncovered

pub none_uncovered : (limit : ℕ) (h : Heading) (before nodes : List Node) → AreSaid node_due (node_part check_claims limit h) before nodes
    → count_by is_uncovered nodes ≡ 0
none_uncovered limit h before [] said = refl
none_uncovered limit h before (n ∷ nodes) said =
    rw (sound_is_covered h slacks.sound (first_box (due_boxes before)) n said.1.stands, none_uncovered limit h (before ++ n ∷ []) nodes said.2) refl

-- ---- the end line

pub end_line_is_form : (count : ℕ) → count < 2 ^ 32 → IsForm (whole_line (end_line count) EndLine)
end_line_is_form zero few = whole_is_form (codes "end complete") EndLine (record {
  one = lacks_byte newline
      (codes "end complete") refl;
  short = omega arith;
}) (omega arith)
end_line_is_form (suc more) few =
    whole_is_form (end_line (suc more)) EndLine
    (two_fields-short (codes "end open") (suc more) (lacks_byte newline (codes "end open") refl) (omega arith) few) (omega arith)

-- after nodes that may all stand, the end line is one
abbrev pub EndsInForm : Claims → ℕ → Heading → Type 0
EndsInForm claims limit h = (nodes : List Node) → (nodes_part claims limit h).Says nodes → IsForm (whole_line (due_end nodes) EndLine)

pub check_ends : (limit : ℕ) (h : Heading) → EndsInForm check_claims limit h
check_ends limit h nodes says =
    end_line_is_form (count_by is_uncovered nodes) (omega (arith, none_uncovered limit h [] nodes says.0))

-- ---- the tree

pub nodes_are_one : (claims : Claims) (limit : ℕ) (h : Heading) → length h.words ≤ 32 → ValueIsOne (nodes_part claims limit h)
nodes_are_one claims limit h few = turns_are_one node_due (node_part claims limit h) (λ l. node_is_one claims limit h l few)

nodes_never : (claims : Claims) (Sure : Heading → Square → Node → Type 0) (limit : ℕ) (h : Heading) (x : List ℕ) → NeverHas claims Sure
    → length h.words ≤ 32 → NeverOffends (nodes_part claims limit h) (AreSure (IsSureAfter Sure h) []) x
nodes_never claims Sure limit h x never few =
    turns_never node_due (node_part claims limit h) (IsSureAfter Sure h) x (λ l. node_is_one claims limit h l few)
    (λ l y. node_never claims Sure limit h l y never few)

pub tree_one : (claims : Claims) (limit : ℕ) (h : Heading) → EndsInForm claims limit h → length h.words ≤ 32 → ValueIsOne (tree_part claims limit h)
tree_one claims limit h ends few =
    seen_is_one (followed_by (nodes_part claims limit h) end_after) (nodes_part claims limit h).Says tree_lines
    (λ (ns : List Node). let p : List Node × Unit {0} = (ns, tt) in p)
    (both_are_one (nodes_part claims limit h) end_after (nodes_are_one claims limit h few) (λ ns says. line_is_one _ (ends ns says)))
    (λ ns is. (is, tt)) (λ ns is. node_lines claims limit h ns) (λ ms ns p q is. ap (λ (v : List Node × Unit {0}). v.0) is)

tree_never : (claims : Claims) (Sure : Heading → Square → Node → Type 0) (limit : ℕ) (h : Heading) (x : List ℕ) → NeverHas claims Sure
    → EndsInForm claims limit h → length h.words ≤ 32 → NeverOffends (tree_part claims limit h) (AreSure (IsSureAfter Sure h) []) x
tree_never claims Sure limit h x never ends few =
    seen_never (followed_by (nodes_part claims limit h) end_after) (nodes_part claims limit h).Says tree_lines
    (λ (ns : List Node). let p : List Node × Unit {0} = (ns, tt) in p) (λ p. AreSure (IsSureAfter Sure h) [] p.0 × Any p.1)
    (AreSure (IsSureAfter Sure h) []) x
    (both_never (nodes_part claims limit h) end_after (AreSure (IsSureAfter Sure h) []) (λ _. Any) x (nodes_are_one claims limit h few)
    (λ y. nodes_never claims Sure limit h y never few)
    (λ ns says. line_never _ (ends ns says) Any x))
    (λ ns is. (is, tt)) (λ ns is. node_lines claims limit h ns) (λ ns _ sure. (sure, tt))

-- ---- the file

-- what is sure of the nodes after those before them
abbrev pub IsSureValue : (Heading → Square → Node → Type 0) → Heading × List Node → Type 0
IsSureValue Sure v = Any v.0 × AreSure (IsSureAfter Sure v.0) [] v.1

pub file_never : (claims : Claims) (Sure : Heading → Square → Node → Type 0) (limit : ℕ) → NeverHas claims Sure
    → ((h : Heading) → EndsInForm claims limit h) → NeverOffends (whole_file claims limit) (IsSureValue Sure) []
file_never claims Sure limit never ends =
    both_never (header_part Cover) (λ h. whole_text (tree_part claims limit h)) Any (λ h. AreSure (IsSureAfter Sure h) []) []
    (header_value_is_one Cover) (header_never Cover)
    (λ h is. text_never (tree_part claims limit h) (AreSure (IsSureAfter Sure h) []) (tree_one claims limit h (ends h) is.word_count.1)
    (λ x. tree_never claims Sure limit h x never (ends h) is.word_count.1))

-- a file, and then the end of the text
pub read_never : (claims : Claims) (Sure : Heading → Square → Node → Type 0) (limit : ℕ) (x : List ℕ) → NeverHas claims Sure
    → ((h : Heading) → EndsInForm claims limit h) → NeverOffends (file_part claims limit) (IsSureValue Sure) x
read_never claims Sure limit x never ends =
    both_never (header_part Cover) (tree_part claims limit) Any (λ h. AreSure (IsSureAfter Sure h) []) x
    (header_value_is_one Cover) (header_never Cover)
    (λ h is. tree_never claims Sure limit h x never (ends h) is.word_count.1)

pub file_value_is_one : (claims : Claims) (limit : ℕ) → ((h : Heading) → EndsInForm claims limit h) → ValueIsOne (file_part claims limit)
file_value_is_one claims limit ends =
    both_are_one (header_part Cover) (tree_part claims limit) (header_value_is_one Cover)
    (λ h is. tree_one claims limit h (ends h) is.word_count.1)
