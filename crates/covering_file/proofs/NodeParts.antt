-- The line of a node, as a part of a file.
use Rattle.std.proofs.Common.{◌≡◌, ℕ, ◌≤◌, ◌<◌, List, [], ◌∷◌, ◌++◌, length, refl, sym, subst, arith}
use Rattle.rational_polygon.specs.Square.{Square}
use Rattle.line_grammar.specs.declared.reason.Reason.{Reason}
use Rattle.line_grammar.specs.declared.reason.Reason.TheVariants.{OtherLine, Number, TooMany}
use Rattle.line_grammar.specs.Form.{IsForm}
use Rattle.line_grammar.specs.Laws.{ValueIsOne, NeverOffends}
use Rattle.line_grammar.specs.Offence.{number_of, HaveReason}
use Rattle.line_grammar.specs.Text.{text_of, BeginsWith}
use Rattle.line_grammar.proofs.FrontLines.{no_reason, text_of_one}
use Rattle.line_grammar.proofs.Lines as lines
use Rattle.covering_file.specs.declared.node.Node.{Node}
use Rattle.covering_file.specs.DueBoxes.{due_boxes}
use Rattle.covering_file.specs.FilePart.{Claims, RefusesNode, node_form, first_box, NodeHas, node_part}
use Rattle.covering_file.specs.Header.{Heading}
use Rattle.covering_file.specs.Node.{node_line, IsNode}
use Rattle.covering_file.proofs.NodeLines.{node_line-one, node_line-short, one_node, node_line-form}

-- ---- its form

node_passes : (words version : ℕ) (n : Node) (r : Reason) → IsNode words version n → ¬ (RefusesNode words version (node_line n) r)
node_passes words version n OtherLine is refuses = refuses (node_line-form words version n is)
node_passes words version n Number is refuses = refuses.1 (n, is, refl)
node_passes words version n r is refuses = refuses

node_reason : (words version : ℕ) (line : List ℕ) (r s : Reason) → RefusesNode words version line r → RefusesNode words version line s → r ≡ s
node_reason words version line OtherLine OtherLine p q = refl
node_reason words version line OtherLine Number p q = absurd (p q.0)
node_reason words version line Number OtherLine p q = absurd (q p.0)
node_reason words version line Number Number p q = refl
node_reason words version line OtherLine s p q = absurd q
node_reason words version line Number s p q = absurd q
node_reason words version line r s p q = absurd p

node_whole : (words version : ℕ) (line : List ℕ) (r : Reason) → RefusesNode words version line r → 2 < number_of r
node_whole words version line OtherLine p = omega arith
node_whole words version line Number p = omega arith
node_whole words version line r p = absurd p

pub node_is_form : (words version : ℕ) → words ≤ 32 → IsForm (node_form words version)
node_is_form words version few = record {
  short = node_line-short words version few;
  one_value = λ m n p q same. one_node words version few m n p same;
  passes = node_passes words version;
  one_reason = node_reason words version;
  whole = node_whole words version;
}

-- ---- after other nodes

-- what is sure of a node at its box, the first one that is due after the nodes before it
abbrev pub IsSureAfter : (Heading → Square → Node → Type 0) → Heading → List Node → Node → Type 0
IsSureAfter Sure h nodes n = Sure h (first_box (due_boxes nodes)) n

-- a node of which it is sure has no reason by what is claimed
abbrev pub NeverHas : Claims → (Heading → Square → Node → Type 0) → Type 0
NeverHas claims Sure = (h : Heading) (box : Square) (n : Node) (r : Reason) → Sure h box n → ¬ (claims.Has h box n r)

pub sure_lacks : (claims : Claims) (Sure : Heading → Square → Node → Type 0) (limit : ℕ) (h : Heading) (nodes : List Node) (n : Node) (r : Reason)
    → NeverHas claims Sure → length h.words ≤ 32 → IsNode (length h.words) h.version n → length nodes < limit → IsSureAfter Sure h nodes n
    → ¬ (NodeHas claims limit h nodes (node_line n) r)
sure_lacks claims Sure limit h nodes n OtherLine never few is within sure has = has (node_line-form (length h.words) h.version n is)
sure_lacks claims Sure limit h nodes n Number never few is within sure has = has.1 (n, is, refl)
sure_lacks claims Sure limit h nodes n TooMany never few is within sure has = omega (arith, within, has)
sure_lacks claims Sure limit h nodes n r never few is within sure has =
    let same = one_node (length h.words) h.version few n has.0 is has.2 in
    never h (first_box (due_boxes nodes)) has.0 r (subst (λ (k : Node). IsSureAfter Sure h nodes k) same sure) has.3

pub node_is_one : (claims : Claims) (limit : ℕ) (h : Heading) (nodes : List Node) → length h.words ≤ 32 → ValueIsOne (node_part claims limit h nodes)
node_is_one claims limit h nodes few m n x y p q same =
    let both = lines.one_line (node_line m) (node_line n) [] [] x y (node_line-one m) (node_line-one n) same in
    (one_node (length h.words) h.version few m n p.node both.0, both.1)

pub node_never : (claims : Claims) (Sure : Heading → Square → Node → Type 0) (limit : ℕ) (h : Heading) (nodes : List Node) (x : List ℕ)
    → NeverHas claims Sure → length h.words ≤ 32 → NeverOffends (node_part claims limit h nodes) (IsSureAfter Sure h nodes) x
node_never claims Sure limit h nodes x never few n line r says sure first =
    let at = node_line n in
    let has = NodeHas claims limit h nodes in
    let begins : BeginsWith (text_of (at ∷ []) ++ x) at = (x, (node_line-short (length h.words) h.version few n says.node, text_of_one at x)) in
    no_reason has (text_of (at ∷ []) ++ x) at begins (λ s. sure_lacks claims Sure limit h nodes n s never few says.node says.within sure) r
    (subst (λ (bytes : List ℕ). HaveReason has bytes r) (sym first.text) first.least.holds)
