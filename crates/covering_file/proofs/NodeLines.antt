-- The lines of nodes: they are short and tell the node.
use Rattle.std.proofs.Common.{◌≡◌, inl, inr, ℕ, ◌≤◌, List, length, get_or, decimal, codes, false, refl, ap, arith}
use Rattle.rational_polygon.specs.Square.{Square}
use Rattle.gradient_bounds.specs.Slacks.{Slacks}
use Rattle.mcb_ends.specs.Lines.{newline, HasNoNewline, IsShortLine}
use Rattle.covering_file.specs.declared.node.Node.{Node}
use Rattle.covering_file.specs.declared.node.Node.TheVariants.{Split, Outside, Shown, Corner, Uncovered}
use Rattle.line_grammar.specs.Form.{IsNamed}
use Rattle.line_grammar.specs.Text.{space}
use Rattle.covering_file.specs.Header.{Heading}
use Rattle.covering_file.specs.Node.{is_uncovered, node_line, IsNode, NodeHasForm}
use Rattle.covering_file.specs.Sound.{IsSoundNode}
use Rattle.line_grammar.proofs.Lines.{lacks_byte, two_fields-one, two_fields-short, decimal-no_space, one_number}

-- no line of a node holds a newline, whatever its number
pub node_line-one : (n : Node) → HasNoNewline (node_line n)
node_line-one Split = lacks_byte newline (codes "s") refl
node_line-one Outside = lacks_byte newline (codes "o") refl
node_line-one (Shown i) = two_fields-one (codes "w") i (lacks_byte newline (codes "w") refl)
node_line-one (Corner i) = two_fields-one (codes "q") i (lacks_byte newline (codes "q") refl)
node_line-one Uncovered = lacks_byte newline (codes "u") refl

pub node_line-short : (words version : ℕ) → words ≤ 32 → (n : Node) → IsNode words version n → IsShortLine (node_line n)
node_line-short words version few Split is = record { one = node_line-one Split; short = omega arith }
node_line-short words version few Outside is = record { one = node_line-one Outside; short = omega arith }
node_line-short words version few (Shown i) is = two_fields-short (codes "w") i (lacks_byte newline (codes "w") refl) (omega arith) (omega (arith, few, is.1))
node_line-short words version few (Corner i) is = two_fields-short (codes "q") i (lacks_byte newline (codes "q") refl) (omega arith) (omega (arith, few, is.2))
node_line-short words version few Uncovered is = record { one = node_line-one Uncovered; short = omega arith }

-- a line that is that of a node of a file is that of no other
pub one_node : (words version : ℕ) → words ≤ 32 → (m n : Node) → IsNode words version m → node_line m ≡ node_line n → m ≡ n
one_node words version few Split Split is same = refl
one_node words version few Outside Outside is same = refl
one_node words version few (Shown i) (Shown j) is same = ap (λ k. Shown k) (one_number (codes "w") i j (omega (arith, few, is.1)) same)
one_node words version few (Corner i) (Corner j) is same = ap (λ k. Corner k) (one_number (codes "q") i j (omega (arith, few, is.2)) same)
one_node words version few Uncovered Uncovered is same = refl
one_node words version few m n is same = absurd (omega (arith, ap (λ (line : List ℕ). get_or line 0 0) same))

-- the line of a node has the form of one, in each version that has the node
pub node_line-form : (words version : ℕ) (n : Node) → IsNode words version n → NodeHasForm version (node_line n)
node_line-form words version Split is = inl refl
node_line-form words version Outside is = inr (inl refl)
node_line-form words version (Shown i) is =
    inr (inr (inr (inl (decimal i, record { is = refl; first_field = lacks_byte space (codes "w") refl; second_field = decimal-no_space i }))))
node_line-form words version (Corner i) is =
    let named : IsNamed (codes "q") (node_line (Corner i)) =
    (decimal i, record { is = refl; first_field = lacks_byte space (codes "q") refl; second_field = decimal-no_space i }) in
    inr (inr (inr (inr (is.0, named))))
node_line-form words version Uncovered is = inr (inr (inl refl))

pub sound_is_node : (h : Heading) (e : Slacks) (box : Square) (n : Node) → IsSoundNode h e box n → IsNode (length h.words) h.version n
sound_is_node h e box (Shown i) sound = sound.0
sound_is_node h e box (Corner i) sound = (sound.0, sound.1.0, sound.1.1)
sound_is_node h e box n sound = tt

pub sound_is_covered : (h : Heading) (e : Slacks) (box : Square) (n : Node) → IsSoundNode h e box n → is_uncovered n ≡ false
sound_is_covered h e box Uncovered sound = absurd sound
sound_is_covered h e box n sound = refl

pub not_uncovered : (n : Node) → ¬ (n ≡ Uncovered) → is_uncovered n ≡ false
not_uncovered Uncovered differs = absurd (differs refl)
not_uncovered n differs = refl
