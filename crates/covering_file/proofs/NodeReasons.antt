-- The reasons of the line of a node, and which one is its least, whatever is claimed of nodes.
use Rattle.std.proofs.Common.{◌≡◌, ◌⊎◌, inl, inr, refl, sym, ap, ◌∙◌, ℕ, ◌<◌, ◌≤◌, List, length, subst, arith}
use Rattle.rational_polygon.specs.Square.{Square}
use Rattle.line_grammar.specs.declared.reason.Reason.{Reason}
use Rattle.line_grammar.specs.declared.reason.Reason.TheVariants.{OtherLine, Number, TooMany, TooShallow}
use Rattle.line_grammar.specs.Offence.{number_of}
use Rattle.line_grammar.proofs.Refused.{HasLeast}
use Rattle.covering_file.specs.declared.node.Node.{Node}
use Rattle.covering_file.specs.DueBoxes.{due_boxes}
use Rattle.covering_file.specs.FilePart.{Claims, RefusesNode, first_box, NodeHas, NodeLacks}
use Rattle.covering_file.specs.Header.{Heading}
use Rattle.covering_file.specs.Node.{node_line, IsNode, NodeHasForm}
use Rattle.covering_file.proofs.AreClaims.{IsClaimReason, AreClaims}
use Rattle.covering_file.proofs.NodeLines.{one_node, node_line-form}

-- ---- a line of no node

below_number : (claims : Claims) (limit : ℕ) (h : Heading) (nodes : List Node) (line : List ℕ) (s : Reason) → NodeHasForm h.version line
    → 2 < number_of s → number_of s < 4 → NodeLacks claims limit h nodes line s
below_number claims limit h nodes line OtherLine form late less = λ no. no form
below_number claims limit h nodes line s form late less = absurd (omega (arith, late, less))

none_below_form : (s : Reason) → 2 < number_of s → number_of s < 3 → ⊥
none_below_form s late less = omega (arith, late, less)

pub not_read : (claims : Claims) (limit : ℕ) (h : Heading) (nodes : List Node) (line : List ℕ) (r : Reason)
    → RefusesNode (length h.words) h.version line r → HasLeast (NodeHas claims limit h nodes) (NodeLacks claims limit h nodes) line r
not_read claims limit h nodes line OtherLine refused =
    record { whole = omega arith; holds = refused; none_less = λ s late less. absurd (none_below_form s late less) }
not_read claims limit h nodes line Number refused =
    record { whole = omega arith; holds = refused; none_less = λ s late less. below_number claims limit h nodes line s refused.0 late less }
not_read claims limit h nodes line r refused = absurd refused

-- ---- the line of a node

abbrev place : List Node → Square
place nodes = first_box (due_boxes nodes)

lacks : (claims : Claims) (limit : ℕ) (h : Heading) (nodes : List Node) (line : List ℕ) (n : Node) (s : Reason) → length h.words ≤ 32
    → IsNode (length h.words) h.version n → line ≡ node_line n → (s ≡ TooMany → length nodes < limit) → claims.Lacks h (place nodes) n s
    → NodeLacks claims limit h nodes line s
lacks claims limit h nodes line n OtherLine few is_node is room claim =
    λ no. no (subst (NodeHasForm h.version) (sym is) (node_line-form (length h.words) h.version n is_node))
lacks claims limit h nodes line n Number few is_node is room claim = λ has. has.1 (n, is_node, is)
lacks claims limit h nodes line n TooMany few is_node is room claim = λ full. omega (arith, full, room refl)
lacks claims limit h nodes line n s few is_node is room claim = λ m of same.
    subst (λ (k : Node). claims.Lacks h (place nodes) k s) (one_node (length h.words) h.version few n m is_node (sym is ∙ same)) claim

holds : (claims : Claims) (limit : ℕ) (h : Heading) (nodes : List Node) (line : List ℕ) (n : Node) (r : Reason) → IsNode (length h.words) h.version n
    → line ≡ node_line n → IsClaimReason r → claims.Has h (place nodes) n r → NodeHas claims limit h nodes line r
holds claims limit h nodes line n OtherLine is_node is one has = absurd (omega (arith, one.late))
holds claims limit h nodes line n Number is_node is one has = absurd (omega (arith, one.late))
holds claims limit h nodes line n TooMany is_node is one has = absurd (one.apart refl)
holds claims limit h nodes line n r is_node is one has = (n, is_node, is, has)

-- a node that may not stand
pub refused : (claims : Claims) (limit : ℕ) (h : Heading) (nodes : List Node) (line : List ℕ) (n : Node) (r : Reason) → AreClaims claims
    → length h.words ≤ 32 → IsNode (length h.words) h.version n → line ≡ node_line n → claims.Has h (place nodes) n r
    → (r ≡ TooShallow → length nodes < limit) → HasLeast (NodeHas claims limit h nodes) (NodeLacks claims limit h nodes) line r
refused claims limit h nodes line n r are few is_node is has room =
    let one = are.whole h (place nodes) n r has in
    record {
      whole = omega (arith, one.late);
      holds = holds claims limit h nodes line n r is_node is one has;
      none_less = λ s late less.
          lacks claims limit h nodes line n s few is_node is
          (λ many. let number : number_of s ≡ 14 = ap number_of many in room (one.last (omega (arith, number, less))))
          (are.lesser h (place nodes) n r s has less);
    }

-- one that may stand, or is too shallow, and is one too many
pub too_many : (claims : Claims) (limit : ℕ) (h : Heading) (nodes : List Node) (line : List ℕ) (n : Node) → AreClaims claims → length h.words ≤ 32
    → IsNode (length h.words) h.version n → line ≡ node_line n → claims.MayStand h (place nodes) n ⊎ claims.Has h (place nodes) n TooShallow
    → limit ≤ length nodes → HasLeast (NodeHas claims limit h nodes) (NodeLacks claims limit h nodes) line TooMany
too_many claims limit h nodes line n are few is_node is may full = record {
  whole = omega arith;
  holds = full;
  none_less = λ s late less.
      lacks claims limit h nodes line n s few is_node is (λ many. absurd (omega (arith, less, ap number_of many)))
      (elim may [
        | inl stands ↦ are.passed h (place nodes) n s stands
        | inr shallow ↦ are.lesser h (place nodes) n TooShallow s shallow (omega (arith, less))
      ]);
}
