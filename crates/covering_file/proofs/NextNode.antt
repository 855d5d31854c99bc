-- The next node of a tree, at the first box that is due.
use Rattle.std.proofs.Common.{◌≡◌, ◌⊎◌, inl, inr, refl, sym, ◌∙◌, subst, ℕ, ◌+◌, ◌<◌, ◌≤◌, List, [], ◌∷◌, length, Option, Some, Err}
use Rattle.rational_polygon.specs.Square.{Square}
use Rattle.mcb_ends.specs.Reader.{Reader}
use Rattle.line_grammar.specs.declared.reason.Reason.{Reason}
use Rattle.line_grammar.specs.declared.reason.Reason.TheVariants.{TooMany, TooShallow}
use Rattle.line_grammar.specs.Faults.{Refusal}
use Rattle.line_grammar.specs.Part.{line_part}
use Rattle.line_grammar.specs.Reading.{TakesPart, FailsPart, StopsAfter, RefusesFirst}
use Rattle.line_grammar.proofs.Refused.{line_fails, taken_refused}
use Rattle.covering_file.specs.declared.node.Node.{Node}
use Rattle.covering_file.specs.DueBoxes.{due_boxes, first_of}
use Rattle.covering_file.specs.FilePart.{Claims, first_box, NodeHas, NodeLacks, node_form, node_part}
use Rattle.covering_file.specs.Header.{Heading}
use Rattle.covering_file.specs.Node.{IsNode}
use Rattle.covering_file.specs.TreeSteps.{JudgesNode}
use Rattle.covering_file.proofs.AreClaims.{AreClaims}
use Rattle.covering_file.proofs.NodeReasons.{not_read, refused, too_many}

-- ---- the first due box

first_is : (due : List Square) (box : Square) → first_of due ≡ Some box → box ≡ first_box due
first_is [] box is = absurd (cc)
first_is (first ∷ others) box is = cc

pub box_first : (nodes : List Node) (box : Square) → first_of (due_boxes nodes) ≡ Some box → box ≡ first_box (due_boxes nodes)
box_first nodes box is = first_is (due_boxes nodes) box is

-- ---- its line

pub node_fails : (claims : Claims) (limit words version : ℕ) (h : Heading) (nodes : List Node) (old new : Reader) (a b : Option (List ℕ))
    (refusal : Option Refusal) → words ≡ length h.words → version ≡ h.version
    → FailsPart (line_part (node_form words version)).grammar old new a b refusal
    → FailsPart (node_part claims limit h nodes).grammar old new a b refusal
node_fails claims limit words version h nodes old new a b refusal is same fails =
    line_fails (node_form (length h.words) h.version) (NodeHas claims limit h nodes) (NodeLacks claims limit h nodes) old new a b refusal
    (λ line r refused. not_read claims limit h nodes line r refused)
    (subst (λ k. FailsPart (line_part (node_form k h.version)).grammar old new a b refusal) is
    (subst (λ v. FailsPart (line_part (node_form words v)).grammar old new a b refusal) same fails))

-- a node that is refused after its line was taken
pub node_refused : (claims : Claims) (limit count : ℕ) (h : Heading) (words version : ℕ) (nodes : List Node) (box : Square) (old new : Reader)
    (a b : Option (List ℕ)) (n : Node) (number : ℕ) (r : Reason) → AreClaims claims → length h.words ≤ 32
    → words ≡ length h.words → version ≡ h.version → count ≡ length nodes → box ≡ first_box (due_boxes nodes) → number ≡ new.number
    → TakesPart (line_part (node_form words version)) old new a b n → StopsAfter [] old new a b
    → JudgesNode claims h box n limit count (Err r)
    → RefusesFirst (node_part claims limit h nodes).grammar old new a b (record { line = number; reason = r })
node_refused claims limit count h words version nodes box old new a b n number r are few listed same counted at is read' stops judged =
    let read = subst (λ k. TakesPart (line_part (node_form k h.version)) old new a b n) listed
    (subst (λ v. TakesPart (line_part (node_form words v)) old new a b n) same read') in
    let here : number ≡ old.number + 1 = is ∙ read.taken.number in
    elim judged [
      | inl claim ↦
          taken_refused (NodeHas claims limit h nodes) (NodeLacks claims limit h nodes) old new a b _ number r here
          (refused claims limit h nodes _ n r are few read.says refl (subst (λ (b : Square). claims.Has h b n r) at claim.0)
          (λ shallow. subst (λ k. k < limit) counted (claim.1 shallow))) read.taken stops
      | inr full ↦
          let may = subst (λ (b : Square). claims.MayStand h b n ⊎ claims.Has h b n TooShallow) at full.1 in
          let many = too_many claims limit h nodes _ n are few read.says refl may (subst (λ k. limit ≤ k) counted full.2) in
          subst (λ (s : Reason). RefusesFirst (node_part claims limit h nodes).grammar old new a b (record { line = number; reason = s })) (sym full.0)
          (taken_refused (NodeHas claims limit h nodes) (NodeLacks claims limit h nodes) old new a b _ number TooMany here many read.taken stops)
    ]

-- a node that is passed
pub node_taken : (claims : Claims) (limit count : ℕ) (h : Heading) (words version : ℕ) (nodes : List Node) (box : Square) (old new : Reader)
    (a b : Option (List ℕ)) (n : Node) → words ≡ length h.words → version ≡ h.version → count ≡ length nodes → box ≡ first_box (due_boxes nodes)
    → TakesPart (line_part (node_form words version)) old new a b n → claims.MayStand h box n → count < limit
    → TakesPart (node_part claims limit h nodes) old new a b n
node_taken claims limit count h words version nodes box old new a b n listed same counted at read stands less = record {
  says = record {
    node = subst (λ k. IsNode k h.version n) listed (subst (λ v. IsNode words v n) same read.says);
    within = subst (λ k. k < limit) counted less;
    stands = subst (λ (b : Square). claims.MayStand h b n) at stands;
  };
  taken = read.taken;
  ahead = read.ahead;
}
