-- Nodes that are said one after another are those that stand at due boxes.
use Rattle.std.proofs.Common.{◌≡◌, inl, inr, ℕ, ◌≤◌, Bool, true, false, List, [], ◌∷◌, ◌++◌, length, fold}
use Rattle.std.proofs.Common.{refl, sym, ap, ◌∙◌, subst, arith, length-append, append_assoc}
use Rattle.std.specs.Prelude.{is_some}
use Rattle.rational_polygon.specs.Square.{Square, unit_square}
use Rattle.line_grammar.specs.Part.{AreSaid}
use Rattle.line_grammar.proofs.Laws.{AreSure}
use Rattle.covering_file.specs.declared.node.Node.{Node}
use Rattle.covering_file.specs.DueBoxes.{due_after, due_boxes, first_of, AreDue, AreWhole, StandsIn}
use Rattle.covering_file.specs.FilePart.{Claims, first_box, node_part, nodes_part}
use Rattle.covering_file.specs.Header.{Heading}
use Rattle.covering_file.specs.Node.{IsNode}
use Rattle.covering_file.proofs.NodeParts.{IsSureAfter}
use Rattle.covering_file.proofs.Trees.{AreDueFrom, due_behind, due_before}

-- whether a node is due after these
abbrev pub node_due : List Node → Bool
node_due nodes = is_some (first_of (due_boxes nodes))

pub due_more : (due : List Square) (nodes : List Node) (n : Node) → fold due_after due (nodes ++ n ∷ []) ≡ due_after (fold due_after due nodes) n
due_more due [] n = refl
due_more due (m ∷ nodes) n = due_more (due_after due m) nodes n

next_boxes : (before : List Node) (due : List Square) (n : Node) → due_boxes before ≡ due → due_boxes (before ++ n ∷ []) ≡ due_after due n
next_boxes before due n is = due_more (unit_square ∷ []) before n ∙ ap (λ (boxes : List Square). due_after boxes n) is

-- ---- from boxes to nodes

said_from_boxes : (claims : Claims) (limit : ℕ) (h : Heading) (before : List Node) (due : List Square) (nodes : List Node) → due_boxes before ≡ due
    → AreDueFrom due nodes
    → ((box : Square) (n : Node) → StandsIn due nodes box n → IsNode (length h.words) h.version n × claims.MayStand h box n)
    → length (before ++ nodes) ≤ limit
    → AreSaid node_due (node_part claims limit h) before nodes
said_from_boxes claims limit h before due [] is are each within = tt
said_from_boxes claims limit h before [] (n ∷ nodes) is are each within = absurd (are 0 (omega arith) refl)
said_from_boxes claims limit h before (box ∷ others) (n ∷ nodes) is are each within =
    let here = each box n (inl (refl, refl)) in (
      ap (λ (boxes : List Square). is_some (first_of boxes)) is,
      record {
        node = here.0;
        within = omega (arith, within, length-append before (n ∷ nodes));
        stands = subst (λ (boxes : List Square). claims.MayStand h (first_box boxes) n) (sym is) here.1;
      },
      said_from_boxes claims limit h (before ++ n ∷ []) (due_after (box ∷ others) n) nodes (next_boxes before (box ∷ others) n is)
          (due_behind (box ∷ others) n nodes are) (λ at m stands. each at m (inr stands))
          (omega (arith, within, ap length (append_assoc before (n ∷ []) nodes))),
    )

none_due : (due : List Square) → due ≡ [] → is_some (first_of due) ≡ false
none_due due is = ap (λ (boxes : List Square). is_some (first_of boxes)) is

-- the nodes of a whole tree, each of which may stand at its box
pub all_said : (claims : Claims) (limit : ℕ) (h : Heading) (nodes : List Node) → AreWhole nodes → length nodes ≤ limit
    → ((box : Square) (n : Node) → StandsIn (unit_square ∷ []) nodes box n → IsNode (length h.words) h.version n × claims.MayStand h box n)
    → (nodes_part claims limit h).Says nodes
all_said claims limit h nodes whole within each =
    (said_from_boxes claims limit h [] (unit_square ∷ []) nodes refl whole.due each within, none_due (due_boxes nodes) whole.none_left)

sure_from_boxes : (Sure : Heading → Square → Node → Type 0) (h : Heading) (before : List Node) (due : List Square) (nodes : List Node)
    → due_boxes before ≡ due → AreDueFrom due nodes → ((box : Square) (n : Node) → StandsIn due nodes box n → Sure h box n)
    → AreSure (IsSureAfter Sure h) before nodes
sure_from_boxes Sure h before due [] is are each = tt
sure_from_boxes Sure h before [] (n ∷ nodes) is are each = absurd (are 0 (omega arith) refl)
sure_from_boxes Sure h before (box ∷ others) (n ∷ nodes) is are each = (
  subst (λ (boxes : List Square). Sure h (first_box boxes) n) (sym is) (each box n (inl (refl, refl))),
  sure_from_boxes Sure h (before ++ n ∷ []) (due_after (box ∷ others) n) nodes (next_boxes before (box ∷ others) n is)
      (due_behind (box ∷ others) n nodes are) (λ at m stands. each at m (inr stands)),
)

pub each_sure : (Sure : Heading → Square → Node → Type 0) (h : Heading) (nodes : List Node) → AreDue nodes
    → ((box : Square) (n : Node) → StandsIn (unit_square ∷ []) nodes box n → Sure h box n) → AreSure (IsSureAfter Sure h) [] nodes
each_sure Sure h nodes due each = sure_from_boxes Sure h [] (unit_square ∷ []) nodes refl due each

-- ---- from nodes to boxes

not_due : (before : List Node) → due_boxes before ≡ [] → node_due before ≡ true → ⊥
not_due before is due = let never : true ≡ false = sym due ∙ none_due (due_boxes before) is in cc

due_from_said : (claims : Claims) (limit : ℕ) (h : Heading) (before : List Node) (due : List Square) (nodes : List Node) → due_boxes before ≡ due
    → AreSaid node_due (node_part claims limit h) before nodes → AreDueFrom due nodes
due_from_said claims limit h before due [] is said = λ k within. absurd (omega arith)
due_from_said claims limit h before [] (n ∷ nodes) is said = absurd (not_due before is said.0)
due_from_said claims limit h before (box ∷ others) (n ∷ nodes) is said =
    due_before box others n nodes
    (due_from_said claims limit h (before ++ n ∷ []) (due_after (box ∷ others) n) nodes (next_boxes before (box ∷ others) n is) said.2)

stands_from_said : (claims : Claims) (limit : ℕ) (h : Heading) (before : List Node) (due : List Square) (nodes : List Node) → due_boxes before ≡ due
    → AreSaid node_due (node_part claims limit h) before nodes → (at : Square) (m : Node) → StandsIn due nodes at m → claims.MayStand h at m
stands_from_said claims limit h before due [] is said at m stands = absurd stands
stands_from_said claims limit h before [] (n ∷ nodes) is said at m stands = absurd stands
stands_from_said claims limit h before (box ∷ others) (n ∷ nodes) is said at m (inl here) =
    let first = subst (λ (boxes : List Square). claims.MayStand h (first_box boxes) n) is said.1.stands in
    subst (λ (k : Node). claims.MayStand h at k) (sym here.1) (subst (λ (b : Square). claims.MayStand h b n) (sym here.0) first)
stands_from_said claims limit h before (box ∷ others) (n ∷ nodes) is said at m (inr later) =
    stands_from_said claims limit h (before ++ n ∷ []) (due_after (box ∷ others) n) nodes (next_boxes before (box ∷ others) n is) said.2 at m later

within_from_said : (claims : Claims) (limit : ℕ) (h : Heading) (before nodes : List Node) → AreSaid node_due (node_part claims limit h) before nodes
    → length before ≤ limit → length (before ++ nodes) ≤ limit
within_from_said claims limit h before [] said within = omega (arith, within, length-append before [])
within_from_said claims limit h before (n ∷ nodes) said within =
    let rest = within_from_said claims limit h (before ++ n ∷ []) nodes said.2 (omega (arith, said.1.within, length-append before (n ∷ []))) in
    omega (arith, rest, ap length (append_assoc before (n ∷ []) nodes))

none_after : (due : List Square) → is_some (first_of due) ≡ false → due ≡ []
none_after [] is = refl
none_after (box ∷ others) is = let never : true ≡ false = is in cc

pub said_are_whole : (claims : Claims) (limit : ℕ) (h : Heading) (nodes : List Node) → (nodes_part claims limit h).Says nodes → AreWhole nodes
said_are_whole claims limit h nodes says = record {
  due = due_from_said claims limit h [] (unit_square ∷ []) nodes refl says.0;
  none_left = none_after (due_boxes nodes) says.1;
}

pub said_may_stand : (claims : Claims) (limit : ℕ) (h : Heading) (nodes : List Node) → (nodes_part claims limit h).Says nodes
    → (box : Square) (n : Node) → StandsIn (unit_square ∷ []) nodes box n → claims.MayStand h box n
said_may_stand claims limit h nodes says box n stands = stands_from_said claims limit h [] (unit_square ∷ []) nodes refl says.0 box n stands

pub said_within : (claims : Claims) (limit : ℕ) (h : Heading) (nodes : List Node) → (nodes_part claims limit h).Says nodes → length nodes ≤ limit
said_within claims limit h nodes says = within_from_said claims limit h [] nodes says.0 (omega arith)

node_from_said : (claims : Claims) (limit : ℕ) (h : Heading) (before : List Node) (due : List Square) (nodes : List Node) → due_boxes before ≡ due
    → AreSaid node_due (node_part claims limit h) before nodes → (at : Square) (m : Node) → StandsIn due nodes at m → IsNode (length h.words) h.version m
node_from_said claims limit h before due [] is said at m stands = absurd stands
node_from_said claims limit h before [] (n ∷ nodes) is said at m stands = absurd stands
node_from_said claims limit h before (box ∷ others) (n ∷ nodes) is said at m (inl here) =
    subst (λ (k : Node). IsNode (length h.words) h.version k) (sym here.1) said.1.node
node_from_said claims limit h before (box ∷ others) (n ∷ nodes) is said at m (inr later) =
    node_from_said claims limit h (before ++ n ∷ []) (due_after (box ∷ others) n) nodes (next_boxes before (box ∷ others) n is) said.2 at m later

pub said_is_node : (claims : Claims) (limit : ℕ) (h : Heading) (nodes : List Node) → (nodes_part claims limit h).Says nodes
    → (box : Square) (n : Node) → StandsIn (unit_square ∷ []) nodes box n → IsNode (length h.words) h.version n
said_is_node claims limit h nodes says box n stands = node_from_said claims limit h [] (unit_square ∷ []) nodes refl says.0 box n stands
