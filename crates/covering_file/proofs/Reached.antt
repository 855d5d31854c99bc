-- How far the reading of a tree has come: the nodes so far.
use Rattle.std.proofs.Common.{◌≡◌, sym, ap, ◌∙◌, subst, ℕ, ◌+◌, ◌<◌, ◌≤◌, true, false, List, [], ◌∷◌, ◌++◌, length, Option, Some, None}
use Rattle.std.proofs.Common.{arith, length-append}
use Rattle.std.specs.Prelude.{is_some}
use Rattle.rational_polygon.specs.Square.{Square, unit_square}
use Rattle.mcb_ends.specs.Reader.{Reader}
use Rattle.line_grammar.specs.Faults.{Refusal}
use Rattle.line_grammar.specs.Part.{Part, so_far}
use Rattle.line_grammar.specs.Reading.{TakesPart, FailsPart}
use Rattle.line_grammar.proofs.Parts.{takes_no_turn, takes_turn, takes_all_turns, fails_turn}
use Rattle.covering_file.specs.declared.node.Node.{Node}
use Rattle.covering_file.specs.declared.node.Node.TheVariants.{Split}
use Rattle.covering_file.specs.DueBoxes.{due_after, due_boxes, first_of}
use Rattle.covering_file.specs.FilePart.{Claims, node_part, nodes_part}
use Rattle.covering_file.specs.Header.{Heading}
use Rattle.covering_file.specs.Walk.{Frontier}
use Rattle.covering_file.proofs.AreClaims.{AreClaims}
use Rattle.covering_file.proofs.NextNode.{box_first}
use Rattle.covering_file.proofs.NodesSaid.{node_due, due_more}

-- the first nodes of a tree
abbrev pub nodes_so_far : Claims → ℕ → Heading → Part (List Node)
nodes_so_far claims limit h = so_far node_due (node_part claims limit h)

-- these nodes are taken, and the walk stands after them
pub record HasReached (claims : Claims) (limit : ℕ) (h : Heading) (walk : Frontier) (nodes : List Node) (old new : Reader) (a b : Option (List ℕ))
    : Type 0 where
  pub within : length nodes ≤ limit
  pub depth : walk.depth ≡ h.depth
  pub due : walk.due ≡ due_boxes nodes
  pub takes : TakesPart (nodes_so_far claims limit h) old new a b nodes
  pub number : new.number ≡ old.number + length nodes

pub at_start : (claims : Claims) (limit : ℕ) (h : Heading) (walk : Frontier) (reader : Reader) (left : Option (List ℕ)) → reader.is_done ≡ false
    → walk.depth ≡ h.depth → walk.due ≡ due_boxes [] → HasReached claims limit h walk [] reader reader left left
at_start claims limit h walk reader left reading depth due = record {
  within = omega arith;
  depth = depth;
  due = due;
  takes = takes_no_turn node_due (node_part claims limit h) reader left reading;
  number = omega arith;
}

here_due : (due : List Square) (nodes : List Node) (box : Square) → due ≡ due_boxes nodes → first_of due ≡ Some box → node_due nodes ≡ true
here_due due nodes box is first = ap (λ (boxes : List Square). is_some (first_of boxes)) (sym is) ∙ ap is_some first

-- the next node is read at the first due box
pub after_node : (claims : Claims) (limit : ℕ) (h : Heading) (walk walk' : Frontier) (nodes : List Node) (box : Square) (n : Node) (old mid new : Reader)
    (a b c : Option (List ℕ)) → HasReached claims limit h walk nodes old mid a b
    → walk' ≡ record { depth = walk.depth; due = due_after walk.due n } → first_of walk.due ≡ Some box
    → TakesPart (node_part claims limit h nodes) mid new b c n
    → HasReached claims limit h walk' (nodes ++ n ∷ []) old new a c
after_node claims limit h walk walk' nodes box n old mid new a b c reached is first one =
    let here = here_due walk.due nodes box reached.due first in
    record {
      within = omega (arith, one.says.within, length-append nodes (n ∷ []));
      depth = ap (λ (w : Frontier). w.depth) is ∙ reached.depth;
      due = ap (λ (w : Frontier). w.due) is ∙ ap (λ (boxes : List Square). due_after boxes n) reached.due ∙ sym (due_more (unit_square ∷ []) nodes n);
      takes = takes_turn node_due (node_part claims limit h) nodes n old mid new a b c reached.takes here one;
      number = omega (arith, reached.number, one.taken.number, length-append nodes (n ∷ []));
    }

-- the box that is due is the first after the nodes so far
pub first_after : (claims : Claims) (limit : ℕ) (h : Heading) (walk : Frontier) (nodes : List Node) (box : Square) (old new : Reader)
    (a b : Option (List ℕ)) → HasReached claims limit h walk nodes old new a b
    → first_of walk.due ≡ Some box → first_of (due_boxes nodes) ≡ Some box
first_after claims limit h walk nodes box old new a b reached first = ap first_of (sym reached.due) ∙ first

-- a split that is passed is above the full depth
pub may_split : (claims : Claims) (limit : ℕ) (h : Heading) (walk : Frontier) (nodes : List Node) (box : Square) (n : Node) (old mid new : Reader)
    (a b c : Option (List ℕ)) → AreClaims claims → HasReached claims limit h walk nodes old mid a b
    → first_of walk.due ≡ Some box → TakesPart (node_part claims limit h nodes) mid new b c n → n ≡ Split → box.level < walk.depth
may_split claims limit h walk nodes box n old mid new a b c are reached first one split =
    let at = box_first nodes box (first_after claims limit h walk nodes box old mid a b reached first) in
    let here = subst (λ (b : Square). claims.MayStand h b n) (sym at) one.says.stands in
    let above : box.level < h.depth = are.splits h box (subst (λ (k : Node). claims.MayStand h box k) split here) in
    omega (arith, above, reached.depth)

-- no box is due any more
pub all_nodes : (claims : Claims) (limit : ℕ) (h : Heading) (walk : Frontier) (nodes : List Node) (old new : Reader) (a b : Option (List ℕ))
    → HasReached claims limit h walk nodes old new a b → first_of walk.due ≡ None
    → TakesPart (nodes_part claims limit h) old new a b nodes
all_nodes claims limit h walk nodes old new a b reached none =
    takes_all_turns node_due (node_part claims limit h) nodes old new a b reached.takes
    (ap (λ (boxes : List Square). is_some (first_of boxes)) (sym reached.due) ∙ ap is_some none)

-- the next node fails
pub node_not_taken : (claims : Claims) (limit : ℕ) (h : Heading) (walk : Frontier) (nodes : List Node) (box : Square) (old mid new : Reader)
    (a b c : Option (List ℕ)) (refusal : Option Refusal) → HasReached claims limit h walk nodes old mid a b
    → first_of walk.due ≡ Some box → FailsPart (node_part claims limit h nodes).grammar mid new b c refusal
    → FailsPart (nodes_part claims limit h).grammar old new a c refusal
node_not_taken claims limit h walk nodes box old mid new a b c refusal reached first fails =
    fails_turn node_due (node_part claims limit h) nodes old mid new a b c refusal reached.takes (here_due walk.due nodes box reached.due first) fails
