-- How far a covering has come: the nodes so far, and the boxes that are due after them.
use Rattle.std.proofs.Common.{◌≡◌, ◌≢◌, inl, inr, refl, sym, ap, ◌∙◌, subst, ℕ, ◌<◌, ◌≤◌, List, [], ◌∷◌, ◌++◌, length, take, arith, length-append}
use Rattle.std.specs.List.{All, fold}
use Rattle.std.proofs.lemmas.Bool.{cases_lt}
use Rattle.std.proofs.lemmas.List.{take-append-le}
use Rattle.std.proofs.lemmas.List.Elements.{All-nil, All-cons, All-head, All-tail}
use Rattle.std.proofs.lemmas.List.Sums.{fold-append}
use Rattle.std.proofs.Math.Seq.{take-append_seam}
use Rattle.rational_polygon.specs.Square.{Square, unit_square, child}
use Rattle.covering_file.specs.declared.node.Node.{Node}
use Rattle.covering_file.specs.declared.node.Node.TheVariants.{Split}
use Rattle.covering_file.specs.DueBoxes.{due_after, due_boxes, AreDue, StandsIn}
use Rattle.covering_file.specs.Header.{Heading, IsHeading}
use Rattle.covering_file.specs.Node.{IsLeaf}
use Rattle.covering_file.proofs.Trees.{due_after-leaf, split_or_leaf, stands_last}
use Rattle.coverer.specs.declared.stack.Due.{Due}
use Rattle.coverer.specs.declared.word_set.WordSet.{WordSet}
use Rattle.coverer.specs.Begun.{IsBegun}
use Rattle.coverer.specs.Causes.{HasCause}
use Rattle.coverer.specs.Stack.{due_at, due_children, places}
use Rattle.coverer.specs.Words.{IsIn, AreShutOut}
use Rattle.coverer.proofs.Shut.{shut_out_below}

-- A due box lies at most at the full depth, and each word that is not in question is shut on it.
pub record IsDueBox (h : Heading) (d : Due) : Type 0 where
  pub deep : d.place.level ≤ h.depth
  pub shut : AreShutOut h.words d.words d.place

-- The nodes so far are begun, and these are the boxes that are due after them.
pub record HasReached (limit : ℕ) (h : Heading) (nodes : List Node) (due : List Due) : Type 0 where
  pub begun : IsBegun limit h nodes
  pub boxes : places due ≡ due_boxes nodes
  pub each : All (IsDueBox h) due

-- ---- before the first node

pub none_begun : (limit : ℕ) (h : Heading) → IsBegun limit h []
none_begun limit h = record {
  due = λ k within. absurd (omega (arith, within));
  within = omega arith;
  causes = λ box node stands. absurd stands;
}

pub at_start : (limit : ℕ) (h : Heading) (words : WordSet) → IsHeading h → ((i : ℕ) → 1 ≤ i → i ≤ 32 → IsIn words i)
    → HasReached limit h [] (due_at unit_square words ∷ [])
at_start limit h words heading all =
    let in_question : AreShutOut h.words words unit_square = λ i listed out.
    absurd (out (all i listed.0 (omega (arith, listed.1, heading.word_count.1)))) in
    record {
      begun = none_begun limit h;
      boxes = refl;
      each = All-cons (IsDueBox h) (due_at unit_square words) [] (record { deep = omega arith; shut = in_question }) (All-nil (IsDueBox h));
    }

-- ---- one node more

due_more : (nodes : List Node) (n : Node) → due_boxes (nodes ++ n ∷ []) ≡ due_after (due_boxes nodes) n
due_more nodes n = fold-append due_after (unit_square ∷ []) nodes (n ∷ [])

some_due : (boxes : List Square) (box : Square) (others : List Square) → boxes ≡ box ∷ others → boxes ≢ []
some_due boxes box others is none = cc

due_before_last : (nodes : List Node) (n : Node) (box : Square) (others : List Square) → due_boxes nodes ≡ box ∷ others → AreDue nodes
    → AreDue (nodes ++ n ∷ [])
due_before_last nodes n box others is due k within =
    elim (cases_lt k (length nodes)) [
      | inl less ↦
          let before : k ≤ length nodes = omega (arith, less) in
          subst (λ (ns : List Node). due_boxes ns ≢ []) (sym (take-append-le k nodes (n ∷ []) before)) (due k less)
      | inr more ↦
          let all : k ≡ length nodes = omega (arith, more, within, length-append nodes (n ∷ [])) in
          subst (λ (ns : List Node). due_boxes ns ≢ []) (sym (ap (λ j. take j (nodes ++ n ∷ [])) all ∙ take-append_seam nodes (n ∷ [])))
          (some_due (due_boxes nodes) box others is)
    ]

-- a node stands by its cause at the first due box, and there is room for it
pub begun_next : (limit : ℕ) (h : Heading) (nodes : List Node) (n : Node) (d : Due) (others : List Due) → HasReached limit h nodes (d ∷ others)
    → length nodes < limit → HasCause h d.place n → IsBegun limit h (nodes ++ n ∷ [])
begun_next limit h nodes n d others reached room cause = record {
  due = due_before_last nodes n d.place (places others) (sym reached.boxes) reached.begun.due;
  within = omega (arith, room, length-append nodes (n ∷ []));
  causes = λ box node stands.
      elim (stands_last nodes (unit_square ∷ []) n d.place (places others) box node (sym reached.boxes) stands) [
        | inl before ↦ reached.begun.causes box node before
        | inr last ↦ subst (λ (b : Square). HasCause h b node) (sym last.0) (subst (λ (m : Node). HasCause h d.place m) (sym last.1) cause)
      ];
}

pub after_leaf : (limit : ℕ) (h : Heading) (nodes : List Node) (n : Node) (d : Due) (others : List Due) → HasReached limit h nodes (d ∷ others)
    → length nodes < limit → HasCause h d.place n → IsLeaf n → HasReached limit h (nodes ++ n ∷ []) others
after_leaf limit h nodes n d others reached room cause leaf = record {
  begun = begun_next limit h nodes n d others reached room cause;
  boxes =
      sym (due_more nodes n ∙ ap (λ (boxes : List Square). due_after boxes n) (sym reached.boxes) ∙ due_after-leaf d.place (places others) n leaf);
  each = All-tail (IsDueBox h) d others reached.each;
}

child_due : (h : Heading) (set : WordSet) (box : Square) (c : ℕ) → c < 4 → box.level < h.depth → AreShutOut h.words set box
    → IsDueBox h (due_at (child box c) set)
child_due h set box c less above shut = record { deep = omega (arith, above); shut = shut_out_below h.words set box c less shut }

pub after_split : (limit : ℕ) (h : Heading) (nodes : List Node) (set : WordSet) (d : Due) (others : List Due) → HasReached limit h nodes (d ∷ others)
    → length nodes < limit → HasCause h d.place Split → AreShutOut h.words set d.place
    → HasReached limit h (nodes ++ Split ∷ []) (due_children d.place set ++ others)
after_split limit h nodes set d others reached room cause shut =
    let above : d.place.level < h.depth = cause.1 in
    let one = λ (c : ℕ) (less : c < 4). child_due h set d.place c less above shut in
    let box = λ (c : ℕ). due_at (child d.place c) set in
    record {
      begun = begun_next limit h nodes Split d others reached room cause;
      boxes = sym (due_more nodes Split ∙ ap (λ (boxes : List Square). due_after boxes Split) (sym reached.boxes));
      each =
          All-cons (IsDueBox h) (box 0) (box 1 ∷ box 2 ∷ box 3 ∷ others) (one 0 (omega arith))
          (All-cons (IsDueBox h) (box 1) (box 2 ∷ box 3 ∷ others) (one 1 (omega arith))
          (All-cons (IsDueBox h) (box 2) (box 3 ∷ others) (one 2 (omega arith))
          (All-cons (IsDueBox h) (box 3) others (one 3 (omega arith)) (All-tail (IsDueBox h) d others reached.each))));
    }

-- ---- as the loop has it

pub next_reached : (limit : ℕ) (h : Heading) (nodes : List Node) (due : List Due) (d : Due) (others : List Due) → HasReached limit h nodes due
    → due ≡ d ∷ others → HasReached limit h nodes (d ∷ others)
next_reached limit h nodes due d others reached is = subst (λ (ds : List Due). HasReached limit h nodes ds) is reached

pub is_due_box : (limit : ℕ) (h : Heading) (nodes : List Node) (d : Due) (others : List Due) → HasReached limit h nodes (d ∷ others) → IsDueBox h d
is_due_box limit h nodes d others reached = All-head (IsDueBox h) d others reached.each

pub split_reached : (limit : ℕ) (h : Heading) (nodes : List Node) (n : Node) (set : WordSet) (d : Due) (others due : List Due)
    → HasReached limit h nodes (d ∷ others)
    → length nodes < limit → HasCause h d.place n → n ≡ Split → AreShutOut h.words set d.place → due ≡ due_children d.place set ++ others
    → HasReached limit h (nodes ++ n ∷ []) due
split_reached limit h nodes n set d others due reached room cause is shut now =
    subst (λ (ds : List Due). HasReached limit h (nodes ++ n ∷ []) ds) (sym now)
    (subst (λ (m : Node). HasReached limit h (nodes ++ m ∷ []) (due_children d.place set ++ others)) (sym is)
    (after_split limit h nodes set d others reached room (subst (λ (m : Node). HasCause h d.place m) is cause) shut))

pub leaf_if_not_split : (n : Node) → ¬ (n ≡ Split) → IsLeaf n
leaf_if_not_split n differs = elim (split_or_leaf n) [ inl is ↦ absurd (differs is) | inr leaf ↦ leaf ]

-- ---- the last node

pub none_due : (limit : ℕ) (h : Heading) (nodes : List Node) (due : List Due) → HasReached limit h nodes due → due ≡ [] → due_boxes nodes ≡ []
none_due limit h nodes due reached none = sym reached.boxes ∙ ap (λ (ds : List Due). places ds) none

pub one_due : (limit : ℕ) (h : Heading) (nodes : List Node) (d : Due) (others : List Due) → HasReached limit h nodes (d ∷ others) → due_boxes nodes ≢ []
one_due limit h nodes d others reached = some_due (due_boxes nodes) d.place (places others) (sym reached.boxes)
