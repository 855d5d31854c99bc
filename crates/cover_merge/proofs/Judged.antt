-- The nodes of a file as one judges their claims one after another.
use Rattle.std.proofs.Common.{◌≡◌, inl, inr, refl, sym, ap, ◌∙◌, subst, ℕ, suc, ◌+◌, ◌<◌, List, [], ◌∷◌, ◌++◌, length, take, drop, get_or}
use Rattle.std.proofs.Common.{Option, Some, None, arith}
use Rattle.std.proofs.lemmas.Bool.{cases_lt}
use Rattle.std.proofs.lemmas.List.{take_all, length-take}
use Rattle.std.proofs.Math.Seq.{take-suc, split_at}
use Rattle.rational_polygon.specs.Square.{Square, unit_square}
use Rattle.covering_file.specs.declared.node.Node.{Node}
use Rattle.covering_file.specs.declared.node.Node.TheVariants.{Split, Uncovered}
use Rattle.covering_file.specs.declared.TheConstants.{MAX_NODES}
use Rattle.covering_file.specs.DueBoxes.{due_after, due_boxes, first_of, AreWhole, StandsIn}
use Rattle.covering_file.specs.Header.{Heading}
use Rattle.covering_file.specs.Node.{IsNode}
use Rattle.covering_file.specs.Sound.{ClaimHas}
use Rattle.covering_file.specs.Tree.{StandsAt}
use Rattle.covering_file.specs.TreeFile.{TreeFile, IsTreeFile}
use Rattle.covering_file.specs.Walk.{Frontier}
use Rattle.line_grammar.specs.declared.reason.Reason.{Reason}
use Rattle.covering_file.proofs.NextNode.{box_first}
use Rattle.covering_file.proofs.NodesSaid.{due_more}
use Rattle.covering_file.proofs.Trees.{tree_is_whole, list_to_tree, stands_next, stands_last}
use Rattle.cover_merge.specs.Rounds.{IsTrueOrOpen, AreTrueOrOpen, IsFalseAfter}

pub file_is_whole : (limit : ℕ) (f : TreeFile) → IsTreeFile limit f → AreWhole f.nodes
file_is_whole limit f is = subst AreWhole is.nodes (tree_is_whole is.tree)

-- ---- the next node

not_none : (box : Square) → ¬ (None ≡ Some box)
not_none box same = cc

-- where a box is due, the list goes on
pub goes_on : (limit : ℕ) (f : TreeFile) (k : ℕ) (box : Square) → IsTreeFile limit f → first_of (due_boxes (take k f.nodes)) ≡ Some box
    → k < length f.nodes
goes_on limit f k box is due =
    elim (cases_lt k (length f.nodes)) [
      | inl within ↦ within
      | inr past ↦
          let none : due_boxes (take k f.nodes) ≡ [] = ap due_boxes (take_all k f.nodes past) ∙ (file_is_whole limit f is).none_left in
          absurd (not_none box (ap first_of (sym none) ∙ due))
    ]

none_of : (due : List Square) → first_of due ≡ None → due ≡ []
none_of [] is = refl
none_of (box ∷ others) is = absurd (not_none box (sym is))

-- and where none is, it has ended
pub has_ended : (limit : ℕ) (f : TreeFile) (k : ℕ) → IsTreeFile limit f → first_of (due_boxes (take k f.nodes)) ≡ None → take k f.nodes ≡ f.nodes
has_ended limit f k is none =
    elim (cases_lt k (length f.nodes)) [
      | inl within ↦ absurd ((file_is_whole limit f is).due k within (none_of (due_boxes (take k f.nodes)) none))
      | inr past ↦ take_all k f.nodes past
    ]

-- the first due box, and the others
record FirstDue (due : List Square) (box : Square) : Type 0 where
  others : List Square
  are : due ≡ box ∷ others

first_due : (due : List Square) (box : Square) → first_of due ≡ Some box → FirstDue due box
first_due [] box is = absurd (not_none box is)
first_due (first ∷ others) box is =
    let same : first ≡ box = cc in
    record { others = others; are = ap (λ (b : Square). b ∷ others) same }

-- the next node stands in the file's tree at the box that is due
pub next_stands : (limit : ℕ) (f : TreeFile) (k : ℕ) (box : Square) → (is : IsTreeFile limit f) → first_of (due_boxes (take k f.nodes)) ≡ Some box
    → StandsAt unit_square is.tree box (get_or f.nodes k Split)
next_stands limit f k box is due =
    let n = get_or f.nodes k Split in
    let first = first_due (due_boxes (take k f.nodes)) box due in
    let stands = stands_next (take k f.nodes) (unit_square ∷ []) n (drop (suc k) f.nodes) box first.others first.are in
    let all : take k f.nodes ++ n ∷ drop (suc k) f.nodes ≡ f.nodes = sym (split_at f.nodes k Split (goes_on limit f k box is due)) in
    list_to_tree is.tree box n (subst (λ (ns : List Node). StandsIn (unit_square ∷ []) ns box n) (all ∙ sym is.nodes) stands)

pub next_is_node : (limit : ℕ) (f : TreeFile) (k : ℕ) (box : Square) → IsTreeFile limit f → first_of (due_boxes (take k f.nodes)) ≡ Some box
    → IsNode (length f.heading.words) f.heading.version (get_or f.nodes k Split)
next_is_node limit f k box is due = is.is_tree.listed box (get_or f.nodes k Split) (next_stands limit f k box is due)

-- ---- its claim

next_taken : (nodes : List Node) (k : ℕ) → k < length nodes → take (k + 1) nodes ≡ take k nodes ++ get_or nodes k Split ∷ []
next_taken nodes k within =
    let one : k + 1 ≡ suc k = omega arith in
    ap (λ (j : ℕ). take j nodes) one ∙ take-suc nodes k Split within

pub next_claim : (limit : ℕ) (f : TreeFile) (k : ℕ) (box : Square) → IsTreeFile limit f → first_of (due_boxes (take k f.nodes)) ≡ Some box
    → AreTrueOrOpen f.heading (take k f.nodes) → IsTrueOrOpen f.heading box (get_or f.nodes k Split) → AreTrueOrOpen f.heading (take (k + 1) f.nodes)
next_claim limit f k box is due before here at m stands =
    let n = get_or f.nodes k Split in
    let first = first_due (due_boxes (take k f.nodes)) box due in
    let within = goes_on limit f k box is due in
    let in_more = subst (λ (ns : List Node). StandsIn (unit_square ∷ []) ns at m) (next_taken f.nodes k within) stands in
    elim (stands_last (take k f.nodes) (unit_square ∷ []) n box first.others at m first.are in_more) [
      | inl earlier ↦ before at m earlier
      | inr last ↦
          subst (λ (b : Square). IsTrueOrOpen f.heading b m) (sym last.0) (subst (λ (l : Node). IsTrueOrOpen f.heading box l) (sym last.1) here)
    ]

taken_length : (nodes : List Node) (k : ℕ) → k < length nodes → k ≡ length (take k nodes)
taken_length nodes k within = omega (arith, length-take k nodes, within)

pub next_false : (limit : ℕ) (f : TreeFile) (k : ℕ) (box : Square) (reason : Reason) → IsTreeFile limit f → first_of (due_boxes (take k f.nodes)) ≡ Some box
    → AreTrueOrOpen f.heading (take k f.nodes) → ¬ (get_or f.nodes k Split ≡ Uncovered) → ClaimHas f.heading box (get_or f.nodes k Split) reason
    → IsFalseAfter f k reason
next_false limit f k box reason is due before covered claim =
    let within = goes_on limit f k box is due in
    let n = get_or f.nodes k Split in
    record {
      first = take k f.nodes;
      node = n;
      more = drop (suc k) f.nodes;
      nodes_are = split_at f.nodes k Split within;
      number = taken_length f.nodes k within;
      true_before = before;
      is_covered = covered;
      claim = subst (λ (b : Square). ClaimHas f.heading b n reason) (box_first (take k f.nodes) box due) claim;
    }

-- ---- as the walk goes on

-- so many nodes are judged, and the walk stands after them
pub record AreJudged (f : TreeFile) (nodes : List Node) (walk : Frontier) (k : ℕ) : Type 0 where
  pub is : IsTreeFile MAX_NODES f
  pub all : nodes ≡ f.nodes
  pub depth : walk.depth ≡ f.heading.depth
  pub due : walk.due ≡ due_boxes (take k nodes)
  pub claims : AreTrueOrOpen f.heading (take k nodes)

due_here : (f : TreeFile) (nodes : List Node) (walk : Frontier) (k : ℕ) (found : Option Square) → AreJudged f nodes walk k → found ≡ first_of walk.due
    → first_of (due_boxes (take k f.nodes)) ≡ found
due_here f nodes walk k found judged first =
    ap (λ (ns : List Node). first_of (due_boxes (take k ns))) (sym judged.all) ∙ ap first_of (sym judged.due) ∙ sym first

pub judged_within : (f : TreeFile) (nodes : List Node) (walk : Frontier) (k : ℕ) (found : Option Square) (box : Square) → AreJudged f nodes walk k
    → found ≡ first_of walk.due → found ≡ Some box → k < length nodes
judged_within f nodes walk k found box judged first here =
    let within = goes_on MAX_NODES f k box judged.is (due_here f nodes walk k found judged first ∙ here) in
    omega (arith, within, ap length judged.all)

pub judged_node : (f : TreeFile) (h : Heading) (nodes : List Node) (walk : Frontier) (k : ℕ) (found : Option Square) (box : Square)
    → AreJudged f nodes walk k → h ≡ f.heading → found ≡ first_of walk.due → found ≡ Some box
    → IsNode (length h.words) h.version (get_or nodes k Split)
judged_node f h nodes walk k found box judged same first here =
    subst (λ (g : Heading). IsNode (length g.words) g.version (get_or nodes k Split)) (sym same)
    (subst (λ (ns : List Node). IsNode (length f.heading.words) f.heading.version (get_or ns k Split)) (sym judged.all)
    (next_is_node MAX_NODES f k box judged.is (due_here f nodes walk k found judged first ∙ here)))

claims_here : (f : TreeFile) (nodes : List Node) (walk : Frontier) (k : ℕ) → AreJudged f nodes walk k → AreTrueOrOpen f.heading (take k f.nodes)
claims_here f nodes walk k judged = subst (λ (ns : List Node). AreTrueOrOpen f.heading (take k ns)) judged.all judged.claims

pub judged_false : (f : TreeFile) (h : Heading) (nodes : List Node) (walk : Frontier) (k : ℕ) (found : Option Square) (box : Square) (reason : Reason)
    → AreJudged f nodes walk k → h ≡ f.heading → found ≡ first_of walk.due → found ≡ Some box
    → ¬ (get_or nodes k Split ≡ Uncovered) → ClaimHas h box (get_or nodes k Split) reason → IsFalseAfter f k reason
judged_false f h nodes walk k found box reason judged same first here covered claim =
    next_false MAX_NODES f k box reason judged.is (due_here f nodes walk k found judged first ∙ here) (claims_here f nodes walk k judged)
    (subst (λ (ns : List Node). ¬ (get_or ns k Split ≡ Uncovered)) judged.all covered)
    (subst (λ (ns : List Node). ClaimHas f.heading box (get_or ns k Split) reason) judged.all
    (subst (λ (g : Heading). ClaimHas g box (get_or nodes k Split) reason) same claim))

pub judged_more : (f : TreeFile) (h : Heading) (nodes : List Node) (walk walk' : Frontier) (k : ℕ) (found : Option Square) (box : Square)
    → AreJudged f nodes walk k → h ≡ f.heading → found ≡ first_of walk.due → found ≡ Some box
    → walk' ≡ record { depth = walk.depth; due = due_after walk.due (get_or nodes k Split) }
    → IsTrueOrOpen h box (get_or nodes k Split) → AreJudged f nodes walk' (k + 1)
judged_more f h nodes walk walk' k found box judged same first here goes claim =
    let within = judged_within f nodes walk k found box judged first here in
    let claim' = subst (λ (ns : List Node). IsTrueOrOpen f.heading box (get_or ns k Split)) judged.all
    (subst (λ (g : Heading). IsTrueOrOpen g box (get_or nodes k Split)) same claim) in
    record {
      is = judged.is;
      all = judged.all;
      depth = ap (λ (w : Frontier). w.depth) goes ∙ judged.depth;
      due =
          ap (λ (w : Frontier). w.due) goes ∙ ap (λ (boxes : List Square). due_after boxes (get_or nodes k Split)) judged.due
          ∙ sym (due_more (unit_square ∷ []) (take k nodes) (get_or nodes k Split)) ∙ sym (ap due_boxes (next_taken nodes k within));
      claims =
          subst (λ (ns : List Node). AreTrueOrOpen f.heading (take (k + 1) ns)) (sym judged.all)
          (next_claim MAX_NODES f k box judged.is (due_here f nodes walk k found judged first ∙ here) (claims_here f nodes walk k judged) claim');
    }

pub judged_all : (f : TreeFile) (nodes : List Node) (walk : Frontier) (k : ℕ) (found : Option Square) → AreJudged f nodes walk k
    → found ≡ first_of walk.due → found ≡ None → AreTrueOrOpen f.heading f.nodes
judged_all f nodes walk k found judged first none =
    subst (AreTrueOrOpen f.heading) (has_ended MAX_NODES f k judged.is (due_here f nodes walk k found judged first ∙ none)) (claims_here f nodes walk k judged)
