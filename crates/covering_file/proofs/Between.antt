-- Two verdicts on one file differ only at the line of a node that is between the slacks.
use Rattle.std.proofs.Common.{◌≡◌, ◌⊎◌, inl, inr, ℕ, ◌+◌, ◌<◌, ◌≤◌, Bool, true, false, List, [], ◌∷◌, ◌++◌, length, map, Option, Some}
use Rattle.std.proofs.Common.{refl, sym, ap, ◌∙◌, subst, arith, length-append, append-nil, append_assoc}
use Rattle.std.specs.Prelude.{is_some}
use Rattle.std.proofs.Math.Nat.{min-eq_left, min-eq_right}
use Rattle.std.proofs.lemmas.List.{length-map}
use Rattle.rational_polygon.specs.Square.{Square}
use Rattle.gradient_bounds.specs.Slacks as slacks
use Rattle.line_grammar.specs.declared.reason.Reason.{Reason}
use Rattle.line_grammar.specs.declared.reason.Reason.TheVariants.{TooLong, Ends, OtherLine, Number, TooMany}
use Rattle.line_grammar.specs.Offence.{IsFirstOffence, IsLeast, HaveReason, LackReason}
use Rattle.line_grammar.specs.Part.{lines_in_turn, followed_by, whole_text, line_part}
use Rattle.line_grammar.specs.Form.{whole_line}
use Rattle.line_grammar.specs.declared.reason.Reason.TheVariants as reason
use Rattle.line_grammar.specs.Text.{text_of, BeginsWith}
use Rattle.line_grammar.proofs.Between.{OffencesDiffer, PassedOffends, one_differs, never_passed, both_differ, both_passed, turns_differ, turns_passed}
use Rattle.line_grammar.proofs.Between.{IntoBoth, IntoTurns, Never, seen_passed, text_differs, text_passed}
use Rattle.line_grammar.proofs.Counted.{lines_of_each}
use Rattle.line_grammar.proofs.FrontLines.{not_too_long, not_early, line_is_one, text_of-after, text_of_one}
use Rattle.line_grammar.proofs.Laws.{Any, line_never, line_offence_is_one}
use Rattle.line_grammar.proofs.Offending.{least_differ}
use Rattle.covering_file.specs.declared.file_kind.FileKind.TheVariants.{Cover}
use Rattle.covering_file.specs.declared.node.Node.{Node}
use Rattle.covering_file.specs.declared.node.Node.TheVariants.{Split, Outside, Shown, Corner, Uncovered}
use Rattle.covering_file.specs.CheckClaims.{check_claims}
use Rattle.covering_file.specs.DueBoxes.{due_boxes, first_of}
use Rattle.covering_file.specs.FilePart.{first_box, NodeHas, NodeLacks, node_part, nodes_part, due_end, tree_lines, tree_part, whole_file, file_grammar}
use Rattle.covering_file.specs.FilePart.{file_lines}
use Rattle.covering_file.specs.Header.{Heading, header_lines}
use Rattle.covering_file.specs.HeaderPart.{header_part}
use Rattle.covering_file.specs.Laws.{IsNodeBetween, HasNodeBetween, RefusalsDifferBetween, AcceptedIsRefusedBetween}
use Rattle.covering_file.specs.Node.{node_line, IsNode}
use Rattle.covering_file.specs.Sound.{IsSoundNode}
use Rattle.covering_file.specs.Tree.{preorder}
use Rattle.covering_file.proofs.FileParts.{end_after, node_lines, check_ends, nodes_are_one, tree_one}
use Rattle.covering_file.proofs.HeaderLaws.{header_value_is_one, header_never, header_offence_is_one}
use Rattle.covering_file.proofs.NodeLines.{node_line-short, one_node, node_line-form, sound_is_node}
use Rattle.covering_file.proofs.NodeParts.{node_is_one}
use Rattle.covering_file.proofs.NodesSaid.{node_due, all_said}
use Rattle.covering_file.proofs.Trees.{tree_is_whole, list_to_tree}
use Rattle.covering_file.proofs.TreeText.{file_text-lines}

-- ---- a node

between_slacks : (h : Heading) (box : Square) (n : Node) → IsSoundNode h slacks.sound box n → ¬ (IsSoundNode h slacks.sure box n) → IsNodeBetween h box n
between_slacks h box Split sound unsure = absurd (unsure sound)
between_slacks h box Outside sound unsure = absurd (unsure sound)
between_slacks h box (Shown i) sound unsure = (sound.0, sound.1, λ clear. unsure (sound.0, clear))
between_slacks h box (Corner i) sound unsure = (sound.1, sound.2, λ clear. unsure (sound.0, sound.1, clear))
between_slacks h box Uncovered sound unsure = absurd sound

-- the bytes begin with the line of a node that is between at this box
record BeginsBetween (h : Heading) (box : Square) (bytes : List ℕ) (line : ℕ) : Type 0 where
  node : Node
  rest : List ℕ
  text : bytes ≡ text_of (node_line node ∷ []) ++ rest
  number : line ≡ 1
  between : IsNodeBetween h box node

-- of the node after these
abbrev AfterNodes : Heading → List Node → List ℕ → ℕ → Type 0
AfterNodes h nodes = BeginsBetween h (first_box (due_boxes nodes))

-- a node that may stand after these is refused
passed_has : (limit : ℕ) (h : Heading) (nodes : List Node) (n : Node) (r : Reason) → length h.words ≤ 32 → IsNode (length h.words) h.version n
    → length nodes < limit → IsSoundNode h slacks.sound (first_box (due_boxes nodes)) n → NodeHas check_claims limit h nodes (node_line n) r
    → IsNodeBetween h (first_box (due_boxes nodes)) n
passed_has limit h nodes n OtherLine few is within sound has = absurd (has (node_line-form (length h.words) h.version n is))
passed_has limit h nodes n Number few is within sound has = absurd (has.1 (n, is, refl))
passed_has limit h nodes n TooMany few is within sound has = absurd (omega (arith, within, has))
passed_has limit h nodes n r few is within sound has =
    let box = first_box (due_boxes nodes) in
    let same : n ≡ has.0 = one_node (length h.words) h.version few n has.0 is has.2 in
    between_slacks h box n sound (subst (λ (k : Node). ¬ (IsSoundNode h slacks.sure box k)) (sym same) has.3.1)

passed_reason : (limit : ℕ) (h : Heading) (nodes : List Node) (n : Node) (bytes : List ℕ) (r : Reason) → length h.words ≤ 32
    → IsNode (length h.words) h.version n → length nodes < limit → IsSoundNode h slacks.sound (first_box (due_boxes nodes)) n
    → BeginsWith bytes (node_line n) → HaveReason (NodeHas check_claims limit h nodes) bytes r → IsNodeBetween h (first_box (due_boxes nodes)) n
passed_reason limit h nodes n bytes TooLong few is within sound begins has = absurd (not_too_long bytes (node_line n) begins has)
passed_reason limit h nodes n bytes Ends few is within sound begins has = absurd (not_early bytes (node_line n) begins has)
passed_reason limit h nodes n bytes r few is within sound begins has =
    let same = line_is_one bytes has.0 (node_line n) has.1 begins in
    passed_has limit h nodes n r few is within sound (subst (λ (l : List ℕ). NodeHas check_claims limit h nodes l r) same has.2)

node_passed : (limit : ℕ) (h : Heading) (nodes : List Node) (x : List ℕ) → length h.words ≤ 32
    → PassedOffends (node_part check_claims limit h nodes) (AfterNodes h nodes) x
node_passed limit h nodes x few n line r says o =
    let at = node_line n in
    let bytes = text_of (at ∷ []) ++ x in
    let begins : BeginsWith bytes at = (x, (node_line-short (length h.words) h.version few n says.node, text_of_one at x)) in
    let has = subst (λ (xs : List ℕ). HaveReason (NodeHas check_claims limit h nodes) xs r) (sym o.text) o.least.holds in
    let between = passed_reason limit h nodes n bytes r few says.node says.within says.stands begins has in
    (record { node = n; rest = x; text = refl; number = o.number; between = between }, omega (arith, o.number))

-- a line has a reason and lacks it
has_and_lacks : (limit : ℕ) (h : Heading) (nodes : List Node) (line : List ℕ) (r : Reason) → NodeHas check_claims limit h nodes line r
    → NodeLacks check_claims limit h nodes line r → (n : Node) × (line ≡ node_line n) × IsNodeBetween h (first_box (due_boxes nodes)) n
has_and_lacks limit h nodes line OtherLine has lacks = absurd (lacks has)
has_and_lacks limit h nodes line Number has lacks = absurd (lacks has)
has_and_lacks limit h nodes line TooMany has lacks = absurd (lacks has)
has_and_lacks limit h nodes line r has lacks =
    let sound = lacks has.0 has.1 has.2 has.3.0 in
    (has.0, has.2, between_slacks h (first_box (due_boxes nodes)) has.0 sound has.3.1)

bytes_have_and_lack : (limit : ℕ) (h : Heading) (nodes : List Node) (bytes : List ℕ) (r : Reason) → HaveReason (NodeHas check_claims limit h nodes) bytes r
    → LackReason (NodeLacks check_claims limit h nodes) bytes r → AfterNodes h nodes bytes 1
bytes_have_and_lack limit h nodes bytes TooLong has lacks = absurd (lacks has)
bytes_have_and_lack limit h nodes bytes Ends has lacks = absurd (lacks has)
bytes_have_and_lack limit h nodes bytes r has lacks =
    let at = has_and_lacks limit h nodes has.0 r has.2 (lacks has.0 has.1) in
    let rest = has.1.0 in
    let begins : bytes ≡ text_of (has.0 ∷ []) ++ rest = has.1.1.1 ∙ sym (text_of_one has.0 rest) in
    record {
      node = at.0;
      rest = rest;
      text = begins ∙ ap (λ (l : List ℕ). text_of (l ∷ []) ++ rest) at.1;
      number = refl;
      between = at.2;
    }

node_differs : (limit : ℕ) (h : Heading) (nodes : List Node) → OffencesDiffer (node_part check_claims limit h nodes).grammar (AfterNodes h nodes)
node_differs limit h nodes bytes line other r s p q =
    let has = HaveReason (NodeHas check_claims limit h nodes) in
    let lacks = LackReason (NodeLacks check_claims limit h nodes) in
    let here = subst (λ (xs : List ℕ). IsLeast (has xs) (lacks xs) r) (sym p.text) p.least in
    let there = subst (λ (xs : List ℕ). IsLeast (has xs) (lacks xs) s) (sym q.text) q.least in
    elim (least_differ (AfterNodes h nodes bytes 1) (has bytes) (lacks bytes) (λ t. bytes_have_and_lack limit h nodes bytes t) r s here there) [
      | inl same ↦ inl (p.number ∙ sym q.number, same)
      | inr at ↦ inr (inl (subst (λ (n : ℕ). AfterNodes h nodes bytes n) (sym p.number) at, omega (arith, p.number, q.number)))
    ]

-- ---- the nodes of a tree

-- a line of the nodes is that of a node that is between
record InNodes (h : Heading) (bytes : List ℕ) (line : ℕ) : Type 0 where
  before : List Node
  node : Node
  box : Square
  rest : List ℕ
  text : bytes ≡ text_of (map node_line before ++ node_line node ∷ []) ++ rest
  number : line ≡ length before + 1
  due : first_of (due_boxes before) ≡ Some box
  between : IsNodeBetween h box node

first_is_due : (boxes : List Square) → is_some (first_of boxes) ≡ true → first_of boxes ≡ Some (first_box boxes)
first_is_due [] due = let never : false ≡ true = due in cc
first_is_due (box ∷ others) due = refl

into_nodes : (limit : ℕ) (h : Heading) → IntoTurns node_due (node_part check_claims limit h) (AfterNodes h) (InNodes h)
into_nodes limit h said rest line due after =
    let lines = lines_in_turn (node_part check_claims limit h) [] said in
    let are : lines ≡ map node_line said = lines_of_each (node_part check_claims limit h) node_line (λ l n. refl) [] said in
    let text = ap (λ (ls : List (List ℕ)). text_of ls ++ rest) are ∙ ap (λ (xs : List ℕ). text_of (map node_line said) ++ xs) after.text
    ∙ sym (text_of-after (map node_line said) (node_line after.node ∷ []) after.rest) in
    record {
      before = said;
      node = after.node;
      box = first_box (due_boxes said);
      rest = after.rest;
      text = text;
      number = omega (arith, after.number, ap length are, length-map said node_line);
      due = first_is_due (due_boxes said) due;
      between = after.between;
    }

nodes_passed : (limit : ℕ) (h : Heading) (x : List ℕ) → length h.words ≤ 32 → PassedOffends (nodes_part check_claims limit h) (InNodes h) x
nodes_passed limit h x few =
    turns_passed node_due (node_part check_claims limit h) (AfterNodes h) (InNodes h) x (λ l. node_is_one check_claims limit h l few) (into_nodes limit h)
    (λ l y. node_passed limit h l y few)

nodes_differ : (limit : ℕ) (h : Heading) → length h.words ≤ 32 → OffencesDiffer (nodes_part check_claims limit h).grammar (InNodes h)
nodes_differ limit h few =
    turns_differ node_due (node_part check_claims limit h) (AfterNodes h) (InNodes h) (λ l. node_is_one check_claims limit h l few) (into_nodes limit h)
    (λ l y. node_passed limit h l y few) (λ l. node_differs limit h l)

-- ---- the tree and the file

none_into : (limit : ℕ) (h : Heading) → IntoBoth (nodes_part check_claims limit h) (λ _. Never) (InNodes h)
none_into limit h nodes rest line says never = absurd never

tree_passed : (limit : ℕ) (h : Heading) (x : List ℕ) → length h.words ≤ 32 → PassedOffends (tree_part check_claims limit h) (InNodes h) x
tree_passed limit h x few =
    let nodes = nodes_part check_claims limit h in
    let both = both_passed nodes end_after (InNodes h) (λ _. Never) x (nodes_are_one check_claims limit h few) (none_into limit h)
    (λ y. nodes_passed limit h y few) (λ ns says. never_passed (end_after ns) Never x (line_never _ (check_ends limit h ns says) Any x)) in
    seen_passed (followed_by nodes end_after) nodes.Says tree_lines (λ (ns : List Node). let p : List Node × Unit {0} = (ns, tt) in p) (InNodes h) x both
    (λ ns is. (is, tt)) (λ ns is. node_lines check_claims limit h ns)

tree_differs : (limit : ℕ) (h : Heading) → length h.words ≤ 32 → OffencesDiffer (tree_part check_claims limit h).grammar (InNodes h)
tree_differs limit h few =
    both_differ (nodes_part check_claims limit h) end_after (InNodes h) (λ _. Never) (nodes_are_one check_claims limit h few) (none_into limit h)
    (λ y. nodes_passed limit h y few) (nodes_differ limit h few)
    (λ ns says. one_differs (end_after ns).grammar Never (line_offence_is_one (whole_line (due_end ns) reason.EndLine)))

into_file : IntoBoth (header_part Cover) (λ h. InNodes h) HasNodeBetween
into_file h rest line is after =
    let lines = header_lines Cover h in
    let nodes = map node_line after.before ++ node_line after.node ∷ [] in
    record {
      heading = h;
      before = after.before;
      node = after.node;
      box = after.box;
      rest = after.rest;
      is_heading = is;
      text = ap (λ (xs : List ℕ). text_of lines ++ xs) after.text ∙ sym (text_of-after lines nodes after.rest);
      number = ap (λ (n : ℕ). length lines + n) after.number;
      due = after.due;
      between = after.between;
    }

header_passed : (x : List ℕ) → PassedOffends (header_part Cover) HasNodeBetween x
header_passed x = never_passed (header_part Cover) HasNodeBetween x (header_never Cover x)

file_passed : (limit : ℕ) → PassedOffends (whole_file check_claims limit) HasNodeBetween []
file_passed limit =
    both_passed (header_part Cover) (λ h. whole_text (tree_part check_claims limit h)) HasNodeBetween (λ h. InNodes h) [] (header_value_is_one Cover) into_file
    header_passed (λ h is. text_passed (tree_part check_claims limit h) (InNodes h) (tree_one check_claims limit h (check_ends limit h) is.word_count.1)
    (λ x. tree_passed limit h x is.word_count.1))

file_differs : (limit : ℕ) → OffencesDiffer (file_grammar check_claims limit) HasNodeBetween
file_differs limit =
    both_differ (header_part Cover) (λ h. whole_text (tree_part check_claims limit h)) HasNodeBetween (λ h. InNodes h) (header_value_is_one Cover) into_file
    header_passed (one_differs (header_part Cover).grammar HasNodeBetween (header_offence_is_one Cover))
    (λ h is. text_differs (tree_part check_claims limit h) (InNodes h) (tree_one check_claims limit h (check_ends limit h) is.word_count.1)
    (λ x. tree_passed limit h x is.word_count.1) (tree_differs limit h is.word_count.1))

-- ---- verdicts

pub refusals_differ_between : RefusalsDifferBetween
refusals_differ_between limit line other r s bytes first second =
    elim (file_differs limit bytes line other r s first second) [
      | inl same ↦ inl same
      | inr (inl at) ↦ inr (subst (λ (n : ℕ). HasNodeBetween bytes n) (sym (min-eq_left at.1)) at.0)
      | inr (inr at) ↦ inr (subst (λ (n : ℕ). HasNodeBetween bytes n) (sym (min-eq_right at.1)) at.0)
    ]

pub accepted_is_refused_between : AcceptedIsRefusedBetween
accepted_is_refused_between limit count words line r bytes accepted refused =
    let f = accepted.1 in
    let h = f.heading in
    let t = f.tree in
    let nodes = preorder t in
    let said = all_said check_claims limit h nodes (tree_is_whole t) (omega (arith, accepted.0, f.node_count))
    (λ box n stands. let at = list_to_tree t box n stands in (sound_is_node h slacks.sound box n (f.sound box n at), f.sound box n at)) in
    let text = f.text ∙ file_text-lines h t ∙ sym (append-nil (text_of (file_lines h nodes))) in
    let passed = file_passed limit (h, nodes) line r (f.is_heading, said)
    (subst (λ (xs : List ℕ). IsFirstOffence (file_grammar check_claims limit) xs line r) text refused) in
    subst (λ (xs : List ℕ). HasNodeBetween xs line) (sym text) passed.0
