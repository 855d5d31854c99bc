-- Files that are read without being judged: those whose nodes may all be said are those of one whole tree, and no line of such a file offends.
use Rattle.std.proofs.Common.{◌≡◌, ℕ, ◌^◌, ◌<◌, ◌≤◌, List, [], ◌∷◌, ◌++◌, length, count_by, Option, refl, sym, ap, ap₂, subst, arith}
use Rattle.std.proofs.lemmas.List.Sums.{count_by-le-length}
use Rattle.std.proofs.Common.{append-nil}
use Rattle.rational_polygon.specs.Square.{Square, unit_square}
use Rattle.mcb_ends.specs.Reader.{Reader, bytes_before}
use Rattle.line_grammar.specs.Input.{IsNew}
use Rattle.line_grammar.specs.Laws.{ValueIsOne, NeverOffends}
use Rattle.line_grammar.specs.Offence.{IsFirstOffence}
use Rattle.line_grammar.specs.Reading.{TakesPart}
use Rattle.line_grammar.proofs.Laws.{seen_is_one, seen_never, text_never}
use Rattle.line_grammar.proofs.Parts.{takes_seen}
use Rattle.line_grammar.proofs.Taken.{new_bytes}
use Rattle.covering_file.specs.declared.node.Node.{Node}
use Rattle.covering_file.specs.DueBoxes.{StandsIn}
use Rattle.covering_file.specs.Faults.{BeginsHeader}
use Rattle.covering_file.specs.FilePart.{file_part, nodes_part, tree_lines}
use Rattle.covering_file.specs.declared.file_kind.FileKind.TheVariants.{Cover}
use Rattle.covering_file.specs.Header.{Heading, IsHeading, region_lines, words_lines}
use Rattle.covering_file.specs.HeaderPart.{depth_part}
use Rattle.covering_file.specs.Laws.{TreeFileNeverOffends}
use Rattle.covering_file.specs.Node.{is_uncovered}
use Rattle.covering_file.specs.Tree.{StandsAt, preorder}
use Rattle.covering_file.specs.TreeFile.{TreeFile, HasLevelFor, IsTreeFile, level_claims, tree_file_lines, tree_file_part, tree_file_text}
use Rattle.covering_file.specs.TreeFile.{whole_tree_file}
use Rattle.covering_file.proofs.FileParts.{EndsInForm, IsSureValue, end_line_is_form, file_value_is_one, read_never}
use Rattle.covering_file.proofs.HeadLines.{some_version}
use Rattle.covering_file.proofs.NodeParts.{NeverHas}
use Rattle.covering_file.proofs.NodesSaid.{all_said, each_sure, said_are_whole, said_may_stand, said_is_node, said_within}
use Rattle.covering_file.proofs.Wanting.{begins_header}
use Rattle.covering_file.proofs.Trees.{tree_is_whole, whole_has_tree, tree_to_list, list_to_tree}

-- ---- the nodes that may be said are those of a tree

pub said_has_tree : (limit : ℕ) (h : Heading) (nodes : List Node) → IsHeading h → (nodes_part level_claims limit h).Says nodes
    → IsTreeFile limit (record { heading = h; nodes = nodes })
said_has_tree limit h nodes heading says =
    let tree = whole_has_tree nodes (said_are_whole level_claims limit h nodes says) in
    let t = tree.0 in
    let in_list : (box : Square) (node : Node) → StandsAt unit_square t box node → StandsIn (unit_square ∷ []) nodes box node =
    λ box node stands. subst (λ (ns : List Node). StandsIn (unit_square ∷ []) ns box node) tree.1 (tree_to_list t box node stands) in
    record {
      is_heading = heading;
      tree = t;
      nodes = tree.1;
      is_tree = record {
        within = subst (λ (ns : List Node). length ns ≤ limit) (sym tree.1) (said_within level_claims limit h nodes says);
        listed = λ box node stands. said_is_node level_claims limit h nodes says box node (in_list box node stands);
        levels = λ box node stands. said_may_stand level_claims limit h nodes says box node (in_list box node stands);
      };
    }

pub tree_is_said : (limit : ℕ) (f : TreeFile) → IsTreeFile limit f → (nodes_part level_claims limit f.heading).Says f.nodes
tree_is_said limit f is =
    let t = is.tree in
    let h = f.heading in
    let says = all_said level_claims limit h (preorder t) (tree_is_whole t) is.is_tree.within
    (λ box n stands. let at = list_to_tree t box n stands in (is.is_tree.listed box n at, is.is_tree.levels box n at)) in
    subst (λ (ns : List Node). (nodes_part level_claims limit h).Says ns) is.nodes says

-- a greater limit lets each of them pass
pub tree_within : (limit more : ℕ) (f : TreeFile) → limit ≤ more → IsTreeFile limit f → IsTreeFile more f
tree_within limit more f less is = record {
  is_heading = is.is_heading;
  tree = is.tree;
  nodes = is.nodes;
  is_tree = record { within = omega (arith, less, is.is_tree.within); listed = is.is_tree.listed; levels = is.is_tree.levels };
}

pub tree_file_few : (limit : ℕ) (f : TreeFile) → IsTreeFile limit f → length f.nodes ≤ limit
tree_file_few limit f is = subst (λ (ns : List Node). length ns ≤ limit) is.nodes is.is_tree.within

-- ---- reading one

pub tree_file_taken : (limit : ℕ) (h : Heading) (nodes : List Node) (old new : Reader) (a b : Option (List ℕ))
    → TakesPart (file_part level_claims limit) old new a b (h, nodes)
    → TakesPart (tree_file_part limit) old new a b (record { heading = h; nodes = nodes })
tree_file_taken limit h nodes old new a b takes =
    takes_seen (file_part level_claims limit) (IsTreeFile limit) tree_file_lines (h, nodes) (record { heading = h; nodes = nodes }) old new a b takes
    (said_has_tree limit h nodes takes.says.0 takes.says.1) refl

-- ---- no line of one offends

-- a node at a level for it is refused for none
pub level_never : NeverHas level_claims HasLevelFor
level_never h box n r stands has = has.1 stands

level_ends : (limit : ℕ) → limit < 2 ^ 32 → (h : Heading) → EndsInForm level_claims limit h
level_ends limit few h nodes says =
    end_line_is_form (count_by is_uncovered nodes) (omega (arith, few, count_by-le-length is_uncovered nodes, said_within level_claims limit h nodes says))

abbrev view : TreeFile → Heading × List Node
view f = (f.heading, f.nodes)

view_said : (limit : ℕ) (f : TreeFile) → IsTreeFile limit f → (file_part level_claims limit).Says (view f)
view_said limit f is = (is.is_heading, tree_is_said limit f is)

view_one : (f g : TreeFile) → view f ≡ view g → f ≡ g
view_one f g is =
    let heading : f.heading ≡ g.heading = ap (λ (v : Heading × List Node). v.0) is in
    let nodes : f.nodes ≡ g.nodes = ap (λ (v : Heading × List Node). v.1) is in
    ap₂ (λ (h : Heading) (ns : List Node). let f : TreeFile = record { heading = h; nodes = ns } in f) heading nodes

view_sure : (limit : ℕ) (f : TreeFile) → IsTreeFile limit f → IsSureValue HasLevelFor (view f)
view_sure limit f is =
    let t = is.tree in
    let whole = tree_is_whole t in
    let sure = each_sure HasLevelFor f.heading (preorder t) whole.due (λ box n stands. is.is_tree.levels box n (list_to_tree t box n stands)) in
    subst (λ (ns : List Node). IsSureValue HasLevelFor (f.heading, ns)) is.nodes (tt, sure)

pub tree_file_is_one : (limit : ℕ) → limit < 2 ^ 32 → ValueIsOne (tree_file_part limit)
tree_file_is_one limit few =
    seen_is_one (file_part level_claims limit) (IsTreeFile limit) tree_file_lines view (file_value_is_one level_claims limit (level_ends limit few))
    (view_said limit) (λ f is. refl) (λ f g p q same. view_one f g same)

-- whatever follows it
pub tree_file_never : (limit : ℕ) (x : List ℕ) → limit < 2 ^ 32 → NeverOffends (tree_file_part limit) (λ _. Unit {0}) x
tree_file_never limit x few =
    seen_never (file_part level_claims limit) (IsTreeFile limit) tree_file_lines view (IsSureValue HasLevelFor) (λ _. Unit {0}) x
    (read_never level_claims HasLevelFor limit x level_never (level_ends limit few)) (view_said limit) (λ f is. refl) (λ f is sure. view_sure limit f is)

pub tree_file_never_offends : TreeFileNeverOffends
tree_file_never_offends limit f line r few is first =
    text_never (tree_file_part limit) (λ _. Unit {0}) (tree_file_is_one limit few) (λ x. tree_file_never limit x few) f line r is tt
    (subst (λ (xs : List ℕ). IsFirstOffence (whole_tree_file limit).grammar xs line r) (sym (append-nil (tree_file_text f))) first)

-- ---- its beginning

-- lines that a new reader took begin with the first line of a header
pub file_begins : (limit : ℕ) (f : TreeFile) (old new : Reader) (a b : Option (List ℕ)) → TakesPart (tree_file_part limit) old new a b f
    → BeginsHeader Cover (bytes_before old a)
file_begins limit f old new a b takes =
    let h = f.heading in
    begins_header Cover h.version ((region_lines h.version h.region ++ words_lines h.words ++ depth_part.lines_of h.depth) ++ tree_lines f.nodes) old new a b
    (some_version h.version (length h.region) takes.says.is_heading.version) takes.taken

pub file_begins_new : (limit : ℕ) (f : TreeFile) (old new : Reader) (a b : Option (List ℕ)) → IsNew old → TakesPart (tree_file_part limit) old new a b f
    → BeginsHeader Cover a
file_begins_new limit f old new a b fresh takes = subst (BeginsHeader Cover) (new_bytes old a fresh) (file_begins limit f old new a b takes)
