-- Reading two files without judging them refuses no line for what a node claims of its box.
use Rattle.std.proofs.Common.{◌≡◌, ℕ, zero, suc, List, codes}
use Rattle.rational_polygon.specs.Outline.{Outline}
use Rattle.rational_polygon.specs.declared.TheConstants.{MAX_GRID, MAX_LEVEL, MIN_CORNERS, MAX_CORNERS, MAX_POLYGONS}
use Rattle.line_grammar.specs.Form.{LineForm, numbered_line, whole_line}
use Rattle.line_grammar.specs.Offence.{Grammar, IsFirstOffence}
use Rattle.line_grammar.specs.Part.{Part, InFirst, InSecond, line_part, followed_by, end_of_text}
use Rattle.line_grammar.specs.declared.reason.Reason.{Reason}
use Rattle.line_grammar.specs.declared.reason.Reason.TheVariants.{NotApart, NotShown, Uncovered, EndLine}
use Rattle.covering_file.specs.CornerForms.{first_form, next_corner_form, word_form}
use Rattle.covering_file.specs.FilePart.{nodes_part, node_part, tree_part, due_end}
use Rattle.covering_file.specs.Header.{Heading}
use Rattle.covering_file.specs.HeaderPart.{header_part, after_first_line, after_region, named_part, corners_part, polygon_part, polygons_part}
use Rattle.covering_file.specs.HeaderPart.{count_part, counted_polygons, region_part, listed_part, words_part, depth_part}
use Rattle.covering_file.specs.TreeFile.{level_claims, level_reason, tree_file_part}
use Rattle.covering_file.specs.declared.file_kind.FileKind.TheVariants.{Cover}
use Rattle.covering_file.specs.declared.node.Node.{Node}
use Rattle.covering_file.specs.declared.node.Node.TheVariants.{Corner}
use Rattle.covering_file.specs.declared.TheConstants.{MAX_NODES, MAX_WORDS}
use Rattle.billiards_cli.specs.Commands.Merge.{merge_input}

-- what a claim is refused for
abbrev pub IsOfClaim : Reason → Type 0
IsOfClaim NotApart = Unit {0}
IsOfClaim NotShown = Unit {0}
IsOfClaim Uncovered = Unit {0}
IsOfClaim reason = ⊥

abbrev HasNone : Grammar → Type 0
HasNone g = (due : g.Due) (bytes : List ℕ) (r : Reason) → IsOfClaim r → ¬ (g.Has due bytes r)

-- ---- parts

none_in_line : {V : Type 0} (form : LineForm V) → ((line : List ℕ) (r : Reason) → IsOfClaim r → ¬ (form.Refuses line r))
    → HasNone (line_part form).grammar
none_in_line form none due bytes NotApart is has = none has.0 NotApart is has.2
none_in_line form none due bytes NotShown is has = none has.0 NotShown is has.2
none_in_line form none due bytes Uncovered is has = none has.0 Uncovered is has.2
none_in_line form none due bytes r is has = absurd is

none_in_both : {V W : Type 0} (first : Part V) (second : V → Part W) → HasNone first.grammar → ((v : V) → HasNone (second v).grammar)
    → HasNone (followed_by first second).grammar
none_in_both first second one two (InFirst due) bytes r is has = one due bytes r is has
none_in_both first second one two (InSecond v due) bytes r is has = two v due bytes r is has

none_at_the_end : HasNone end_of_text.grammar
none_at_the_end due bytes NotApart is has = has
none_at_the_end due bytes NotShown is has = has
none_at_the_end due bytes Uncovered is has = has
none_at_the_end due bytes r is has = absurd is

-- ---- lines

none_in_number : (name : List ℕ) (low high : ℕ) → HasNone (named_part name low high).grammar
none_in_number name low high = none_in_line (numbered_line name low high) none
  where
    none : (line : List ℕ) (r : Reason) → IsOfClaim r → ¬ ((numbered_line name low high).Refuses line r)
    none line NotApart is has = has
    none line NotShown is has = has
    none line Uncovered is has = has
    none line r is has = absurd is

none_in_first : HasNone (line_part (first_form Cover)).grammar
none_in_first = none_in_line (first_form Cover) none
  where
    none : (line : List ℕ) (r : Reason) → IsOfClaim r → ¬ ((first_form Cover).Refuses line r)
    none line NotApart is has = has
    none line NotShown is has = has
    none line Uncovered is has = has
    none line r is has = absurd is

none_in_corner : (grid count : ℕ) (corners : List (ℕ × ℕ)) → HasNone (line_part (next_corner_form grid count corners)).grammar
none_in_corner grid count corners = none_in_line (next_corner_form grid count corners) none
  where
    none : (line : List ℕ) (r : Reason) → IsOfClaim r → ¬ ((next_corner_form grid count corners).Refuses line r)
    none line NotApart is has = has
    none line NotShown is has = has
    none line Uncovered is has = has
    none line r is has = absurd is

none_in_word : HasNone (line_part word_form).grammar
none_in_word = none_in_line word_form none
  where
    none : (line : List ℕ) (r : Reason) → IsOfClaim r → ¬ (word_form.Refuses line r)
    none line NotApart is has = has
    none line NotShown is has = has
    none line Uncovered is has = has
    none line r is has = absurd is

none_in_end : (text : List ℕ) → HasNone (line_part (whole_line text EndLine)).grammar
none_in_end text = none_in_line (whole_line text EndLine) none
  where
    none : (line : List ℕ) (r : Reason) → IsOfClaim r → ¬ ((whole_line text EndLine).Refuses line r)
    none line NotApart is (other, same) = cc
    none line NotShown is (other, same) = cc
    none line Uncovered is (other, same) = cc
    none line r is has = absurd is

-- a node is refused for its level alone
not_of_level : (n : Node) (r : Reason) → IsOfClaim r → ¬ (r ≡ level_reason n)
not_of_level (Corner i) NotApart is same = cc
not_of_level (Corner i) NotShown is same = cc
not_of_level (Corner i) Uncovered is same = cc
not_of_level (Corner i) r is same = absurd is
not_of_level n NotApart is same = cc
not_of_level n NotShown is same = cc
not_of_level n Uncovered is same = cc
not_of_level n r is same = absurd is

none_in_node : (h : Heading) (nodes : List Node) → HasNone (node_part level_claims MAX_NODES h nodes).grammar
none_in_node h nodes due bytes NotApart is (line, begins, (n, of, text, has)) = not_of_level n NotApart is has.0
none_in_node h nodes due bytes NotShown is (line, begins, (n, of, text, has)) = not_of_level n NotShown is has.0
none_in_node h nodes due bytes Uncovered is (line, begins, (n, of, text, has)) = not_of_level n Uncovered is has.0
none_in_node h nodes due bytes r is has = absurd is

-- ---- the file

none_in_corners : (grid count : ℕ) → HasNone (corners_part grid count).grammar
none_in_corners grid count due bytes r is has = none_in_corner grid count due.said due.due bytes r is has

none_in_polygon : (grid : ℕ) → HasNone (polygon_part grid).grammar
none_in_polygon grid =
    none_in_both (named_part (codes "polygon") MIN_CORNERS MAX_CORNERS) (corners_part grid) (none_in_number (codes "polygon") MIN_CORNERS MAX_CORNERS)
    (none_in_corners grid)

none_in_polygons : (grid count : ℕ) → HasNone (polygons_part grid count).grammar
none_in_polygons grid count due bytes r is has = none_in_polygon grid due.due bytes r is has

none_in_count : (version : ℕ) → HasNone (count_part version).grammar
none_in_count (suc zero) due bytes r is has = has
none_in_count version due bytes r is has = none_in_number (codes "regions") 1 MAX_POLYGONS due bytes r is has

none_in_region : (version : ℕ) → HasNone (region_part version).grammar
none_in_region version =
    none_in_both (named_part (codes "grid") 1 MAX_GRID) (counted_polygons version) (none_in_number (codes "grid") 1 MAX_GRID)
    (λ grid. none_in_both (count_part version) (polygons_part grid) (none_in_count version) (none_in_polygons grid))

none_in_listed : (count : ℕ) → HasNone (listed_part count).grammar
none_in_listed count due bytes r is has = none_in_word due.due bytes r is has

none_in_words : HasNone words_part.grammar
none_in_words = none_in_both (named_part (codes "words") 1 MAX_WORDS) listed_part (none_in_number (codes "words") 1 MAX_WORDS) none_in_listed

none_after_region : (region : List Outline) → HasNone (after_region region).grammar
none_after_region region = none_in_both words_part (λ _. depth_part) none_in_words (λ words. none_in_number (codes "depth") 0 MAX_LEVEL)

none_in_header : HasNone (header_part Cover).grammar
none_in_header =
    none_in_both (line_part (first_form Cover)) after_first_line none_in_first
    (λ version. none_in_both (region_part version) after_region (none_in_region version) none_after_region)

none_in_nodes : (h : Heading) → HasNone (nodes_part level_claims MAX_NODES h).grammar
none_in_nodes h due bytes r is has = none_in_node h due.said due.due bytes r is has

none_in_tree : (h : Heading) → HasNone (tree_part level_claims MAX_NODES h).grammar
none_in_tree h =
    none_in_both (nodes_part level_claims MAX_NODES h) (λ nodes. line_part (whole_line (due_end nodes) EndLine)) (none_in_nodes h)
    (λ nodes. none_in_end (due_end nodes))

none_in_file : HasNone (tree_file_part MAX_NODES).grammar
none_in_file = none_in_both (header_part Cover) (tree_part level_claims MAX_NODES) none_in_header none_in_tree

-- the first offence in an input of two files is none of these
pub first_is_of_no_claim : (input : List ℕ) (line : ℕ) (r : Reason) → IsOfClaim r → ¬ (IsFirstOffence merge_input.grammar input line r)
first_is_of_no_claim input line r is first =
    none_in_both (followed_by (tree_file_part MAX_NODES) (λ _. tree_file_part MAX_NODES)) (λ _. end_of_text)
    (none_in_both (tree_file_part MAX_NODES) (λ _. tree_file_part MAX_NODES) none_in_file (λ f. none_in_file)) (λ files. none_at_the_end)
    first.due first.rest r is first.least.holds
