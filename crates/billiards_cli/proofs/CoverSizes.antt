-- How large the covering of a generated job is at most.
use Rattle.std.proofs.Common.{◌≡◌, ℕ, zero, suc, ◌+◌, ◌-◌, ◌*◌, ◌<◌, ◌≤◌, ◌^◌, List, [], ◌∷◌, ◌++◌, length, map, take}
use Rattle.std.proofs.Common.{All, Option, Some, None, refl, sym, subst, inl, inr}
use Rattle.std.proofs.Common.{arith, length-append, append_assoc, ap, ◌∙◌, lit≤, lit<, decimal, codes, count_by}
use Rattle.std.proofs.lemmas.List.{length-take}
use Rattle.std.proofs.lemmas.List.Elements.{All-head, All-tail, All-cons, All-nil, All-from_recursion}
use Rattle.std.proofs.lemmas.List.Sums.{count_by-le-length}
use Rattle.std.proofs.lemmas.Fmt.{length-decimal-le}
use Rattle.mcb_ends.specs.Bytes.{AppendsPrefix, IsHonest}
use Rattle.mcb_ends.specs.Causes.{Rose}
use Rattle.line_grammar.specs.Text.{text_of, two_fields}
use Rattle.line_grammar.proofs.FrontLines.{text_of-append}
use Rattle.line_grammar.proofs.Numbers.{length-decimal}
use Rattle.rational_polygon.specs.Square.{Square, unit_square}
use Rattle.covering_file.specs.declared.TheConstants.{MAX_NODES}
use Rattle.covering_file.specs.declared.file_kind.FileKind.TheVariants.{Cover}
use Rattle.covering_file.specs.declared.node.Node.{Node}
use Rattle.covering_file.specs.declared.node.Node.TheVariants.{Split, Outside, Shown, Corner, Uncovered}
use Rattle.covering_file.specs.DueBoxes.{children, StandsIn}
use Rattle.covering_file.specs.FilePart.{due_end, file_lines}
use Rattle.covering_file.specs.Header.{Heading, header_lines}
use Rattle.covering_file.specs.Node.{is_uncovered, node_line, end_line}
use Rattle.covering_file.proofs.Trees.{AreDueFrom, due_behind, each_stands}
use Rattle.coverer.specs.Begun.{IsBegun, IsCover, IsBegunText, begun_lines}
use Rattle.coverer.specs.Causes.{HasCause}
use Rattle.coverer.specs.declared.answer.Covered.TheVariants.{Full}
use Rattle.billiards_cli.specs.Jobs.{IsJobNumber, near_side, far_side, job_heading}

-- ---- nodes

-- how many nodes a tree has that is split everywhere, down to so many levels below its root
abbrev full : ℕ → ℕ
full zero = 1
full (suc levels) = 1 + 4 * full levels

some_node : (levels : ℕ) → 1 ≤ full levels
some_node zero = lit≤ tt
some_node (suc levels) = omega arith

one_level : (depth level : ℕ) → level < depth → full (depth - level) ≡ 1 + 4 * full (depth - (level + 1))
one_level depth level above = let e : depth - level ≡ suc (depth - (level + 1)) = omega arith in rw e refl

-- how many nodes stand at these boxes and below them at most
abbrev full_below : ℕ → List Square → ℕ
full_below depth [] = 0
full_below depth (box ∷ due) = full (depth - box.level) + full_below depth due

nodes_below : (h : Heading) (due : List Square) (nodes : List Node) → AreDueFrom due nodes
    → ((box : Square) (n : Node) → StandsIn due nodes box n → HasCause h box n) → length nodes ≤ full_below h.depth due
nodes_below h due [] are causes = omega arith
nodes_below h [] (n ∷ nodes) are causes = absurd (are 0 (omega arith) refl)
nodes_below h (box ∷ due) (Split ∷ nodes) are causes =
    let rest = nodes_below h (children box ++ due) nodes (due_behind (box ∷ due) Split nodes are) (λ at n stands. causes at n (inr stands)) in
    let cause = causes box Split (inl (refl, refl)) in
    omega (arith, rest, one_level h.depth box.level cause.1)
nodes_below h (box ∷ due) (Outside ∷ nodes) are causes =
    let rest = nodes_below h due nodes (due_behind (box ∷ due) Outside nodes are) (λ at n stands. causes at n (inr stands)) in
    omega (arith, rest, some_node (h.depth - box.level))
nodes_below h (box ∷ due) (Shown i ∷ nodes) are causes =
    let rest = nodes_below h due nodes (due_behind (box ∷ due) (Shown i) nodes are) (λ at n stands. causes at n (inr stands)) in
    omega (arith, rest, some_node (h.depth - box.level))
nodes_below h (box ∷ due) (Corner i ∷ nodes) are causes =
    let rest = nodes_below h due nodes (due_behind (box ∷ due) (Corner i) nodes are) (λ at n stands. causes at n (inr stands)) in
    omega (arith, rest, some_node (h.depth - box.level))
nodes_below h (box ∷ due) (Uncovered ∷ nodes) are causes =
    let rest = nodes_below h due nodes (due_behind (box ∷ due) Uncovered nodes are) (λ at n stands. causes at n (inr stands)) in
    omega (arith, rest, some_node (h.depth - box.level))

-- the nodes of a generated job are fewer than a file may have
pub few_nodes : (k limit : ℕ) (nodes : List Node) → IsBegun limit (job_heading k) nodes → length nodes ≤ 1398101
few_nodes k limit nodes begun = nodes_below (job_heading k) (unit_square ∷ []) nodes begun.due begun.causes

pub never_full : (k n : ℕ) (h : Heading) (text : List ℕ) → h ≡ job_heading k → IsCover MAX_NODES h (Full n) text → ⊥
never_full k n h text is cover =
    let generated = subst (λ (h : Heading). IsCover MAX_NODES h (Full n) text) is cover in
    omega (arith, few_nodes k MAX_NODES generated.nodes generated.begun, generated.answers)

-- ---- bytes

abbrev IsShortNode : Node → Type 0
IsShortNode n = length (node_line n) ≤ 3

-- with one word listed
short_node : (k : ℕ) (box : Square) (n : Node) → HasCause (job_heading k) box n → IsShortNode n
short_node k box Split cause = lit≤ tt
short_node k box Outside cause = lit≤ tt
short_node k box Uncovered cause = lit≤ tt
short_node k box (Shown i) cause =
    let listed = cause.1.listed in
    omega (arith, length-decimal-le 1 i (lit< tt) (omega (arith, listed)) (omega (arith, listed)))
short_node k box (Corner i) cause =
    let listed = cause.2.listed in
    omega (arith, length-decimal-le 1 i (lit< tt) (omega (arith, listed)) (omega (arith, listed)))

nodes_size : (nodes : List Node) → All IsShortNode nodes → length (text_of (map node_line nodes)) ≤ 4 * length nodes
nodes_size [] short = lit≤ tt
nodes_size (n ∷ nodes) short =
    omega (
      arith,
      All-head IsShortNode n nodes short,
      nodes_size nodes (All-tail IsShortNode n nodes short),
      length-append (node_line n) (10 ∷ []),
      length-append (node_line n ++ 10 ∷ []) (text_of (map node_line nodes)),
    )

abbrev IsShort : List ℕ → Type 0
IsShort line = length line ≤ 80

lines_size : (lines : List (List ℕ)) → All IsShort lines → length (text_of lines) ≤ 81 * length lines
lines_size [] short = lit≤ tt
lines_size (line ∷ lines) short =
    omega (
      arith,
      All-head IsShort line lines short,
      lines_size lines (All-tail IsShort line lines short),
      length-append line (10 ∷ []),
      length-append (line ++ 10 ∷ []) (text_of lines),
    )

named_is_short : (name : List ℕ) (n : ℕ) → length name ≤ 40 → n < 2 ^ 32 → IsShort (two_fields name (decimal n))
named_is_short name n short low = omega (arith, length-append name (32 ∷ decimal n), length-decimal n low)

corner_is_short : (x y : ℕ) → x < 2 ^ 32 → y < 2 ^ 32 → IsShort (two_fields (decimal x) (decimal y))
corner_is_short x y p q = named_is_short (decimal x) y (omega (arith, length-decimal x p)) q

end_is_short : (left : ℕ) → left < 2 ^ 32 → IsShort (end_line left)
end_is_short zero low = lit≤ tt
end_is_short (suc more) low = named_is_short (codes "end open") (suc more) (lit≤ tt) low

header_is_short : (k : ℕ) → IsJobNumber k → All IsShort (header_lines Cover (job_heading k))
header_is_short k is =
    let near : near_side k < 2 ^ 32 = omega (arith, is) in
    let far : far_side k < 2 ^ 32 = omega (arith, is) in
    All-from_recursion IsShort (header_lines Cover (job_heading k)) (
      named_is_short (codes "mcbcover") 1 (lit≤ tt) (lit< tt),
      (
        named_is_short (codes "grid") 768 (lit≤ tt) (lit< tt),
        (
          named_is_short (codes "polygon") 3 (lit≤ tt) (lit< tt),
          (
            corner_is_short (near_side k) (far_side k) near far,
            (
              corner_is_short (near_side k) (near_side k) near near,
              (
                corner_is_short (far_side k) (near_side k) far near,
                (
                  named_is_short (codes "words") 1 (lit≤ tt) (lit< tt),
                  (
                    lit≤ tt,
                    (named_is_short (codes "depth") 10 (lit≤ tt) (lit< tt), tt),
                  ),
                ),
              ),
            ),
          ),
        ),
      ),
    )

both_sizes : (lines more : List (List ℕ)) → length (text_of (lines ++ more)) ≡ length (text_of lines) + length (text_of more)
both_sizes lines more = ap length (text_of-append lines more) ∙ length-append (text_of lines) (text_of more)

begun_size : (k : ℕ) (nodes : List Node) → IsJobNumber k → IsBegun MAX_NODES (job_heading k) nodes
    → length (text_of (begun_lines (job_heading k) nodes)) ≤ 5600000
begun_size k nodes is begun =
    let h = job_heading k in
    let short = each_stands IsShortNode nodes (unit_square ∷ []) begun.due (λ box n stands. short_node k box n (begun.causes box n stands)) in
    let header = lines_size (header_lines Cover h) (header_is_short k is) in
    let counted : length (header_lines Cover h) ≡ 9 = refl in
    omega (arith, both_sizes (header_lines Cover h) (map node_line nodes), header, counted, nodes_size nodes short, few_nodes k MAX_NODES nodes begun)

file_size : (k : ℕ) (nodes : List Node) → IsJobNumber k → IsBegun MAX_NODES (job_heading k) nodes
    → length (text_of (file_lines (job_heading k) nodes)) < 6000000
file_size k nodes is begun =
    let h = job_heading k in
    let end = due_end nodes in
    let few = few_nodes k MAX_NODES nodes begun in
    let low : count_by is_uncovered nodes < 2 ^ 32 = omega (arith, few, count_by-le-length is_uncovered nodes) in
    let apart : file_lines h nodes ≡ begun_lines h nodes ++ end ∷ [] = sym (append_assoc (header_lines Cover h) (map node_line nodes) (end ∷ [])) in
    let parts : length (text_of (file_lines h nodes)) ≡ length (text_of (begun_lines h nodes)) + length (text_of (end ∷ [])) =
    ap (λ (lines : List (List ℕ)). length (text_of lines)) apart ∙ both_sizes (begun_lines h nodes) (end ∷ []) in
    let last = lines_size (end ∷ []) (All-cons IsShort end [] (end_is_short (count_by is_uncovered nodes) low) (All-nil IsShort)) in
    omega (arith, parts, begun_size k nodes is begun, last)

-- whatever is written of it
pub begun_text_size : (k : ℕ) (text : List ℕ) → IsJobNumber k → IsBegunText MAX_NODES (job_heading k) text → length text < 6000000
begun_text_size k text is begun =
    elim begun.is_text [
      | inl e ↦ rw e (omega (arith, begun_size k begun.nodes is begun.begun))
      | inr (none, e) ↦ rw e (file_size k begun.nodes is begun.begun)
    ]

-- ---- a sink with room for it does not fail

begun_within : (written : Option (List ℕ)) (faults : ℕ) (text : List ℕ) → IsHonest (Some 6000000) written faults → AppendsPrefix (Some []) written text
    → length text < 6000000 → Rose 0 faults → ⊥
begun_within None faults text honest begun small rose = absurd begun.2
begun_within (Some bytes) faults text honest begun small rose =
    let full = honest (omega (arith, rose)) in
    let size : length bytes ≡ length (take begun.0 text) = ap length begun.2 in
    omega (arith, full, size, length-take begun.0 text)

pub never_fails : (k : ℕ) (h : Heading) (room : Option ℕ) (before written : Option (List ℕ)) (sink faults : ℕ) (text : List ℕ) → IsJobNumber k
    → h ≡ job_heading k → room ≡ Some 6000000 → before ≡ Some [] → sink ≡ 0 → IsHonest room written faults → IsBegunText MAX_NODES h text
    → AppendsPrefix before written text → Rose sink faults → ⊥
never_fails k h room before written sink faults text is heading tells empty whole honest begun prefix rose =
    begun_within written faults text (subst (λ (r : Option ℕ). IsHonest r written faults) tells honest)
    (subst (λ (old : Option (List ℕ)). AppendsPrefix old written text) empty prefix)
    (begun_text_size k text is (subst (λ (h : Heading). IsBegunText MAX_NODES h text) heading begun))
    (subst (λ (n : ℕ). Rose n faults) whole rose)
