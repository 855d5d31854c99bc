-- The text of a tree and of a file, line by line.
use Rattle.std.proofs.Common.{◌≡◌, ℕ, ◌+◌, List, [], ◌∷◌, ◌++◌, map, sym, ap, ◌∙◌, append_assoc}
use Rattle.std.proofs.lemmas.List.{append-nil, map-append}
use Rattle.std.proofs.lemmas.List.Sums.{sum_by-append}
use Rattle.std.specs.Prelude.{cond, count_by}
use Rattle.covering_file.specs.declared.file_kind.FileKind.TheVariants.{Cover}
use Rattle.covering_file.specs.declared.node.Node.{Node}
use Rattle.covering_file.specs.declared.node.Node.TheVariants.{Split}
use Rattle.line_grammar.specs.Text.{with_newline, text_of}
use Rattle.covering_file.specs.Header.{Heading, header_lines, header_text}
use Rattle.covering_file.specs.Node.{is_uncovered, node_line, end_line}
use Rattle.covering_file.specs.Tree.{Tree, leaf, split, preorder, tree_text, uncovered_in, file_text}
use Rattle.line_grammar.proofs.FrontLines.{text_of-append}
use Rattle.covering_file.specs.FilePart.{due_end, file_lines}

abbrev nodes_text : List Node → List ℕ
nodes_text nodes = text_of (map node_line nodes)

nodes_text-append : (xs ys : List Node) → nodes_text (xs ++ ys) ≡ nodes_text xs ++ nodes_text ys
nodes_text-append xs ys = ap (λ (lines : List (List ℕ)). text_of lines) (map-append node_line xs ys) ∙ text_of-append (map node_line xs) (map node_line ys)

nodes_text-four : (a b c d : List Node) → nodes_text (((a ++ b) ++ c) ++ d) ≡ ((nodes_text a ++ nodes_text b) ++ nodes_text c) ++ nodes_text d
nodes_text-four a b c d =
    nodes_text-append ((a ++ b) ++ c) d
    ∙ ap (λ (text : List ℕ). text ++ nodes_text d) (nodes_text-append (a ++ b) c ∙ ap (λ (text : List ℕ). text ++ nodes_text c) (nodes_text-append a b))

pub tree_text-lines : (t : Tree) → tree_text t ≡ text_of (map node_line (preorder t))
tree_text-lines (leaf n is) = sym (append-nil (with_newline (node_line n)))
tree_text-lines (split a b c d) =
    let parts : ((tree_text a ++ tree_text b) ++ tree_text c) ++ tree_text d ≡ nodes_text (((preorder a ++ preorder b) ++ preorder c) ++ preorder d) =
    rw (tree_text-lines a, tree_text-lines b, tree_text-lines c, tree_text-lines d)
    (sym (nodes_text-four (preorder a) (preorder b) (preorder c) (preorder d))) in
    ap (λ (text : List ℕ). with_newline (node_line Split) ++ text) parts

counted-four : (a b c d : List Node) → count_by is_uncovered (((a ++ b) ++ c)
    ++ d) ≡ ((count_by is_uncovered a + count_by is_uncovered b) + count_by is_uncovered c) + count_by is_uncovered d
counted-four a b c d =
    let one = λ (n : Node). cond (is_uncovered n) 1 0 in
    sum_by-append one ((a ++ b) ++ c) d
    ∙ ap (λ k. k + count_by is_uncovered d) (sum_by-append one (a ++ b) c ∙ ap (λ k. k + count_by is_uncovered c) (sum_by-append one a b))

pub uncovered_in-split : (a b c d : Tree) → uncovered_in (split a b c d) ≡ ((uncovered_in a + uncovered_in b) + uncovered_in c) + uncovered_in d
uncovered_in-split a b c d = counted-four (preorder a) (preorder b) (preorder c) (preorder d)

-- the text behind a header
pub tree_text-end : (t : Tree) → tree_text t ++ with_newline (end_line (uncovered_in t)) ≡ text_of (map node_line (preorder t) ++ due_end (preorder t) ∷ [])
tree_text-end t =
    ap (λ (text : List ℕ). text ++ with_newline (end_line (uncovered_in t))) (tree_text-lines t)
    ∙ ap (λ (text : List ℕ). text_of (map node_line (preorder t)) ++ text) (sym (append-nil (with_newline (due_end (preorder t)))))
    ∙ sym (text_of-append (map node_line (preorder t)) (due_end (preorder t) ∷ []))

pub file_text-lines : (h : Heading) (t : Tree) → file_text h t ≡ text_of (file_lines h (preorder t))
file_text-lines h t =
    append_assoc (header_text Cover h) (tree_text t) (with_newline (end_line (uncovered_in t)))
    ∙ ap (λ (text : List ℕ). header_text Cover h ++ text) (tree_text-end t)
    ∙ sym (text_of-append (header_lines Cover h) (map node_line (preorder t) ++ due_end (preorder t) ∷ []))

-- the text of a file's lines: the header, the nodes, the end line
pub file_lines-parts : (h : Heading) (nodes : List Node)
    → text_of (file_lines h nodes) ≡ header_text Cover h ++ (text_of (map node_line nodes) ++ with_newline (due_end nodes))
file_lines-parts h nodes =
    text_of-append (header_lines Cover h) (map node_line nodes ++ due_end nodes ∷ [])
    ∙ ap (λ (text : List ℕ). header_text Cover h ++ text)
    (text_of-append (map node_line nodes) (due_end nodes ∷ [])
    ∙ ap (λ (text : List ℕ). text_of (map node_line nodes) ++ text) (append-nil (with_newline (due_end nodes))))
