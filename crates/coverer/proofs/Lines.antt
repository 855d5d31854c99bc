-- The text of a covering, as it is written: the header, one node after another, the end line.
use Rattle.std.proofs.Common.{◌≡◌, inl, inr, refl, sym, ap, ◌∙◌, subst, ℕ, ◌+◌, List, [], ◌∷◌, ◌++◌, map, Option, false, arith}
use Rattle.std.proofs.KnownBytes.{Appends-trans}
use Rattle.std.proofs.lemmas.List.{append-nil, map-append}
use Rattle.std.proofs.lemmas.List.Sums.{sum_by-append}
use Rattle.std.specs.Io.KnownBytes.{Appends}
use Rattle.std.specs.List.{sum_by}
use Rattle.std.specs.Prelude.{cond, count_by}
use Rattle.mcb_ends.specs.Bytes.{AppendsPrefix}
use Rattle.mcb_ends.proofs.Written.{AppendsPrefix-then, AppendsPrefix-begun}
use Rattle.line_grammar.specs.Text.{with_newline, text_of}
use Rattle.line_grammar.proofs.FrontLines.{text_of-append}
use Rattle.covering_file.specs.declared.file_kind.FileKind.TheVariants.{Cover}
use Rattle.covering_file.specs.declared.node.Node.{Node}
use Rattle.covering_file.specs.declared.node.Node.TheVariants.{Uncovered}
use Rattle.covering_file.specs.DueBoxes.{due_boxes}
use Rattle.covering_file.specs.FilePart.{due_end, file_lines}
use Rattle.covering_file.specs.Header.{Heading, header_lines, header_text}
use Rattle.covering_file.specs.Node.{is_uncovered, node_line}
use Rattle.covering_file.proofs.TreeText.{file_lines-parts}
use Rattle.coverer.specs.Begun.{IsBegun, IsBegunText, begun_lines}
use Rattle.coverer.proofs.Reached.{none_begun}

-- ---- nodes

abbrev nodes_text : List Node → List ℕ
nodes_text nodes = text_of (map node_line nodes)

one_more : (nodes : List Node) (n : Node) → nodes_text (nodes ++ n ∷ []) ≡ nodes_text nodes ++ with_newline (node_line n)
one_more nodes n =
    ap (λ (lines : List (List ℕ)). text_of lines) (map-append node_line nodes (n ∷ []))
    ∙ text_of-append (map node_line nodes) (node_line n ∷ [])
    ∙ ap (λ (text : List ℕ). nodes_text nodes ++ text) (append-nil (with_newline (node_line n)))

pub wrote_one : (old mid new : Option (List ℕ)) (nodes : List Node) (n : Node) → Appends old mid (text_of (map node_line nodes))
    → Appends mid new (with_newline (node_line n)) → Appends old new (text_of (map node_line (nodes ++ n ∷ [])))
wrote_one old mid new nodes n before one =
    subst (λ (text : List ℕ). Appends old new text) (sym (one_more nodes n))
    (Appends-trans old mid new (nodes_text nodes) (with_newline (node_line n)) before one)

pub failed_in_one : (old mid new : Option (List ℕ)) (nodes : List Node) (n : Node) → Appends old mid (text_of (map node_line nodes))
    → AppendsPrefix mid new (with_newline (node_line n)) → AppendsPrefix old new (text_of (map node_line (nodes ++ n ∷ [])))
failed_in_one old mid new nodes n before cut =
    subst (λ (text : List ℕ). AppendsPrefix old new text) (sym (one_more nodes n))
    (AppendsPrefix-then old mid new (nodes_text nodes) (with_newline (node_line n)) before cut)

-- ---- how many are uncovered

abbrev one_for : Node → ℕ
one_for n = cond (is_uncovered n) 1 0

pub uncovered_more : (nodes : List Node) (n : Node) → n ≡ Uncovered → count_by is_uncovered (nodes ++ n ∷ []) ≡ count_by is_uncovered nodes + 1
uncovered_more nodes n is =
    let last : sum_by one_for (n ∷ []) ≡ 1 = ap (λ (m : Node). sum_by one_for (m ∷ [])) is in
    sum_by-append one_for nodes (n ∷ []) ∙ ap (λ k. sum_by one_for nodes + k) last

pub uncovered_same : (nodes : List Node) (n : Node) → is_uncovered n ≡ false → count_by is_uncovered (nodes ++ n ∷ []) ≡ count_by is_uncovered nodes
uncovered_same nodes n is =
    let last : sum_by one_for (n ∷ []) ≡ 0 = ap (λ b. 0 + cond b 1 0) is in
    omega (arith, sum_by-append one_for nodes (n ∷ []), last)

-- ---- the file

begun_text : (h : Heading) (nodes : List Node) → text_of (begun_lines h nodes) ≡ header_text Cover h ++ nodes_text nodes
begun_text h nodes = text_of-append (header_lines Cover h) (map node_line nodes)

pub wrote_begun : (old mid new : Option (List ℕ)) (h : Heading) (nodes : List Node) → Appends old mid (header_text Cover h)
    → Appends mid new (text_of (map node_line nodes)) → Appends old new (text_of (begun_lines h nodes))
wrote_begun old mid new h nodes header tree =
    subst (λ (text : List ℕ). Appends old new text) (sym (begun_text h nodes))
    (Appends-trans old mid new (header_text Cover h) (nodes_text nodes) header tree)

pub wrote_whole : (old mid end new : Option (List ℕ)) (h : Heading) (nodes : List Node) → Appends old mid (header_text Cover h)
    → Appends mid end (text_of (map node_line nodes)) → Appends end new (with_newline (due_end nodes)) → Appends old new (text_of (file_lines h nodes))
wrote_whole old mid end new h nodes header tree last =
    subst (λ (text : List ℕ). Appends old new text) (sym (file_lines-parts h nodes))
    (Appends-trans old mid new (header_text Cover h) (nodes_text nodes ++ with_newline (due_end nodes)) header
    (Appends-trans mid end new (nodes_text nodes) (with_newline (due_end nodes)) tree last))

-- ---- a failure

abbrev pub FailsCover : ℕ → Heading → Option (List ℕ) → Option (List ℕ) → Type 0
FailsCover limit h old new = (text : List ℕ) × IsBegunText limit h text × AppendsPrefix old new text

pub failed_in_header : (limit : ℕ) (old new : Option (List ℕ)) (h : Heading) → AppendsPrefix old new (header_text Cover h) → FailsCover limit h old new
failed_in_header limit old new h cut = (
  text_of (begun_lines h []),
  record { nodes = []; begun = none_begun limit h; is_text = inl refl },
  subst (λ (text : List ℕ). AppendsPrefix old new text) (sym (begun_text h [])) (AppendsPrefix-begun old new (header_text Cover h) (nodes_text []) cut),
)

pub failed_in_nodes : (limit : ℕ) (old mid new : Option (List ℕ)) (h : Heading) (nodes : List Node) → IsBegun limit h nodes
    → Appends old mid (header_text Cover h) → AppendsPrefix mid new (text_of (map node_line nodes)) → FailsCover limit h old new
failed_in_nodes limit old mid new h nodes begun header cut = (
  text_of (begun_lines h nodes),
  record { nodes = nodes; begun = begun; is_text = inl refl },
  subst (λ (text : List ℕ). AppendsPrefix old new text) (sym (begun_text h nodes))
      (AppendsPrefix-then old mid new (header_text Cover h) (nodes_text nodes) header cut),
)

pub failed_in_end : (limit : ℕ) (old mid end new : Option (List ℕ)) (h : Heading) (nodes : List Node) → IsBegun limit h nodes → due_boxes nodes ≡ []
    → Appends old mid (header_text Cover h) → Appends mid end (text_of (map node_line nodes)) → AppendsPrefix end new (with_newline (due_end nodes))
    → FailsCover limit h old new
failed_in_end limit old mid end new h nodes begun none header tree cut = (
  text_of (file_lines h nodes),
  record { nodes = nodes; begun = begun; is_text = inr (none, refl) },
  subst (λ (text : List ℕ). AppendsPrefix old new text) (sym (file_lines-parts h nodes))
      (AppendsPrefix-then old mid new (header_text Cover h) (nodes_text nodes ++ with_newline (due_end nodes)) header
      (AppendsPrefix-then mid end new (nodes_text nodes) (with_newline (due_end nodes)) tree cut)),
)
