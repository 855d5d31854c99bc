-- The header, the nodes and the end line, one after another.
use Rattle.std.proofs.Common.{◌≡◌, ap, ◌∙◌, subst, ℕ, List, count_by, arith}
use Rattle.std.proofs.lemmas.List.Sums.{count_by-le-length}
use Rattle.std.proofs.lemmas.Result.{err_from_is_err_and}
use Rattle.line_grammar.specs.declared.reason.Reason.TheVariants.{EndLine}
use Rattle.line_grammar.specs.Faults.{refusal_of}
use Rattle.line_grammar.specs.Form.{whole_line}
use Rattle.line_grammar.specs.Part.{line_part}
use Rattle.line_grammar.specs.Reading.{TakesPart, FailsPart}
use Rattle.mcb_ends.specs.Reader.{bytes_before}
use Rattle.covering_file.specs.declared.TheConstants.{MAX_NODES}
use Rattle.covering_file.specs.declared.file_kind.FileKind.TheVariants.{Cover}
use Rattle.covering_file.specs.declared.node.Node.{Node}
use Rattle.covering_file.specs.Node.{end_line, is_uncovered}
use Rattle.covering_file.specs.TreeFile.{level_claims}
use Rattle.covering_file.proofs.FileParts.{end_line_is_form}
use Rattle.covering_file.proofs.HeadFaults.{same_refusal}
use Rattle.covering_file.proofs.JobParts.{header_begins}
use Rattle.covering_file.proofs.TreeFiles.{tree_file_taken, said_has_tree, tree_within}
use Rattle.covering_file.proofs.TreeParts.{nodes_fail, end_fails, tree_taken, header_fails, tree_fails, file_taken}
use Rattle.covering_file.proofs.Wanting.{wants_if_err}
use Rattle.covering_file.proofs.tree.reading.read_tree.Goals as goal

pub returns-in_err-header-clause-reads : goal.returns-in_err-header-clause-reads
returns-in_err-header-clause-reads g c =
    let left = g.S.Source.left in
    let p = err_from_is_err_and c.from_residual.result c.from_residual.ensures.1 in
    rw (p.1, p.2)
    (header_fails level_claims c.args.limit c.args.lines.now c.read_header.new.lines (left c.args.src.now) (left c.read_header.new.src) _
    c.requires.reading c.in_err-header.ensures.reads)

pub returns-in_err-nodes-clause-reads : goal.returns-in_err-nodes-clause-reads
returns-in_err-nodes-clause-reads g c =
    let left = g.S.Source.left in
    let h = c.in_ok-header.header in
    let header = c.in_ok-header.ensures.reads in
    let p = err_from_is_err_and c.from_residual-in_err-nodes.result c.from_residual-in_err-nodes.ensures.1 in
    rw (p.1, p.2)
    (tree_fails level_claims c.args.limit h c.args.lines.now c.read_header.new.lines c.read_nodes.new.lines (left c.args.src.now)
    (left c.read_header.new.src) (left c.read_nodes.new.src) _ header
    (nodes_fail level_claims c.args.limit h c.read_header.new.lines c.read_nodes.new.lines (left c.read_header.new.src) (left c.read_nodes.new.src) _
    header.taken.reading c.in_err-nodes.ensures.fails))

pub returns-in_err-take-clause-reads : goal.returns-in_err-take-clause-reads
returns-in_err-take-clause-reads g c =
    let left = g.S.Source.left in
    let h = c.in_ok-header.header in
    let nodes = c.in_ok-nodes.nodes.items in
    let header = c.in_ok-header.ensures.reads in
    let mid = c.read_nodes.new.lines in
    let new = c.take.new.lines in
    let d = left c.take.new.src in
    let counted : c.count_uncovered-uncovered.result ≡ count_by is_uncovered nodes =
    c.count_uncovered-uncovered.ensures ∙ ap (λ (ns : List Node). count_by is_uncovered ns) c.as_slice.ensures.value in
    let p = err_from_is_err_and c.from_residual-in_err-take.result c.from_residual-in_err-take.ensures.1 in
    let fails = subst (λ (n : ℕ). FailsPart (line_part (whole_line (end_line n) EndLine)).grammar mid new (left c.read_nodes.new.src) d
    (refusal_of c.in_err-take.field-0.0)) counted
    c.in_err-take.ensures.reads in
    rw (p.1, p.2, same_refusal c.in_err-take.field-0.0)
    (tree_fails level_claims c.args.limit h c.args.lines.now c.read_header.new.lines new (left c.args.src.now) (left c.read_header.new.src) d _ header
    (end_fails level_claims c.args.limit h nodes c.read_header.new.lines mid new (left c.read_header.new.src) (left c.read_nodes.new.src) d _
    c.in_ok-nodes.ensures.nodes fails))

pub take-requires-clause-form : goal.take-requires-clause-form
take-requires-clause-form g c =
    let nodes = c.in_ok-nodes.nodes.items in
    let counted : c.count_uncovered-uncovered.result ≡ count_by is_uncovered nodes =
    c.count_uncovered-uncovered.ensures ∙ ap (λ (ns : List Node). count_by is_uncovered ns) c.as_slice.ensures.value in
    end_line_is_form c.count_uncovered-uncovered.result
    (omega (arith, counted, count_by-le-length is_uncovered nodes, c.in_ok-nodes.ensures.within, c.requires.at_most))

pub invariant_of-result : goal.invariant_of-result
invariant_of-result g c =
    let h = c.in_ok-header.header in
    let nodes = c.in_ok-nodes.nodes.items in
    tree_within c.args.limit MAX_NODES (record { heading = h; nodes = nodes }) c.requires.at_most
    (said_has_tree c.args.limit h nodes c.in_ok-header.ensures.reads.says c.in_ok-nodes.ensures.nodes.says)

pub returns-clause-reads : goal.returns-clause-reads
returns-clause-reads g c =
    let left = g.S.Source.left in
    let h = c.in_ok-header.header in
    let nodes = c.in_ok-nodes.nodes.items in
    let header = c.in_ok-header.ensures.reads in
    let mid = c.read_nodes.new.lines in
    let new = c.take.new.lines in
    let d = left c.take.new.src in
    let counted : c.count_uncovered-uncovered.result ≡ count_by is_uncovered nodes =
    c.count_uncovered-uncovered.ensures ∙ ap (λ (ns : List Node). count_by is_uncovered ns) c.as_slice.ensures.value in
    let end = subst (λ (n : ℕ). TakesPart (line_part (whole_line (end_line n) EndLine)) mid new (left c.read_nodes.new.src) d tt) counted
    c.in_ok-take.ensures.reads in
    let tree = tree_taken level_claims c.args.limit h nodes c.read_header.new.lines mid new (left c.read_header.new.src) (left c.read_nodes.new.src) d
    c.in_ok-nodes.ensures.nodes end in
    tree_file_taken c.args.limit h nodes c.args.lines.now new (left c.args.src.now) d
    (file_taken level_claims c.args.limit h nodes c.args.lines.now c.read_header.new.lines new (left c.args.src.now) (left c.read_header.new.src) d header tree)

pub returns-in_err-nodes-clause-wanting : goal.returns-in_err-nodes-clause-wanting
returns-in_err-nodes-clause-wanting g c =
    let left = g.S.Source.left in
    wants_if_err Cover (bytes_before c.args.lines.now (left c.args.src.now)) c.from_residual-in_err-nodes.result
    (header_begins Cover c.in_ok-header.header c.args.lines.now c.read_header.new.lines (left c.args.src.now) (left c.read_header.new.src)
    c.in_ok-header.ensures.reads)

pub returns-in_err-take-clause-wanting : goal.returns-in_err-take-clause-wanting
returns-in_err-take-clause-wanting g c =
    let left = g.S.Source.left in
    wants_if_err Cover (bytes_before c.args.lines.now (left c.args.src.now)) c.from_residual-in_err-take.result
    (header_begins Cover c.in_ok-header.header c.args.lines.now c.read_header.new.lines (left c.args.src.now) (left c.read_header.new.src)
    c.in_ok-header.ensures.reads)
