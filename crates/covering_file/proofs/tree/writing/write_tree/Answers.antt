use Rattle.std.proofs.Common.{ℕ, List, ◌++◌, map, subst, sym}
use Rattle.std.specs.Io.KnownBytes.{Appends}
use Rattle.mcb_ends.specs.Bytes.{AppendsPrefix, Writes}
use Rattle.mcb_ends.proofs.Written.{AppendsPrefix-begun, AppendsPrefix-then, Writes-then, Writes-failed}
use Rattle.line_grammar.specs.Text.{text_of, with_newline}
use Rattle.covering_file.specs.declared.file_kind.FileKind.TheVariants.{Cover}
use Rattle.covering_file.specs.declared.node.Node.{Node}
use Rattle.covering_file.specs.FilePart.{due_end}
use Rattle.covering_file.specs.Header.{Heading, header_text}
use Rattle.covering_file.specs.Node.{node_line, end_line}
use Rattle.covering_file.specs.TreeFile.{tree_file_text}
use Rattle.covering_file.proofs.TreeText.{file_lines-parts}
use Rattle.covering_file.proofs.tree.writing.write_tree.Goals as goal

pub returns-in_err-write_header-clause-text : goal.returns-in_err-write_header-clause-text
returns-in_err-write_header-clause-text g c =
    let k = g.K.Sink in
    let h = c.args.tree.now.heading in
    let nodes = c.args.tree.now.nodes in
    let old = k.written c.args.out.now in
    let new = k.written c.write_header.new.out in
    let result = c.from_residual.result in
    let cut = subst (λ (g : Heading). AppendsPrefix old new (header_text Cover g)) c.header.ensures.value c.in_err-write_header.ensures.text in
    Writes-failed old new result (tree_file_text c.args.tree.now) c.from_residual.ensures.0
    (subst (λ (text : List ℕ). AppendsPrefix old new text) (sym (file_lines-parts h nodes))
    (AppendsPrefix-begun old new (header_text Cover h) (text_of (map node_line nodes) ++ with_newline (due_end nodes)) cut))

pub returns-in_err-write_nodes-clause-text : goal.returns-in_err-write_nodes-clause-text
returns-in_err-write_nodes-clause-text g c =
    let k = g.K.Sink in
    let h = c.args.tree.now.heading in
    let nodes = c.args.tree.now.nodes in
    let old = k.written c.args.out.now in
    let mid = k.written c.write_header.new.out in
    let new = k.written c.write_nodes.new.out in
    let result = c.from_residual-in_err-write_nodes.result in
    let header = subst (λ (g : Heading). Appends old mid (header_text Cover g)) c.header.ensures.value c.in_ok-write_header.ensures.text in
    let cut = subst (λ (ns : List Node). AppendsPrefix mid new (text_of (map node_line ns))) c.nodes.ensures.all c.in_err-write_nodes.ensures.text in
    Writes-failed old new result (tree_file_text c.args.tree.now) c.from_residual-in_err-write_nodes.ensures.0
    (subst (λ (text : List ℕ). AppendsPrefix old new text) (sym (file_lines-parts h nodes))
    (AppendsPrefix-then old mid new (header_text Cover h) (text_of (map node_line nodes) ++ with_newline (due_end nodes)) header
    (AppendsPrefix-begun mid new (text_of (map node_line nodes)) (with_newline (due_end nodes)) cut)))

pub returns-clause-text : goal.returns-clause-text
returns-clause-text g c =
    let k = g.K.Sink in
    let h = c.args.tree.now.heading in
    let nodes = c.args.tree.now.nodes in
    let old = k.written c.args.out.now in
    let mid = k.written c.write_header.new.out in
    let last = k.written c.write_nodes.new.out in
    let new = k.written c.write_end.new.out in
    let result = c.write_end.result in
    let header = subst (λ (g : Heading). Appends old mid (header_text Cover g)) c.header.ensures.value c.in_ok-write_header.ensures.text in
    let tree = subst (λ (ns : List Node). Appends mid last (text_of (map node_line ns))) c.nodes.ensures.all c.in_ok-write_nodes.ensures.text in
    let end = subst (λ (n : ℕ). Writes last new result (with_newline (end_line n))) c.uncovered.ensures c.write_end.ensures.text in
    subst (λ (text : List ℕ). Writes old new result text) (sym (file_lines-parts h nodes))
    (Writes-then old mid new result (header_text Cover h) (text_of (map node_line nodes) ++ with_newline (due_end nodes)) header
    (Writes-then mid last new result (text_of (map node_line nodes)) (with_newline (due_end nodes)) tree end))
