-- The header, the nodes and the end line of a whole tree, or a prefix of them.
use Rattle.std.proofs.Common.{◌≡◌, refl, sym, subst, ℕ, ◌≤◌, Bool, true, false, not, arith}
use Rattle.std.proofs.lemmas.Result.{err_from_is_err_and}
use Rattle.std.specs.Io.KnownBytes.{Appends}
use Rattle.mcb_ends.specs.Bytes.{AppendsPrefix}
use Rattle.line_grammar.specs.Text.{with_newline, text_of}
use Rattle.covering_file.specs.FilePart.{file_lines}
use Rattle.covering_file.specs.Node.{end_line}
use Rattle.coverer.specs.Begun.{begun_lines}
use Rattle.coverer.proofs.Lines.{wrote_begun, wrote_whole, failed_in_header, failed_in_nodes, failed_in_end}
use Rattle.coverer.proofs.covering.write_file.Goals as goal

is_false : (b : Bool) → not b ≡ true → b ≡ false
is_false true is = sym is
is_false false is = refl

is_true : (b : Bool) → not b ≡ false → b ≡ true
is_true true is = refl
is_true false is = sym is

pub returns-in_err-write_header-clause-failed : goal.returns-in_err-write_header-clause-failed
returns-in_err-write_header-clause-failed g c =
    let k = g.K.Sink in
    let p = err_from_is_err_and c.from_residual.result c.from_residual.ensures.1 in
    rw p.1
    (failed_in_header c.args.limit (k.written c.args.out.now) (k.written c.write_header.new.out) c.args.header.now c.in_err-write_header.ensures.text)

pub returns-in_err-tree-clause-failed : goal.returns-in_err-tree-clause-failed
returns-in_err-tree-clause-failed g c =
    let k = g.K.Sink in
    let cut = c.in_err-tree.ensures.failed in
    let p = err_from_is_err_and c.from_residual-in_err-tree.result c.from_residual-in_err-tree.ensures.1 in
    rw p.1
    (failed_in_nodes c.args.limit (k.written c.args.out.now) (k.written c.write_header.new.out) (k.written c.write_nodes.new.out) c.args.header.now
    cut.0 cut.1 c.in_ok-write_header.ensures.text cut.2)

pub returns-then-not-tree-clause-covered : goal.returns-then-not-tree-clause-covered
returns-then-not-tree-clause-covered g c =
    let k = g.K.Sink in
    let h = c.args.header.now in
    let tree = c.in_ok-tree.ensures.written in
    let full = tree.full (is_false c.in_ok-tree.tree.is_whole c.if-not-tree.true) in (
      text_of (begun_lines h tree.nodes),
      record { nodes = tree.nodes; begun = tree.begun; answers = (tree.counted, full.0, full.1); is_text = refl },
      wrote_begun (k.written c.args.out.now) (k.written c.write_header.new.out) (k.written c.write_nodes.new.out) h tree.nodes
          c.in_ok-write_header.ensures.text tree.text,
    )

pub returns-in_err-write_end-clause-failed : goal.returns-in_err-write_end-clause-failed
returns-in_err-write_end-clause-failed g c =
    let k = g.K.Sink in
    let tree = c.in_ok-tree.ensures.written in
    let whole = is_true c.in_ok-tree.tree.is_whole c.if-not-tree.false in
    let p = err_from_is_err_and c.from_residual-in_err-write_end.result c.from_residual-in_err-write_end.ensures.1 in
    rw p.1
    (failed_in_end c.args.limit (k.written c.args.out.now) (k.written c.write_header.new.out) (k.written c.write_nodes.new.out)
    (k.written c.write_end.new.out) c.args.header.now tree.nodes tree.begun (tree.whole whole) c.in_ok-write_header.ensures.text tree.text
    (subst (λ (left : ℕ). AppendsPrefix (k.written c.write_nodes.new.out) (k.written c.write_end.new.out) (with_newline (end_line left))) tree.uncovered
    c.in_err-write_end.ensures.text))

pub returns-then-left-gt0-clause-covered : goal.returns-then-left-gt0-clause-covered
returns-then-left-gt0-clause-covered g c =
    let k = g.K.Sink in
    let h = c.args.header.now in
    let tree = c.in_ok-tree.ensures.written in
    let whole = is_true c.in_ok-tree.tree.is_whole c.if-not-tree.false in
    let some : 1 ≤ c.in_ok-tree.tree.left = omega (arith, c.if-left-gt0.true) in (
      text_of (file_lines h tree.nodes),
      record { nodes = tree.nodes; begun = tree.begun; answers = (tree.counted, tree.whole whole, tree.uncovered, some); is_text = refl },
      wrote_whole (k.written c.args.out.now) (k.written c.write_header.new.out) (k.written c.write_nodes.new.out) (k.written c.write_end.new.out) h tree.nodes
          c.in_ok-write_header.ensures.text tree.text
          (subst (λ (left : ℕ). Appends (k.written c.write_nodes.new.out) (k.written c.write_end.new.out) (with_newline (end_line left))) tree.uncovered
          c.in_ok-write_end.ensures.text),
    )

pub returns-clause-covered : goal.returns-clause-covered
returns-clause-covered g c =
    let k = g.K.Sink in
    let h = c.args.header.now in
    let tree = c.in_ok-tree.ensures.written in
    let whole = is_true c.in_ok-tree.tree.is_whole c.if-not-tree.false in (
      text_of (file_lines h tree.nodes),
      record {
        nodes = tree.nodes;
        begun = tree.begun;
        answers = (tree.counted, tree.whole whole, omega (arith, tree.uncovered, c.if-left-gt0.false));
        is_text = refl;
      },
      wrote_whole (k.written c.args.out.now) (k.written c.write_header.new.out) (k.written c.write_nodes.new.out) (k.written c.write_end.new.out) h tree.nodes
          c.in_ok-write_header.ensures.text tree.text
          (subst (λ (left : ℕ). Appends (k.written c.write_nodes.new.out) (k.written c.write_end.new.out) (with_newline (end_line left))) tree.uncovered
          c.in_ok-write_end.ensures.text),
    )
