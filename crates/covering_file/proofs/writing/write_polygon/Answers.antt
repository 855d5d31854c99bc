use Rattle.std.proofs.Common.{ℕ, List, length, map, codes, subst}
use Rattle.std.specs.Io.KnownBytes.{Appends}
use Rattle.mcb_ends.specs.Bytes.{AppendsPrefix, Writes}
use Rattle.mcb_ends.proofs.Written.{AppendsPrefix-begun, Writes-then, Writes-failed}
use Rattle.line_grammar.specs.Text.{named_line}
use Rattle.covering_file.specs.Header.{corner_line, polygon_lines}
use Rattle.line_grammar.specs.Text.{text_of, with_newline}
use Rattle.covering_file.proofs.writing.write_polygon.Goals as goal

pub returns-in_err-write_named-clause-text : goal.returns-in_err-write_named-clause-text
returns-in_err-write_named-clause-text g c =
    let k = g.K.Sink in
    let o = c.args.polygon.now in
    let old = k.written c.args.out.now in
    let new = k.written c.write_named.new.out in
    let begun = subst (λ (cs : List (ℕ × ℕ)). AppendsPrefix old new
    (with_newline (named_line (codes "polygon") (length cs)))) c.corners-corners.ensures.all c.in_err-write_named.ensures.text in
    Writes-failed old new c.from_residual.result (text_of (polygon_lines o)) c.from_residual.ensures.0
    (AppendsPrefix-begun old new (with_newline (named_line (codes "polygon") (length o.corners))) (text_of (map corner_line o.corners)) begun)

pub returns-clause-text : goal.returns-clause-text
returns-clause-text g c =
    let k = g.K.Sink in
    let o = c.args.polygon.now in
    let old = k.written c.args.out.now in
    let head = k.written c.write_named.new.out in
    let new = k.written c.write_corners.new.out in
    let result = c.write_corners.result in
    let counted = subst (λ (cs : List (ℕ × ℕ)). Appends old head
    (with_newline (named_line (codes "polygon") (length cs)))) c.corners-corners.ensures.all c.in_ok-write_named.ensures.text in
    let listed = subst (λ (cs : List (ℕ × ℕ)). Writes head new result
    (text_of (map corner_line cs))) c.corners-corners.ensures.all c.write_corners.ensures.text in
    Writes-then old head new result (with_newline (named_line (codes "polygon") (length o.corners))) (text_of (map corner_line o.corners)) counted listed
