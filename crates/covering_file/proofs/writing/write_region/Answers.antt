use Rattle.std.proofs.Common.{◌≡◌, ℕ, List, ◌++◌, length, codes, sym, ◌∙◌, subst}
use Rattle.std.specs.List.{flat_map}
use Rattle.std.specs.Io.KnownBytes.{Appends}
use Rattle.rational_polygon.specs.Outline.{Outline}
use Rattle.rational_polygon.specs.Region.{grid_of}
use Rattle.mcb_ends.specs.Bytes.{AppendsPrefix, Writes}
use Rattle.mcb_ends.proofs.Written.{AppendsPrefix-begun, AppendsPrefix-then, Writes-then, Writes-failed}
use Rattle.line_grammar.specs.Text.{named_line, text_of, with_newline}
use Rattle.covering_file.specs.Header.{polygon_lines, count_lines, region_lines}
use Rattle.covering_file.proofs.Texts.{region_text-parts, first_grid}
use Rattle.covering_file.proofs.writing.write_region.Goals as goal

pub returns-in_err-write_named-clause-text : goal.returns-in_err-write_named-clause-text
returns-in_err-write_named-clause-text g c =
    let k = g.K.Sink in
    let r = c.args.region.now in
    let v = c.args.version in
    let old = k.written c.args.out.now in
    let new = k.written c.write_named.new.out in
    let grid : c.grid.result ≡ grid_of r = c.grid.ensures.value
    ∙ first_grid r c.polygons-polygons.result.now c.index-polygons-0.result c.polygons-polygons.ensures.all c.polygons-polygons.ensures.is_region.count.0
    c.index-polygons-0.is in
    let first = with_newline (named_line (codes "grid") (grid_of r)) in
    let behind = text_of (count_lines v (length r)) ++ text_of (flat_map polygon_lines r) in
    let begun = subst (λ (n : ℕ). AppendsPrefix old new (with_newline (named_line (codes "grid") n))) grid c.in_err-write_named.ensures.text in
    Writes-failed old new c.from_residual.result (text_of (region_lines v r)) c.from_residual.ensures.0
    (subst (λ (text : List ℕ). AppendsPrefix old new text) (sym (region_text-parts v r)) (AppendsPrefix-begun old new first behind begun))

pub returns-in_err-write_count-clause-text : goal.returns-in_err-write_count-clause-text
returns-in_err-write_count-clause-text g c =
    let k = g.K.Sink in
    let r = c.args.region.now in
    let v = c.args.version in
    let old = k.written c.args.out.now in
    let head = k.written c.write_named.new.out in
    let new = k.written c.write_count.new.out in
    let grid : c.grid.result ≡ grid_of r = c.grid.ensures.value
    ∙ first_grid r c.polygons-polygons.result.now c.index-polygons-0.result c.polygons-polygons.ensures.all c.polygons-polygons.ensures.is_region.count.0
    c.index-polygons-0.is in
    let first = with_newline (named_line (codes "grid") (grid_of r)) in
    let count = text_of (count_lines v (length r)) in
    let behind = text_of (flat_map polygon_lines r) in
    let whole = subst (λ (n : ℕ). Appends old head (with_newline (named_line (codes "grid") n))) grid c.in_ok-write_named.ensures.text in
    let begun = subst (λ (ps : List Outline). AppendsPrefix head new (text_of (count_lines v (length ps)))) c.polygons-polygons.ensures.all
    c.in_err-write_count.ensures.text in
    Writes-failed old new c.from_residual-in_err-write_count.result (text_of (region_lines v r)) c.from_residual-in_err-write_count.ensures.0
    (subst (λ (text : List ℕ). AppendsPrefix old new text) (sym (region_text-parts v r))
    (AppendsPrefix-then old head new first (count ++ behind) whole (AppendsPrefix-begun head new count behind begun)))

pub returns-clause-text : goal.returns-clause-text
returns-clause-text g c =
    let k = g.K.Sink in
    let r = c.args.region.now in
    let v = c.args.version in
    let old = k.written c.args.out.now in
    let head = k.written c.write_named.new.out in
    let body = k.written c.write_count.new.out in
    let new = k.written c.write_polygons.new.out in
    let result = c.write_polygons.result in
    let grid : c.grid.result ≡ grid_of r = c.grid.ensures.value
    ∙ first_grid r c.polygons-polygons.result.now c.index-polygons-0.result c.polygons-polygons.ensures.all c.polygons-polygons.ensures.is_region.count.0
    c.index-polygons-0.is in
    let first = with_newline (named_line (codes "grid") (grid_of r)) in
    let count = text_of (count_lines v (length r)) in
    let behind = text_of (flat_map polygon_lines r) in
    let whole = subst (λ (n : ℕ). Appends old head (with_newline (named_line (codes "grid") n))) grid c.in_ok-write_named.ensures.text in
    let counted = subst (λ (ps : List Outline). Appends head body (text_of (count_lines v (length ps)))) c.polygons-polygons.ensures.all
    c.in_ok-write_count.ensures.text in
    let listed = subst (λ (ps : List Outline). Writes body new result (text_of (flat_map polygon_lines ps))) c.polygons-polygons.ensures.all
    c.write_polygons.ensures.text in
    subst (λ (text : List ℕ). Writes old new result text) (sym (region_text-parts v r))
    (Writes-then old head new result first (count ++ behind) whole (Writes-then head body new result count behind counted listed))
