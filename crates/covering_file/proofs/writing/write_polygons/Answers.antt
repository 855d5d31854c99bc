use Rattle.std.proofs.Common.{◌≡◌, ℕ, List, take, sym, ap, ◌∙◌, subst}
use Rattle.std.proofs.lemmas.List.{take_all}
use Rattle.std.specs.List.{flat_map}
use Rattle.std.specs.Io.KnownBytes.{Appends}
use Rattle.rational_polygon.specs.Outline.{Outline}
use Rattle.mcb_ends.specs.Bytes.{AppendsPrefix}
use Rattle.line_grammar.specs.Text.{text_of}
use Rattle.covering_file.specs.Header.{polygon_lines}
use Rattle.covering_file.proofs.Texts.{cut_in_blocks, text_of-blocks}
use Rattle.covering_file.proofs.writing.write_polygons.Goals as goal

pub returns-in_err-write_polygon-clause-text : goal.returns-in_err-write_polygon-clause-text
returns-in_err-write_polygon-clause-text g c =
    let k = g.K.Sink in
    let now = k.written c.loop-polygon.out in
    let new = k.written c.write_polygon.new.out in
    let item = c.polygon-item in
    let cut = subst (λ (o : Outline). AppendsPrefix now new (text_of (polygon_lines o))) item.is c.in_err-write_polygon.ensures.text in
    cut_in_blocks polygon_lines (k.written c.args.out.now) now new c.from_residual.result c.args.polygons.now c.loop-polygon.polygon-index
    item.result c.loop-polygon-test.true c.loop-polygon.invariant.text cut c.from_residual.ensures.0

pub returns-clause-text : goal.returns-clause-text
returns-clause-text g c =
    let k = g.K.Sink in
    let ps = c.args.polygons.now in
    let whole : flat_map (λ p. text_of (polygon_lines p)) (take c.loop-polygon.polygon-index ps) ≡ text_of (flat_map polygon_lines ps) =
    ap (flat_map (λ (p : Outline). text_of (polygon_lines p))) (take_all c.loop-polygon.polygon-index ps c.loop-polygon-test.false)
    ∙ sym (text_of-blocks polygon_lines ps) in
    subst (λ (text : List ℕ). Appends (k.written c.args.out.now) (k.written c.loop-polygon.out) text) whole c.loop-polygon.invariant.text
