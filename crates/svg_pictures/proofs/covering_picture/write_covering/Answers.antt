use Rattle.std.proofs.Common.{◌≡◌, ap, ◌∙◌, ℕ, List, subst}
use Rattle.std.specs.Io.KnownBytes.{Appends}
use Rattle.std.specs.List.{flat_map}
use Rattle.mcb_ends.specs.Bytes.{AppendsPrefix, Writes}
use Rattle.mcb_ends.proofs.Written.{AppendsPrefix-begun, AppendsPrefix-then, Writes-then, Writes-failed}
use Rattle.rational_polygon.specs.Square.{unit_square}
use Rattle.covering_file.specs.Header.{Heading}
use Rattle.svg_pictures.specs.CoveringPicture.{drawn, outline_line, covering_picture}
use Rattle.svg_pictures.specs.Spans.{stroke_of, view_line}
use Rattle.svg_pictures.specs.Svg.{last_line}
use Rattle.svg_pictures.proofs.CoveringPictures.{behind_leaves, behind_view, picture_is}
use Rattle.svg_pictures.proofs.covering_picture.write_covering.Goals as goal

pub returns-in_err-write_view-clause-text : goal.returns-in_err-write_view-clause-text
returns-in_err-write_view-clause-text g c t is =
    let k = g.K.Sink in
    let h = c.args.tree.now.heading in
    let span = c.span_of-span.result in
    let region = c.polygons-polygons.result.now in
    let old = k.written c.args.out.now in
    let new = k.written c.write_view.new.out in
    let same : region ≡ h.region = c.polygons-polygons.ensures.all ∙ c.region.ensures.value ∙ ap (λ (g : Heading). g.region) c.header.ensures.value in
    Writes-failed old new c.from_residual.result (covering_picture h t) c.from_residual.ensures.0
    (subst (λ (text : List ℕ). AppendsPrefix old new text) (picture_is h t span region c.span_of-span.ensures same)
    (AppendsPrefix-begun old new (view_line span) (behind_view span region t) c.in_err-write_view.ensures.text))

pub returns-in_err-write_leaves-clause-text : goal.returns-in_err-write_leaves-clause-text
returns-in_err-write_leaves-clause-text g c t is =
    let k = g.K.Sink in
    let h = c.args.tree.now.heading in
    let span = c.span_of-span.result in
    let region = c.polygons-polygons.result.now in
    let old = k.written c.args.out.now in
    let head = k.written c.write_view.new.out in
    let new = k.written c.write_leaves.new.out in
    let same : region ≡ h.region = c.polygons-polygons.ensures.all ∙ c.region.ensures.value ∙ ap (λ (g : Heading). g.region) c.header.ensures.value in
    Writes-failed old new c.from_residual-in_err-write_leaves.result (covering_picture h t) c.from_residual-in_err-write_leaves.ensures.0
    (subst (λ (text : List ℕ). AppendsPrefix old new text) (picture_is h t span region c.span_of-span.ensures same)
    (AppendsPrefix-then old head new (view_line span) (behind_view span region t) c.in_ok-write_view.ensures.text
    (AppendsPrefix-begun head new (drawn unit_square t) (behind_leaves span region) (c.in_err-write_leaves.ensures.text t is))))

pub returns-in_err-write_outlines-clause-text : goal.returns-in_err-write_outlines-clause-text
returns-in_err-write_outlines-clause-text g c t is =
    let k = g.K.Sink in
    let h = c.args.tree.now.heading in
    let span = c.span_of-span.result in
    let region = c.polygons-polygons.result.now in
    let old = k.written c.args.out.now in
    let head = k.written c.write_view.new.out in
    let body = k.written c.write_leaves.new.out in
    let new = k.written c.write_outlines.new.out in
    let same : region ≡ h.region = c.polygons-polygons.ensures.all ∙ c.region.ensures.value ∙ ap (λ (g : Heading). g.region) c.header.ensures.value in
    let cut = subst (λ (width : ℕ). AppendsPrefix body new (flat_map (outline_line width) region)) c.stroke.ensures c.in_err-write_outlines.ensures.text in
    Writes-failed old new c.from_residual-in_err-write_outlines.result (covering_picture h t) c.from_residual-in_err-write_outlines.ensures.0
    (subst (λ (text : List ℕ). AppendsPrefix old new text) (picture_is h t span region c.span_of-span.ensures same)
    (AppendsPrefix-then old head new (view_line span) (behind_view span region t) c.in_ok-write_view.ensures.text
    (AppendsPrefix-then head body new (drawn unit_square t) (behind_leaves span region) (c.in_ok-write_leaves.ensures.text t is)
    (AppendsPrefix-begun body new (flat_map (outline_line (stroke_of span)) region) last_line cut))))

pub returns-clause-text : goal.returns-clause-text
returns-clause-text g c t is =
    let k = g.K.Sink in
    let h = c.args.tree.now.heading in
    let span = c.span_of-span.result in
    let region = c.polygons-polygons.result.now in
    let old = k.written c.args.out.now in
    let head = k.written c.write_view.new.out in
    let body = k.written c.write_leaves.new.out in
    let lines = k.written c.write_outlines.new.out in
    let new = k.written c.write_last_line.new.out in
    let result = c.write_last_line.result in
    let same : region ≡ h.region = c.polygons-polygons.ensures.all ∙ c.region.ensures.value ∙ ap (λ (g : Heading). g.region) c.header.ensures.value in
    let outlines = subst (λ (width : ℕ). Appends body lines (flat_map (outline_line width) region)) c.stroke.ensures c.in_ok-write_outlines.ensures.text in
    subst (λ (text : List ℕ). Writes old new result text) (picture_is h t span region c.span_of-span.ensures same)
    (Writes-then old head new result (view_line span) (behind_view span region t) c.in_ok-write_view.ensures.text
    (Writes-then head body new result (drawn unit_square t) (behind_leaves span region) (c.in_ok-write_leaves.ensures.text t is)
    (Writes-then body lines new result (flat_map (outline_line (stroke_of span)) region) last_line outlines c.write_last_line.ensures.text)))
