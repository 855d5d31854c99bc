use Rattle.std.proofs.Common.{◌++◌, codes, ap, subst, List, ℕ, ◌≡◌, ◌∙◌}
use Rattle.mcb_ends.specs.Bytes.{AppendsPrefix}
use Rattle.std.specs.Io.KnownBytes.{Appends}
use Rattle.mcb_ends.proofs.Written.{AppendsPrefix-begun, AppendsPrefix-then, Writes-then, Writes-failed}
use Rattle.svg_pictures.specs.CoveringPicture.{corners_text, outline_end, outline_line}
use Rattle.svg_pictures.proofs.outlines.write_outline.Goals as goal

pub returns-in_err-put-clause-text : goal.returns-in_err-put-clause-text
returns-in_err-put-clause-text g c =
    let k = g.K.Sink in
    let o = c.args.polygon.now in
    let old = k.written c.args.out.now in
    let new = k.written c.put.new.out in
    Writes-failed old new c.from_residual.result (outline_line c.args.width o) c.from_residual.ensures.0
    (AppendsPrefix-begun old new (codes "<polygon points=\"") (corners_text o.grid o.corners ++ outline_end c.args.width) c.in_err-put.ensures.text)

pub returns-in_err-write_corners-clause-text : goal.returns-in_err-write_corners-clause-text
returns-in_err-write_corners-clause-text g c =
    let k = g.K.Sink in
    let o = c.args.polygon.now in
    let old = k.written c.args.out.now in
    let head = k.written c.put.new.out in
    let new = k.written c.write_corners.new.out in
    let end = outline_end c.args.width in
    let same : corners_text c.grid.result c.corners.result.now ≡ corners_text o.grid o.corners =
    ap (λ (n : ℕ). corners_text n c.corners.result.now) c.grid.ensures.value ∙ ap (λ (cs : List (ℕ × ℕ)). corners_text o.grid cs) c.corners.ensures.all in
    let cut = subst (λ (text : List ℕ). AppendsPrefix head new text) same c.in_err-write_corners.ensures.text in
    Writes-failed old new c.from_residual-in_err-write_corners.result (outline_line c.args.width o) c.from_residual-in_err-write_corners.ensures.0
    (AppendsPrefix-then old head new (codes "<polygon points=\"") (corners_text o.grid o.corners ++ end) c.in_ok-put.ensures.text
    (AppendsPrefix-begun head new (corners_text o.grid o.corners) end cut))

pub returns-clause-text : goal.returns-clause-text
returns-clause-text g c =
    let k = g.K.Sink in
    let o = c.args.polygon.now in
    let old = k.written c.args.out.now in
    let head = k.written c.put.new.out in
    let all = k.written c.write_corners.new.out in
    let new = k.written c.write_outline_end.new.out in
    let end = outline_end c.args.width in
    let same : corners_text c.grid.result c.corners.result.now ≡ corners_text o.grid o.corners =
    ap (λ (n : ℕ). corners_text n c.corners.result.now) c.grid.ensures.value ∙ ap (λ (cs : List (ℕ × ℕ)). corners_text o.grid cs) c.corners.ensures.all in
    let corners = subst (λ (text : List ℕ). Appends head all text) same c.in_ok-write_corners.ensures.text in
    Writes-then old head new c.write_outline_end.result (codes "<polygon points=\"") (corners_text o.grid o.corners ++ end) c.in_ok-put.ensures.text
    (Writes-then head all new c.write_outline_end.result (corners_text o.grid o.corners) end corners c.write_outline_end.ensures.text)
