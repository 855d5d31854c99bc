use Rattle.std.proofs.Common.{rules}
use Rattle.svg_pictures.proofs.Kept.{edge_kept, extent_kept}
use Rattle.svg_pictures.proofs.unfolding_picture.write_frame.Goals as goal

pub returns-clause-text : goal.returns-clause-text
returns-clause-text g c =
    let f = c.args.frame.now in
    let left = edge_kept c.edge.result f.left (record { sfits = c.edge.type_inv }) (search rules) c.edge.ensures in
    let top = edge_kept c.edge-2.result f.top (record { sfits = c.edge-2.type_inv }) (search rules) c.edge-2.ensures in
    let width = extent_kept c.extent.result f.left f.right (record { sfits = c.extent.type_inv }) (search rules) (search rules) c.extent.ensures in
    let height = extent_kept c.extent-2.result f.top f.bottom (record { sfits = c.extent-2.type_inv }) (search rules) (search rules) c.extent-2.ensures in
    rw (← left, ← top, ← width, ← height) c.write_first_line.ensures.text
