use Rattle.std.proofs.Common.{rules}
use Rattle.svg_pictures.proofs.Kept.{lesser_kept, greater_kept}
use Rattle.svg_pictures.proofs.frame.Frame.with.Goals as goal

pub returns : goal.returns
returns c =
    let f = c.args.self in
    let s = c.args.point in
    let left = lesser_kept c.min.result f.left s.across (record { sfits = c.min.type_inv }) (search rules) (search rules) c.min.ensures.value in
    let right = greater_kept c.max.result f.right s.across (record { sfits = c.max.type_inv }) (search rules) (search rules) c.max.ensures.value in
    let top = lesser_kept c.min-2.result f.top s.down (record { sfits = c.min-2.type_inv }) (search rules) (search rules) c.min-2.ensures.value in
    let bottom = greater_kept c.max-2.result f.bottom s.down (record { sfits = c.max-2.type_inv }) (search rules) (search rules) c.max-2.ensures.value in
    λ i. record { left = left i; right = right i; top = top i; bottom = bottom i }
