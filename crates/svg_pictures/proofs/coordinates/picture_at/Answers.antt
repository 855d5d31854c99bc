use Rattle.std.proofs.Common.{ℤ, ◌^◌, ◌≤◌, unsigned_abs, sym, subst, arith}
use Rattle.svg_pictures.proofs.PicturePoints.{picture_computed}
use Rattle.svg_pictures.proofs.Rounded.{kept, kept_is}
use Rattle.svg_pictures.proofs.coordinates.picture_at.Goals as goal

-- a small number as the machine keeps it
small : (z : ℤ) → unsigned_abs z ≤ 2 ^ 70 → unsigned_abs (kept z) ≤ 2 ^ 70
small z h = subst (λ (y : ℤ). unsigned_abs y ≤ 2 ^ 70) (sym (kept_is z h)) h

pub rounded-requires : goal.rounded-requires
rounded-requires c = let as_kept = small c.args.spot.x c.requires.x in let plain = c.requires.x in omega (arith, as_kept, plain)

pub rounded-requires-2 : goal.rounded-requires-2
rounded-requires-2 c = let as_kept = small c.args.spot.y c.requires.y in let plain = c.requires.y in omega (arith, as_kept, plain)

pub returns : goal.returns
returns c = λ at p light is.
    let first = c.rounded.ensures in
    let second = c.rounded-2.ensures in
    picture_computed at p c.args.spot c.rounded.result c.rounded-2.result light is (record { near = first.near; size = first.size })
    (record { near = second.near; size = second.size })
