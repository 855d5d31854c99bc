use Rattle.std.proofs.Common.{sym, subst₂, ◌∙◌, ◌^◌, pos, FitsSigned}
use Rattle.std.specs.Int.{w128}
use Rattle.std.proofs.Math.Path.{ap₂}
use Rattle.std.proofs.lemmas.Int.{to_z-of_z}
use Rattle.std.proofs.lemmas.Nat.{pow_pos}
use Rattle.directed_fixed.specs.Rounding.{IsRounded}
use Rattle.directed_fixed.specs.Ends.{outer, outer_product}
use Rattle.directed_fixed.proofs.Rounding.{outer_rounded}
use Rattle.directed_fixed.proofs.Sizes.{end_fits}
use Rattle.directed_fixed.proofs.interval.outer_product.Goals as goal

pub returns : goal.returns
returns g c =
    let up = g.D.Direction.UP in
    let bits = g.S.Scale.BITS in
    let x_lo = end_fits c.x.inside.lo c.x.invariant.in_range.low in
    let x_hi = end_fits c.x.inside.hi c.x.invariant.in_range.high in
    let y_lo = end_fits c.y.inside.lo c.y.invariant.in_range.low in
    let y_hi = end_fits c.y.inside.hi c.y.invariant.in_range.high in
    let first : FitsSigned w128 c.mul.result = record { sfits = c.mul.type_inv } in
    let second : FitsSigned w128 c.mul-2.result = record { sfits = c.mul-2.type_inv } in
    let third : FitsSigned w128 c.mul-3.result = record { sfits = c.mul-3.type_inv } in
    let fourth : FitsSigned w128 c.mul-4.result = record { sfits = c.mul-4.type_inv } in
    let at_lo : FitsSigned w128 c.outer-at_lo.result = record { sfits = c.outer-at_lo.type_inv } in
    let at_hi : FitsSigned w128 c.outer-at_hi.result = record { sfits = c.outer-at_hi.type_inv } in
    let last : FitsSigned w128 c.outer.result = record { sfits = c.outer.type_inv } in
    let at_lo_is = simp to_z-of_z at c.outer-at_lo.ensures in
    let at_hi_is = simp to_z-of_z at c.outer-at_hi.ensures in
    let outer_is = (simp to_z-of_z at c.outer.ensures) ∙ ap₂ (outer up) at_lo_is at_hi_is in
    let at_lo_rounded =
    outer_rounded up _ _ _ _ (2 ^ bits) (pow_pos bits)
    (simp (to_z-of_z, c.BITS.ensures) at c.mul.ensures) (simp (to_z-of_z, c.BITS-2.ensures) at c.mul-2.ensures)
    in
    let at_hi_rounded =
    outer_rounded up _ _ _ _ (2 ^ bits) (pow_pos bits)
    (simp (to_z-of_z, c.BITS-3.ensures) at c.mul-3.ensures) (simp (to_z-of_z, c.BITS-4.ensures) at c.mul-4.ensures)
    in
    simp to_z-of_z
    (subst₂ (λ q n. IsRounded up q n (pos (2 ^ bits))) (sym outer_is) (ap₂ (outer_product up) c.x.view_is c.y.view_is)
    (outer_rounded up _ _ _ _ (2 ^ bits) (pow_pos bits) at_lo_rounded at_hi_rounded))
