use Rattle.std.proofs.Common.{◌≡◌, true, refl, ◌<◌, length, slice_index_or, subst, sym, ap, arith}
use Rattle.rational_polygon.specs.Apart.{IsApart}
use Rattle.rational_polygon.proofs.Numbers.{all_behind}
use Rattle.rational_polygon.proofs.grid_box.GridBox.apart_region.Goals as goal

pub returns-then-not-apart : goal.returns-then-not-apart
returns-then-not-apart c = (
  λ h. absurd (cc),
  λ all.
      let k = c.loop-polygon.polygon-index in
      let within : k < length c.args.region.now = omega (arith, c.loop-polygon-test.true, ap length c.polygons-polygon-items.ensures.all) in
      let is : c.polygon-item.result ≡ slice_index_or c.args.region.now k c.polygon-item.result = cc in
      let here : IsApart c.args.self c.polygon-item.result = subst (IsApart c.args.self) (sym is) (all k c.polygon-item.result within) in
      let e : c.apart.result ≡ true = c.apart.ensures.1 here in cc,
)

pub loop-polygon-preserved : goal.loop-polygon-preserved
loop-polygon-preserved c =
    let k = c.loop-polygon.polygon-index in
    let within : k < length c.args.region.now = omega (arith, c.loop-polygon-test.true, ap length c.polygons-polygon-items.ensures.all) in
    let is : c.polygon-item.result ≡ slice_index_or c.args.region.now k c.polygon-item.result = cc in
    all_behind (IsApart c.args.self) c.args.region.now k c.polygon-item.result within is c.loop-polygon.invariant
    (c.apart.ensures.0 c.if-not-apart.false)

pub returns : goal.returns
returns c = (
  λ _ k d within. c.loop-polygon.invariant k d (omega (arith, within, c.loop-polygon-test.false, ap length c.polygons-polygon-items.ensures.all)),
  λ _. refl,
)
