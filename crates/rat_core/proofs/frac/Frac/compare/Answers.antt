use Rattle.std.proofs.Common.{◌∙◌, to_z-of_z, ◌*ℤ◌, int_cmp}
use Rattle.std.specs.Prelude.{FitsSigned}
use mir.Syntax.{w128}
use Rattle.rat_core.proofs.Compare.{order_of_written, small_fits, positive_small, product_fits}
use Rattle.rat_core.proofs.frac.Frac.compare.Goals as goal

pub returns : goal.returns
returns c =
    let n = c.self.inside.num in
    let d = c.self.inside.den in
    let m = c.other.inside.num in
    let e = c.other.inside.den in
    let d_small = positive_small d c.self.invariant.1 c.self.invariant.2 in
    let e_small = positive_small e c.other.invariant.1 c.other.invariant.2 in
    let nf : FitsSigned w128 n = small_fits n c.self.invariant.0 in
    let df : FitsSigned w128 d = small_fits d d_small in
    let mf : FitsSigned w128 m = small_fits m c.other.invariant.0 in
    let ef : FitsSigned w128 e = small_fits e e_small in
    let left : FitsSigned w128 (n *ℤ e) = product_fits n e c.self.invariant.0 e_small in
    let right : FitsSigned w128 (m *ℤ d) = product_fits m d c.other.invariant.0 d_small in
    rw (← c.self.view_is, ← c.other.view_is) (◌∙◌ {b = int_cmp (n *ℤ e) (m *ℤ d)} (simp to_z-of_z at c.cmp.ensures)
    (order_of_written n m d e c.self.invariant.1 c.other.invariant.1))
