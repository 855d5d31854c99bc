use Rattle.std.proofs.Common.{pos, ◌*ℤ◌, to_z-of_z}
use Rattle.std.specs.Prelude.{FitsSigned}
use mir.Syntax.{w128}
use Rattle.rat_core.proofs.Compare.{small_fits, positive_small, twice_fits}
use Rattle.rat_core.proofs.Half.{over_double_written}
use Rattle.rat_core.proofs.frac.Frac.half.Goals as goal

pub returns-clause-halved : goal.returns-clause-halved
returns-clause-halved c =
    let n = c.self.inside.num in
    let d = c.self.inside.den in
    let d_small = positive_small d c.self.invariant.1 c.self.invariant.2 in
    let nf : FitsSigned w128 n = small_fits n c.self.invariant.0 in
    let df : FitsSigned w128 d = small_fits d d_small in
    let twice : FitsSigned w128 (pos 2 *ℤ d) = twice_fits d d_small in
    simp (to_z-of_z, ← c.self.view_is) (over_double_written n d c.self.invariant.1)
