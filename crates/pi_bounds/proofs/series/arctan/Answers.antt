use Rattle.std.proofs.Common.{subst, add-one, sym}
use Rattle.pi_bounds.proofs.Terms.{SoFar, first, next}
use Rattle.pi_bounds.proofs.series.arctan.Goals as goal

pub loop-j-init : goal.loop-j-init
loop-j-init g c =
    first g.S.Scale.BITS c.args.k c.guarded_one.result c.part-power.result c.requires.base.0 c.guarded_one.ensures.encloses
    c.part-power.ensures.encloses c.part-power.ensures.narrow

pub loop-j-preserved : goal.loop-j-preserved
loop-j-preserved g c =
    subst (λ n. SoFar g.S.Scale.BITS c.args.k n c.part-power-in-loop-j.result c.with_term-sum.result) (sym (add-one c.loop-j.j))
    (next g.S.Scale.BITS c.args.k c.loop-j.j c.loop-j.power c.loop-j.sum c.part-power-in-loop-j.result c.part.result c.with_term-sum.result
    c.requires.base.0 c.loop-j.invariant
    c.part-power-in-loop-j.ensures.encloses c.part-power-in-loop-j.ensures.narrow c.part.ensures.encloses c.with_term-sum.ensures.encloses
    c.with_term-sum.ensures.width c.with_term-sum.ensures.size)
