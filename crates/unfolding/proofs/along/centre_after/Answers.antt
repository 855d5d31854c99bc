use Rattle.std.proofs.Common.{◌≡◌, ◌≤◌, ◌*◌, length, sym, ap, subst, ◌∙◌, arith}
use Rattle.exp_sums.specs.Limits.{weight}
use Rattle.unfolding.specs.Kept.{IsSmall}
use Rattle.unfolding.specs.Triangle.{centre_of}
use Rattle.unfolding.proofs.Bounds.{weight-centre}
use Rattle.unfolding.proofs.KeptTriangles.{across_is, small_among_few}
use Rattle.unfolding.proofs.along.centre_after.Goals as goal

pub loop-edge-init : goal.loop-edge-init
loop-edge-init c = c.in_ok-triangle.ensures

pub across-requires-clause-small : goal.across-requires-clause-small
across-requires-clause-small c =
    subst IsSmall (sym c.loop-edge.invariant)
    (small_among_few c.args.letters.now c.loop-edge.edge-index c.requires.letters c.requires.few (omega arith))

pub loop-edge-preserved : goal.loop-edge-preserved
loop-edge-preserved c =
    across_is c.args.letters.now c.loop-edge.edge-index c.in_ok-triangle-2.triangle c.loop-edge-test.true
    (c.in_ok-triangle-2.ensures _ c.loop-edge.invariant)

centre_is : (c : goal.After-array_drop-triangle-2) → c.loop-edge.triangle.centre ≡ centre_of c.args.letters.now (length c.args.letters.now)
centre_is c =
    ap (λ t. t.centre) c.loop-edge.invariant
    ∙ ap (λ k. centre_of c.args.letters.now k) (omega (arith, c.loop-edge-test.false, c.loop-edge.auto.edge-index-end))

pub returns-clause-centre : goal.returns-clause-centre
returns-clause-centre c = centre_is c

pub returns-clause-light : goal.returns-clause-light
returns-clause-light c =
    subst (λ p. weight p ≤ 2 * length c.args.letters.now) (sym (centre_is c))
    (weight-centre c.args.letters.now (length c.args.letters.now) (omega arith))
