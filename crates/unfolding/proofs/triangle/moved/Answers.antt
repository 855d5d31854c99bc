use Rattle.std.proofs.Common.{sym, ap, ap₂, subst, ◌∙◌}
use Rattle.exp_sums.specs.FormalPoint.{monomial, ◌+ₚ◌}
use Rattle.exp_sums.specs.Limits.{IsWithinLimits}
use Rattle.unfolding.proofs.KeptTriangles.{sign_read, moved_in_limits}
use Rattle.unfolding.proofs.triangle.moved.Goals as goal

pub add_dir-requires : goal.add_dir-requires
add_dir-requires c =
    subst (λ s. IsWithinLimits (c.in_ok-to.to +ₚ monomial s c.args.dir)) (sym (sign_read c.args.minus c.sign.result c.sign.ensures))
    (moved_in_limits c.in_ok-to.to c.args.from.now c.args.minus c.args.dir c.in_ok-to.ensures c.requires.light c.requires.within c.requires.near)

pub returns : goal.returns
returns c =
    c.in_ok-add_dir.ensures.ok
    ∙ ap₂ ◌+ₚ◌ c.in_ok-to.ensures (ap (λ s. monomial s c.args.dir) (sign_read c.args.minus c.sign.result c.sign.ensures))
