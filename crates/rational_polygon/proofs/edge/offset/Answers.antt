use Rattle.std.proofs.Common.{◌^◌, ◌<◌, subst, unsigned_abs, ℤ}
use Rattle.rational_polygon.proofs.Bounds.{offset_small, offset_kept}
use Rattle.rational_polygon.proofs.edge.offset.Goals as goal

pub returns-clause-value : goal.returns-clause-value
returns-clause-value c =
    rw (c.from.ensures, c.num.ensures.value, c.from-2.ensures, c.den.ensures.value)
    (offset_kept c.args.grid c.args.at c.args.x.now.den c.args.x.now.num c.requires.grid c.requires.at c.requires.denominator
    (subst (λ (n : ℤ). unsigned_abs n < 2 ^ 60) c.num.ensures.value c.num.ensures.small))

pub returns-clause-small : goal.returns-clause-small
returns-clause-small c =
    let small = subst (λ (n : ℤ). unsigned_abs n < 2 ^ 60) c.num.ensures.value c.num.ensures.small in
    rw (
      c.from.ensures,
      c.num.ensures.value,
      c.from-2.ensures,
      c.den.ensures.value,
      offset_kept c.args.grid c.args.at c.args.x.now.den c.args.x.now.num c.requires.grid c.requires.at c.requires.denominator small,
    )
    (offset_small c.args.grid c.args.at c.args.x.now.den c.args.x.now.num c.requires.grid c.requires.at c.requires.denominator small)
