use Rattle.std.proofs.Common.{◌∙◌, ap₂, ◌*ℤ◌, ◌^◌, ◌≤◌, unsigned_abs, int_cmp, arith}
use Rattle.rational_polygon.proofs.Bounds.{first_fits, second_fits, second_kept}
use Rattle.rational_polygon.proofs.Sides.{int_cmp-products}
use Rattle.rational_polygon.proofs.edge.side_of.Goals as goal

pub overflow_mul-left : goal.overflow_mul-left
overflow_mul-left c = first_fits c.steps.result c.offset.result c.steps.ensures.small c.offset.ensures.small

pub overflow_mul-left-2 : goal.overflow_mul-left-2
overflow_mul-left-2 c =
    let small : unsigned_abs c.den.result ≤ 2 ^ 21 = rw c.den.ensures.value c.requires.across in
    second_fits c.steps.result c.offset.result c.den.result c.steps.ensures.small c.offset.ensures.small small

pub overflow_mul-right : goal.overflow_mul-right
overflow_mul-right c = first_fits c.steps-2.result c.offset-2.result c.steps-2.ensures.small c.offset-2.ensures.small

pub overflow_mul-right-2 : goal.overflow_mul-right-2
overflow_mul-right-2 c =
    let small : unsigned_abs c.den-2.result ≤ 2 ^ 21 = rw c.den-2.ensures.value c.requires.up in
    second_fits c.steps-2.result c.offset-2.result c.den-2.result c.steps-2.ensures.small c.offset-2.ensures.small small

pub returns : goal.returns
returns c =
    let left_small : unsigned_abs c.den.result ≤ 2 ^ 21 = rw c.den.ensures.value c.requires.across in
    let right_small : unsigned_abs c.den-2.result ≤ 2 ^ 21 = rw c.den-2.ensures.value c.requires.up in
    c.cmp.ensures
    ∙ ap₂ int_cmp
    (second_kept c.steps.result c.offset.result c.den.result c.steps.ensures.small c.offset.ensures.small left_small
    ∙ ap₂ ◌*ℤ◌ (ap₂ ◌*ℤ◌ c.steps.ensures.value c.offset.ensures.value) c.den.ensures.value)
    (second_kept c.steps-2.result c.offset-2.result c.den-2.result c.steps-2.ensures.small c.offset-2.ensures.small right_small
    ∙ ap₂ ◌*ℤ◌ (ap₂ ◌*ℤ◌ c.steps-2.ensures.value c.offset-2.ensures.value) c.den-2.ensures.value)
    ∙ int_cmp-products c.args.grid c.args.a c.args.b c.args.x.now.num c.args.y.now.num c.args.x.now.den c.args.y.now.den
    (omega arith) c.den.ensures.positive c.den-2.ensures.positive
