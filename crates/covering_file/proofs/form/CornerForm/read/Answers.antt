use Rattle.std.proofs.Common.{◌≡◌, true}
use Rattle.covering_file.proofs.CornerForms.{corner_read, first_not_read, second_not_read}
use Rattle.covering_file.proofs.form.CornerForm.read.Goals as goal

pub returns-in_default-2 : goal.returns-in_default-2
returns-in_default-2 c =
    let fields = c.in-Some.ensures.found in (
      (c.in-Some.x.now, c.in-Some.y.now, fields),
      second_not_read c.args.line.now c.in-Some.x.now c.in-Some.y.now c.read_decimal-2.result fields
          c.read_decimal-2.ensures.some c.in_default-2.is-1,
    )

pub returns-in_default-2-2 : goal.returns-in_default-2-2
returns-in_default-2-2 c =
    let fields = c.in-Some.ensures.found in (
      (c.in-Some.x.now, c.in-Some.y.now, fields),
      first_not_read c.args.line.now c.in-Some.x.now c.in-Some.y.now c.read_decimal.result fields
          c.read_decimal.ensures.some c.in_default-2.is-0,
    )

pub returns-else-is_inside : goal.returns-else-is_inside
returns-else-is_inside c =
    let fields = c.in-Some.ensures.found in
    let a = c.in-Some-Some.x in let b = c.in-Some-Some.y in (
      (a, b),
      corner_read c.args.line.now c.in-Some.x.now c.in-Some.y.now a b fields ((c.read_decimal.ensures.some a).0 c.in-Some-Some.is-0)
          ((c.read_decimal-2.ensures.some b).0 c.in-Some-Some.is-1),
      λ inside. let true_is : c.is_inside.result ≡ true = c.is_inside.ensures.1 inside in cc,
    )
