use Rattle.std.proofs.Common.{◌≤◌, length, ap, arith}
use Rattle.std.proofs.lemmas.Fmt.{length-decimal-le}
use Rattle.std.specs.Fmt.{decimal}
use Rattle.mcb_ends.proofs.decimal.Decimal.signed.Goals as goal

pub put_first-requires : goal.put_first-requires
put_first-requires c =
    let bound = c.unsigned_abs.ensures.bound in
    let size : length (decimal c.unsigned_abs.result) ≤ 19 = length-decimal-le 19 c.unsigned_abs.result (omega arith) (omega (arith, bound))
    (omega (arith, bound)) in
    omega (arith, size, ap length c.new-text.ensures)
