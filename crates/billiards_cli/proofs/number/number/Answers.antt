use Rattle.std.proofs.Common.{◌<◌, ◌^◌, arith}
use Rattle.billiards_cli.proofs.Numbers.{read_is}
use Rattle.billiards_cli.proofs.number.number.Goals as goal

pub returns : goal.returns
returns c = let fits : c.args.bound < 2 ^ 32 = omega arith in read_is c.args.bound c.args.text.now c.read_decimal.result fits
    c.read_decimal.ensures.some c.read_decimal.ensures.none
