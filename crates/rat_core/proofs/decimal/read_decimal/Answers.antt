use Rattle.std.proofs.Common.{refl, sym, None, true≢false}
use Rattle.rat_core.proofs.Decimals.{read_some, read_no, read_none}
use Rattle.rat_core.proofs.decimal.read_decimal.Goals as goal

pub returns-then-starts_as_a_decimal-clause-some :
    goal.returns-then-starts_as_a_decimal-clause-some
returns-then-starts_as_a_decimal-clause-some c =
    read_some c.args.bytes.now c.digits_within.result c.args.bound c.ranges.bound.fits (c.if-starts_as_a_decimal.ensures.0 refl) c.digits_within.ensures

pub returns-then-starts_as_a_decimal-clause-none :
    goal.returns-then-starts_as_a_decimal-clause-none
returns-then-starts_as_a_decimal-clause-none c =
    read_none c.args.bytes.now c.digits_within.result c.args.bound
    (read_some c.args.bytes.now c.digits_within.result c.args.bound c.ranges.bound.fits (c.if-starts_as_a_decimal.ensures.0 refl) c.digits_within.ensures)

pub returns-else-starts_as_a_decimal-clause-some :
    goal.returns-else-starts_as_a_decimal-clause-some
returns-else-starts_as_a_decimal-clause-some c =
    read_no c.args.bytes.now c.args.bound c.ranges.bound.fits (λ s. true≢false (sym (c.if-starts_as_a_decimal.ensures.1 s)))

pub returns-else-starts_as_a_decimal-clause-none :
    goal.returns-else-starts_as_a_decimal-clause-none
returns-else-starts_as_a_decimal-clause-none c =
    read_none c.args.bytes.now None c.args.bound
    (read_no c.args.bytes.now c.args.bound c.ranges.bound.fits (λ s. true≢false (sym (c.if-starts_as_a_decimal.ensures.1 s))))
