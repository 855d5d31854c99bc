use Rattle.std.proofs.Common.{◌+◌, arith}
use Rattle.std.proofs.lemmas.Str.Parse.{digits_value-take-le}
use Rattle.rat_core.proofs.Decimals.{not_digits, digits_step}
use Rattle.rat_core.proofs.decimal.digits_within.Goals as goal

pub returns-then-not-is_ascii_digit : goal.returns-then-not-is_ascii_digit
returns-then-not-is_ascii_digit c = λ n. (
  (λ e. absurd (cc)),
  λ k. absurd
      (not_digits c.args.bytes.now c.loop-byte.byte-index c.loop-byte-test.true c.if-not-is_ascii_digit.ensures.value k.0),
)

pub returns-then-number-bound : goal.returns-then-number-bound
returns-then-number-bound c =
    let step = digits_step c.args.bytes.now c.loop-byte.byte-index c.loop-byte.number c.loop-byte-test.true c.if-not-is_ascii_digit.ensures.value
    c.loop-byte.invariant.0 c.loop-byte.invariant.1 in
    λ n. (
      (λ e. absurd (cc)),
      λ k. absurd (omega (
        arith,
        step.1,
        k.1,
        k.2,
        c.if-number-bound.true,
        c.from.ensures,
        c.from-bound.ensures,
        digits_value-take-le 10 c.args.bytes.now
            (c.loop-byte.byte-index + 1),
      )),
    )

pub loop-byte-preserved : goal.loop-byte-preserved
loop-byte-preserved c =
    let step = digits_step c.args.bytes.now c.loop-byte.byte-index c.loop-byte.number c.loop-byte-test.true c.if-not-is_ascii_digit.ensures.value
    c.loop-byte.invariant.0 c.loop-byte.invariant.1 in
    (step.0, omega (arith, step.1, c.from.ensures), omega (arith, c.if-number-bound.false))
