use Rattle.std.proofs.Common.{subst₂, ◌*◌, ◌/◌, ◌^◌, sym, Fits}
use Rattle.std.specs.Int.{w64}
use Rattle.sine_fixed.proofs.Sizes.{product_fits}
use Rattle.sine_fixed.proofs.series.product.Goals as goal

pub overflow_cast-result-2 : goal.overflow_cast-result-2
overflow_cast-result-2 c =
    subst₂ (λ a b. Fits w64 (a * b / 2 ^ c.args.bits)) (sym c.from.ensures) (sym c.from-2.ensures)
    (product_fits c.args.a c.args.b c.args.bits c.requires.first_factor c.requires.second_factor c.requires.least_bits)
