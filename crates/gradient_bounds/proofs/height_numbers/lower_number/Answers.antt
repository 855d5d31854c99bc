use Rattle.std.proofs.Common.{◌+◌, FitsSigned, ◌-ℤ◌, subst, arith}
use Rattle.std.specs.Int.{w128}
use Rattle.std.proofs.lemmas.Int.{to_z-of_z}
use Rattle.defining_functions.specs.Steps.{SharesEnd}
use Rattle.sine_fixed.proofs.Turning.{fits_128}
use Rattle.gradient_bounds.proofs.Stepping.{difference_fits, below_upper, lower_number_of}
use Rattle.gradient_bounds.proofs.height_numbers.lower_number.Goals as goal

pub returns-in-Upper : goal.returns-in-Upper
returns-in-Upper c =
    let w = c.args.functions.now in
    let table = c.args.table.now in
    let i = c.args.i in
    let upper = c.args.before.upper in
    let way = c.args.way in
    let shared = subst (SharesEnd w i) c.in-Upper.is c.requires.shared in
    let upper_fits : FitsSigned w128 upper = fits_128 upper (omega (arith, c.requires.before_small)) in
    let way_fits : FitsSigned w128 way = fits_128 way (omega (arith, c.requires.way.small)) in
    let fits : FitsSigned w128 (upper -ℤ way) = difference_fits upper way (omega (arith, c.requires.before_small)) c.requires.way.small in
    simp to_z-of_z
    (lower_number_of w table c.requires.word c.requires.shift c.requires.small (i + 1) c.requires.place (upper -ℤ way)
    (below_upper w table i way c.requires.way upper shared.1 (c.requires.before shared.0).upper))
