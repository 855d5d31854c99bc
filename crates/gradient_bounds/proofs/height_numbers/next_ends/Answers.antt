use Rattle.std.proofs.Common.{◌+◌, FitsSigned, ◌+ℤ◌, arith}
use Rattle.std.specs.Int.{w128}
use Rattle.std.proofs.lemmas.Int.{to_z-of_z}
use Rattle.sine_fixed.proofs.Turning.{fits_128}
use Rattle.gradient_bounds.proofs.Stepping.{sum_fits, above_lower, upper_number_of}
use Rattle.gradient_bounds.proofs.height_numbers.next_ends.Goals as goal

pub returns : goal.returns
returns c =
    let w = c.args.functions.now in
    let table = c.args.table.now in
    let i = c.args.i in
    let lower = c.lower_number-lower.result in
    let way = c.args.way in
    let is = c.lower_number-lower.ensures in
    let lower_fits : FitsSigned w128 lower = fits_128 lower (omega (arith, is.small)) in
    let way_fits : FitsSigned w128 way = fits_128 way (omega (arith, c.requires.way.small)) in
    let fits : FitsSigned w128 (lower +ℤ way) = sum_fits lower way (omega (arith, is.small)) c.requires.way.small in
    simp to_z-of_z (record {
      upper = upper_number_of w table c.requires.word c.requires.shift c.requires.small (i + 1) c.requires.place (lower +ℤ way)
          (above_lower w table i way c.requires.way lower is);
      lower = is;
    })
