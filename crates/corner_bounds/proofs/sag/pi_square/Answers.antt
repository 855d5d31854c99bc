use Rattle.std.proofs.Common.{refl, FitsSigned}
use Rattle.std.specs.Int.{w128}
use Rattle.std.proofs.lemmas.Int.{to_z-of_z}
use Rattle.corner_bounds.proofs.Units.{square_size, square_at_least, pi_at}
use Rattle.corner_bounds.proofs.sag.pi_square.Goals as goal

pub mul-requires-clause-first_factor : goal.mul-requires-clause-first_factor
mul-requires-clause-first_factor g c =
    let is = pi_at g.S.Scale.BITS g.S.Scale.PI_LO g.S.Scale.PI_HI c.PI_HI.result g.S.Scale.bits_in_range.1 g.S.Scale.pi_between g.S.Scale.one_unit
    c.PI_HI.ensures in
    let fits = is.fits in
    simp to_z-of_z is.size

pub mul-requires-clause-second_factor : goal.mul-requires-clause-second_factor
mul-requires-clause-second_factor g c =
    let is = pi_at g.S.Scale.BITS g.S.Scale.PI_LO g.S.Scale.PI_HI c.PI_HI-2.result g.S.Scale.bits_in_range.1 g.S.Scale.pi_between g.S.Scale.one_unit
    c.PI_HI-2.ensures in
    let fits = is.fits in
    simp to_z-of_z is.size

pub returns-clause-square : goal.returns-clause-square
returns-clause-square g c =
    let is = pi_at g.S.Scale.BITS g.S.Scale.PI_LO g.S.Scale.PI_HI g.S.Scale.PI_HI g.S.Scale.bits_in_range.1 g.S.Scale.pi_between g.S.Scale.one_unit refl in
    let fits = is.fits in
    let r : FitsSigned w128 c.mul.result = record { sfits = c.mul.type_inv } in
    simp to_z-of_z (simp to_z-of_z at (rw (c.PI_HI.ensures, c.PI_HI-2.ensures, c.BITS.ensures) at c.mul.ensures))

pub returns-clause-at_least : goal.returns-clause-at_least
returns-clause-at_least g c =
    let is = pi_at g.S.Scale.BITS g.S.Scale.PI_LO g.S.Scale.PI_HI g.S.Scale.PI_HI g.S.Scale.bits_in_range.1 g.S.Scale.pi_between g.S.Scale.one_unit refl in
    let fits = is.fits in
    let r : FitsSigned w128 c.mul.result = record { sfits = c.mul.type_inv } in
    simp to_z-of_z
    (square_at_least g.S.Scale.BITS g.S.Scale.PI_LO g.S.Scale.PI_HI c.mul.result g.S.Scale.pi_between g.S.Scale.one_unit
    (simp to_z-of_z at (rw (c.PI_HI.ensures, c.PI_HI-2.ensures, c.BITS.ensures) at c.mul.ensures)))

pub returns-clause-size : goal.returns-clause-size
returns-clause-size g c =
    let is = pi_at g.S.Scale.BITS g.S.Scale.PI_LO g.S.Scale.PI_HI g.S.Scale.PI_HI g.S.Scale.bits_in_range.1 g.S.Scale.pi_between g.S.Scale.one_unit refl in
    let fits = is.fits in
    let r : FitsSigned w128 c.mul.result = record { sfits = c.mul.type_inv } in
    simp to_z-of_z
    (square_size g.S.Scale.BITS g.S.Scale.PI_LO g.S.Scale.PI_HI c.mul.result g.S.Scale.bits_in_range.1 g.S.Scale.pi_between g.S.Scale.one_unit
    (simp to_z-of_z at (rw (c.PI_HI.ensures, c.PI_HI-2.ensures, c.BITS.ensures) at c.mul.ensures)))
