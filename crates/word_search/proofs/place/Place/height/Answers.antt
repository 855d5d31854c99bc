use Rattle.std.proofs.Common.{◌≡◌, refl, FitsSigned, arith}
use Rattle.std.specs.Int.{w64}
use Rattle.std.proofs.lemmas.Int.{to_z-of_z, fits_signed_from_abs}
use Rattle.word_search.proofs.Placed.{heights_fit}
use Rattle.word_search.proofs.place.Place.height.Goals as goal

pub overflow_sub-result : goal.overflow_sub-result
overflow_sub-result c =
    let s = c.args.shift in
    let p = c.args.self in
    let sx : FitsSigned w64 s.x = fits_signed_from_abs w64 s.x (omega (arith, c.requires.shift.x)) in
    let sy : FitsSigned w64 s.y = fits_signed_from_abs w64 s.y (omega (arith, c.requires.shift.y)) in
    let px : FitsSigned w64 p.x = fits_signed_from_abs w64 p.x (omega (arith, c.requires.place.x)) in
    let py : FitsSigned w64 p.y = fits_signed_from_abs w64 p.y (omega (arith, c.requires.place.y)) in
    let one : c.from.result ≡ s.x = simp to_z-of_z at c.from.ensures in
    let two : c.from-2.result ≡ p.y = simp to_z-of_z at c.from-2.ensures in
    let three : c.from-3.result ≡ s.y = simp to_z-of_z at c.from-3.ensures in
    let four : c.from-4.result ≡ p.x = simp to_z-of_z at c.from-4.ensures in
    let fits = heights_fit s p c.requires.shift c.requires.place in
    let a = fits.first in
    let b = fits.second in
    let d = fits.third in
    let e = fits.fourth in
    let m = fits.one in
    let n = fits.other in
    rw (one, two, three, four) (simp to_z-of_z fits.difference)

pub returns : goal.returns
returns c =
    let s = c.args.shift in
    let p = c.args.self in
    let sx : FitsSigned w64 s.x = fits_signed_from_abs w64 s.x (omega (arith, c.requires.shift.x)) in
    let sy : FitsSigned w64 s.y = fits_signed_from_abs w64 s.y (omega (arith, c.requires.shift.y)) in
    let px : FitsSigned w64 p.x = fits_signed_from_abs w64 p.x (omega (arith, c.requires.place.x)) in
    let py : FitsSigned w64 p.y = fits_signed_from_abs w64 p.y (omega (arith, c.requires.place.y)) in
    let one : c.from.result ≡ s.x = simp to_z-of_z at c.from.ensures in
    let two : c.from-2.result ≡ p.y = simp to_z-of_z at c.from-2.ensures in
    let three : c.from-3.result ≡ s.y = simp to_z-of_z at c.from-3.ensures in
    let four : c.from-4.result ≡ p.x = simp to_z-of_z at c.from-4.ensures in
    let fits = heights_fit s p c.requires.shift c.requires.place in
    let a = fits.first in
    let b = fits.second in
    let d = fits.third in
    let e = fits.fourth in
    let m = fits.one in
    let n = fits.other in
    let all = fits.difference in
    rw (one, two, three, four) (simp to_z-of_z refl)
