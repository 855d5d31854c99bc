use Rattle.std.proofs.Common.{◌≡◌, sym, subst, ap, ◌∙◌, ◌-◌, ◌*◌, ◌/◌, ◌^◌, pos, ◌+ℤ◌, ◌-ℤ◌}
use Rattle.std.proofs.lemmas.Int.{to_z-of_z}
use Rattle.std.proofs.lemmas.Nat.{pow_pos}
use Rattle.directed_fixed.specs.Ends.{Ends, Encloses, IsWithin}
use Rattle.sine_fixed.proofs.Errors.{shifted_encloses}
use Rattle.sine_fixed.proofs.Sizes.{shift_room, shifted_small, shifted_within, shifted_fit}
use Rattle.sine_fixed.proofs.series.enclosure.Given.{Over}
use Rattle.sine_fixed.proofs.series.enclosure.Goals as goal

ends_are : (g : Over) (c : goal.After-new g) → (let b = c.args.number / 2 ^ (60 - g.S.Scale.BITS) in c.new.result
    ≡ record { lo = pos b -ℤ pos 27; hi = pos b +ℤ pos 31 })
ends_are g c =
    let bits = g.S.Scale.BITS in
    let b = c.args.number / 2 ^ (60 - bits) in
    let fit = shifted_fit bits b g.S.Scale.bits_in_range.1 (shifted_small bits c.args.number g.S.Scale.bits_in_range.1 c.requires) in
    let units : c.from-units.result ≡ pos b = c.from-units.ensures ∙ ap (λ k. pos (c.args.number / 2 ^ (60 - k))) c.BITS.ensures in
    let number_fits = fit.0 in
    let lower_fits = fit.1 in
    let upper_fits = fit.2 in
    simp to_z-of_z at (simp units at c.new.ensures)

pub returns-clause-encloses : goal.returns-clause-encloses
returns-clause-encloses g c =
    let bits = g.S.Scale.BITS in
    λ v h.
    subst (λ (x : Ends). Encloses bits x v) (sym (ends_are g c))
    (shifted_encloses bits (60 - bits) c.args.number v (shift_room bits g.S.Scale.bits_in_range.1) (pow_pos (60 - bits)) h)

pub returns-clause-size : goal.returns-clause-size
returns-clause-size g c =
    let bits = g.S.Scale.BITS in
    subst (IsWithin (3 * 2 ^ bits)) (sym (ends_are g c))
    (shifted_within bits (c.args.number / 2 ^ (60 - bits)) g.S.Scale.bits_in_range.0 (shifted_small bits c.args.number g.S.Scale.bits_in_range.1 c.requires))
