use Rattle.std.proofs.Common.{◌≡◌, sym, subst, ap₂, ◌∙◌, ◌^◌, ◌*◌, ◌≤◌, true, ℤ, pos, ◌+ℤ◌, ◌-ℤ◌, ◌≤ℤ◌, unsigned_abs, FitsSigned}
use Rattle.std.proofs.lemmas.Int.{to_z-of_z}
use Rattle.std.specs.Int.{w128}
use Rattle.directed_fixed.specs.Ends.{Ends, Encloses, IsWithin}
use Rattle.sine_fixed.specs.ReferenceAngle.{signed_value}
use Rattle.sine_fixed.proofs.Negative.{negative_of, negative_encloses, negative_width, negative_within, negative_fits}
use Rattle.sine_fixed.proofs.series.with_sign.Given.{Over}
use Rattle.sine_fixed.proofs.series.with_sign.Goals as goal

ends_are : (g : Over) (c : goal.After-new g) → c.new.result ≡ negative_of c.args.x
ends_are g c =
    let lower : FitsSigned w128 c.lo.result = record { sfits = c.lo.type_inv } in
    let upper : FitsSigned w128 c.hi.result = record { sfits = c.hi.type_inv } in
    let lower_size : unsigned_abs c.lo.result ≤ 2 ^ 100 = subst (λ z. unsigned_abs z ≤ 2 ^ 100) (sym c.lo.ensures.value) c.lo.ensures.interval.in_range.low in
    let upper_size : unsigned_abs c.hi.result ≤ 2 ^ 100 = subst (λ z. unsigned_abs z ≤ 2 ^ 100) (sym c.hi.ensures.value) c.hi.ensures.interval.in_range.high in
    let lower_negative = negative_fits c.lo.result lower_size in
    let upper_negative = negative_fits c.hi.result upper_size in
    let is : c.new.result ≡ record { lo = pos 0 -ℤ c.hi.result; hi = pos 0 -ℤ c.lo.result } = simp to_z-of_z at c.new.ensures in
    let of : ℤ → ℤ → Ends = λ h l. record { lo = pos 0 -ℤ h; hi = pos 0 -ℤ l } in
    is ∙ ap₂ of c.hi.ensures.value c.lo.ensures.value

pub returns-then-negative-clause-encloses : goal.returns-then-negative-clause-encloses
returns-then-negative-clause-encloses g c =
    λ u h.
    subst (λ b. Encloses g.S.Scale.BITS c.new.result (signed_value b u)) (sym c.if-negative.true)
    (subst (λ (x : Ends). Encloses g.S.Scale.BITS x (signed_value true u)) (sym (ends_are g c)) (negative_encloses g.S.Scale.BITS c.args.x u h))

pub returns-then-negative-clause-width : goal.returns-then-negative-clause-width
returns-then-negative-clause-width g c =
    λ w h. subst (λ (x : Ends). x.hi ≤ℤ (x.lo +ℤ pos w)) (sym (ends_are g c)) (negative_width c.args.x w h)

pub returns-then-negative-clause-size : goal.returns-then-negative-clause-size
returns-then-negative-clause-size g c =
    subst (IsWithin (3 * 2 ^ g.S.Scale.BITS)) (sym (ends_are g c)) (negative_within (3 * 2 ^ g.S.Scale.BITS) c.args.x c.requires)
