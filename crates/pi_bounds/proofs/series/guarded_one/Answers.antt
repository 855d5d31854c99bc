use Rattle.std.proofs.Common.{◌≡◌, sym, subst, ◌^◌, ◌*◌, pos}
use Rattle.directed_fixed.specs.Ends.{Ends, Encloses}
use Rattle.rat_core.specs.Fraction.{whole}
use Rattle.pi_bounds.specs.Narrow.{IsNarrow}
use Rattle.pi_bounds.proofs.Terms.{guarded_units, guarded_encloses, guarded_narrow}
use Rattle.pi_bounds.proofs.series.guarded_one.Goals as goal

pub returns-clause-encloses : goal.returns-clause-encloses
returns-clause-encloses g c =
    let bits = g.S.Scale.BITS in
    let is : c.new.result ≡ record { lo = pos (1024 * 2 ^ bits); hi = pos (1024 * 2 ^ bits) } =
    simp (c.BITS.ensures, guarded_units bits g.S.Scale.bits_in_range.1) at c.new.ensures
    in
    subst (λ (x : Ends). Encloses bits x (whole 1024)) (sym is) (guarded_encloses bits)

pub returns-clause-narrow : goal.returns-clause-narrow
returns-clause-narrow g c =
    let bits = g.S.Scale.BITS in
    let is : c.new.result ≡ record { lo = pos (1024 * 2 ^ bits); hi = pos (1024 * 2 ^ bits) } =
    simp (c.BITS.ensures, guarded_units bits g.S.Scale.bits_in_range.1) at c.new.ensures
    in
    subst IsNarrow (sym is) (guarded_narrow bits g.S.Scale.bits_in_range.1)
