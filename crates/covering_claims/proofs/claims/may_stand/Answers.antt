use Rattle.std.proofs.Common.{◌≡◌, ◌-◌, true, false, List, sym, subst}
use Rattle.rational_polygon.specs.Outline.{Outline}
use Rattle.rational_polygon.specs.Region.{IsApartFromRegion}
use Rattle.covering_claims.specs.Claims.{slacks_of}
use Rattle.covering_file.specs.declared.node.Node.{Node}
use Rattle.covering_file.specs.Sound.{IsSoundNode}
use Rattle.covering_claims.proofs.claims.may_stand.Goals as goal

pub returns-in-Outside-clause-sound : goal.returns-in-Outside-clause-sound
returns-in-Outside-clause-sound g c = λ passes.
    let apart = subst (λ (r : List Outline). IsApartFromRegion c.args.place r) c.region.ensures.value (c.apart_region.ensures.0 passes) in
    subst (λ (n : Node). IsSoundNode c.args.header.now (slacks_of g.S.Scale.LOW_BITS c.args.low) c.args.place n) (sym c.in-Outside.is) apart

pub returns-in-Outside-clause-refused : goal.returns-in-Outside-clause-refused
returns-in-Outside-clause-refused g c = λ refuses stands.
    let apart : IsApartFromRegion c.args.place c.args.header.now.region =
    subst (λ (n : Node). IsSoundNode c.args.header.now (slacks_of g.S.Scale.HIGH_BITS (c.args.low - 4)) c.args.place n) c.in-Outside.is stands in
    let passes : c.apart_region.result ≡ true =
    c.apart_region.ensures.1 (subst (λ (r : List Outline). IsApartFromRegion c.args.place r) (sym c.region.ensures.value) apart) in
    let fails : c.apart_region.result ≡ false = refuses in
    cc
