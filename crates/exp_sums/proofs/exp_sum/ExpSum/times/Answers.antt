use Rattle.std.proofs.Common.{◌*◌, ◌≤◌, [], map, ap, ap₂, ◌∙◌, arith}
use Rattle.std.specs.List.{flat_map}
use Rattle.exp_sums.specs.Terms.{put_terms}
use Rattle.exp_sums.specs.FormalPoint.{terms, point_of, term_product, ◌*ₚ◌}
use Rattle.exp_sums.specs.Limits.{weight, greatest_weight}
use Rattle.exp_sums.specs.Products.{SumsAreNear}
use Rattle.exp_sums.proofs.Listed.{light_product, near_product, kept_products, point_of_listed, point_of-products}
use Rattle.exp_sums.proofs.exp_sum.ExpSum.times.Goals as goal

pub put_products-requires-clause-light : goal.put_products-requires-clause-light
put_products-requires-clause-light c =
    let own = c.self.inside.terms.items in
    let others = c.other.inside.terms.items in
    let light : weight (point_of c.self.inside.terms.items) * weight (point_of c.other.inside.terms.items) ≤ greatest_weight =
    rw (c.self.view_is, c.other.view_is) c.requires.light in
    rw (c.new-terms.ensures.items, c.deref.ensures, c.deref-2.ensures) (omega (arith, light_product own others c.self.invariant c.other.invariant light))

pub put_products-requires-clause-near : goal.put_products-requires-clause-near
put_products-requires-clause-near c =
    let near : SumsAreNear (terms (point_of c.self.inside.terms.items)) (terms (point_of c.other.inside.terms.items)) =
    rw (c.self.view_is, c.other.view_is) c.requires.near in
    rw (c.deref.ensures, c.deref-2.ensures) (near_product c.self.inside.terms.items c.other.inside.terms.items c.self.invariant c.other.invariant near)

pub invariant_of-result : goal.invariant_of-result
invariant_of-result c =
    let light : weight (point_of c.self.inside.terms.items) * weight (point_of c.other.inside.terms.items) ≤ greatest_weight =
    rw (c.self.view_is, c.other.view_is) c.requires.light in
    let near : SumsAreNear (terms (point_of c.self.inside.terms.items)) (terms (point_of c.other.inside.terms.items)) =
    rw (c.self.view_is, c.other.view_is) c.requires.near in
    rw (c.in_ok-put_products.ensures, c.new-terms.ensures.items, c.deref.ensures, c.deref-2.ensures)
    (kept_products c.self.inside.terms.items c.other.inside.terms.items c.self.invariant c.other.invariant light near)

pub returns : goal.returns
returns c =
    let own = c.self.inside.terms.items in
    let others = c.other.inside.terms.items in
    ap point_of
    (rw (c.in_ok-put_products.ensures, c.new-terms.ensures.items, c.deref.ensures, c.deref-2.ensures)
    (λ i. put_terms (flat_map (λ t. map (term_product t) c.other.inside.terms.items) c.self.inside.terms.items) []))
    ∙ point_of_listed (flat_map (λ t. map (term_product t) others) own)
    ∙ point_of-products own others c.self.invariant.canonical c.other.invariant.canonical
    ∙ ap₂ ◌*ₚ◌ c.self.view_is c.other.view_is
