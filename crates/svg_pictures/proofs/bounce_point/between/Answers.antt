use Rattle.std.proofs.Common.{◌≡◌, ◌∙◌, ℤ, FitsSigned, sym, subst}
use Rattle.std.specs.Int.{w32, w128}
use Rattle.std.proofs.lemmas.Int.{to_z-of_z}
use Rattle.svg_pictures.specs.BouncePoints.{between}
use Rattle.svg_pictures.proofs.BouncePoints.{sum_computed, between_fits}
use Rattle.svg_pictures.proofs.bounce_point.between.Goals as goal

pub overflow_add-sum : goal.overflow_add-sum
overflow_add-sum c =
    let is = sum_computed c.args.start c.args.end c.args.share c.from.result c.from-2.result c.from-share.result c.requires c.ranges.start c.ranges.end
    c.from.ensures c.from-2.ensures c.from-share.ensures in
    let first_end = is.first_end in
    let second_end = is.second_end in
    let part = is.part in
    let rest = is.rest in
    let first = is.first in
    let second = is.second in
    simp to_z-of_z is.sum

pub overflow_add-sum-2 : goal.overflow_add-sum-2
overflow_add-sum-2 c =
    let is = sum_computed c.args.start c.args.end c.args.share c.from.result c.from-2.result c.from-share.result c.requires c.ranges.start c.ranges.end
    c.from.ensures c.from-2.ensures c.from-share.ensures in
    let first_end = is.first_end in
    let second_end = is.second_end in
    let part = is.part in
    let rest = is.rest in
    let first = is.first in
    let second = is.second in
    let sum = is.sum in
    simp to_z-of_z is.more

-- the quotient
quotient_is : (c : goal.After-div_euclid) → c.div_euclid.result ≡ between c.args.start c.args.end c.args.share
quotient_is c =
    let is = sum_computed c.args.start c.args.end c.args.share c.from.result c.from-2.result c.from-share.result c.requires c.ranges.start c.ranges.end
    c.from.ensures c.from-2.ensures c.from-share.ensures in
    let first_end = is.first_end in
    let second_end = is.second_end in
    let part = is.part in
    let rest = is.rest in
    let first = is.first in
    let second = is.second in
    let sum = is.sum in
    let more = is.more in
    (simp to_z-of_z at c.div_euclid.ensures) ∙ is.is

quotient_fits : (c : goal.After-div_euclid) → FitsSigned w32 c.div_euclid.result
quotient_fits c =
    subst (λ (z : ℤ). FitsSigned w32 z) (sym (quotient_is c)) (between_fits c.args.share c.requires c.args.start c.args.end c.ranges.start c.ranges.end)

pub overflow_cast-result : goal.overflow_cast-result
overflow_cast-result c =
    let wide : FitsSigned w128 c.div_euclid.result = record { sfits = c.div_euclid.type_inv } in
    simp to_z-of_z (quotient_fits c)

pub returns : goal.returns
returns c =
    let wide : FitsSigned w128 c.div_euclid.result = record { sfits = c.div_euclid.type_inv } in
    let narrow : FitsSigned w32 c.div_euclid.result = quotient_fits c in
    simp to_z-of_z (quotient_is c)
