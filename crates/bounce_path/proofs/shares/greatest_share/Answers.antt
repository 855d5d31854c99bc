use Rattle.std.proofs.Common.{ℤ, ◌-ℤ◌, FitsSigned, subst₂, sym, unsigned_abs}
use Rattle.std.specs.Int.{w128}
use Rattle.std.proofs.lemmas.Int.{to_z-of_z}
use Rattle.bounce_path.specs.Crossings.{IsRoundedUp}
use Rattle.bounce_path.proofs.Parts.{FitDifferences, differences_fit}
use Rattle.bounce_path.proofs.shares.greatest_share.Goals as goal

pub returns : goal.returns
returns c =
    let crossing = c.args.crossing.now in
    let level = c.args.level in
    let near = c.requires.near in
    let lower_is = c.lo-lower.ensures.value in
    let upper_is = c.lo-upper.ensures.value in
    let level_fits : FitsSigned w128 level = c.ranges.level in
    let lower_fits : FitsSigned w128 c.lo-lower.result = record { sfits = c.lo-lower.type_inv } in
    let upper_fits : FitsSigned w128 c.lo-upper.result = record { sfits = c.lo-upper.type_inv } in
    let fit : FitDifferences level c.lo-lower.result c.lo-upper.result =
    subst₂ (λ (m v : ℤ). FitDifferences level m v) (sym lower_is) (sym upper_is)
    (differences_fit level crossing.lower.lo crossing.upper.lo crossing.lower.hi crossing.upper.lo near.lower.small.low near.upper.small.low
    near.lower.small.high near.upper.small.low c.requires.inside.low c.requires.inside.high) in
    let rise_fits = fit.rise in
    let way_fits = fit.way in
    subst₂ (λ (m v : ℤ). IsRoundedUp (unsigned_abs (level -ℤ m)) (unsigned_abs (v -ℤ m)) c.greatest_parts.result) lower_is upper_is
    (simp to_z-of_z at c.greatest_parts.ensures)
