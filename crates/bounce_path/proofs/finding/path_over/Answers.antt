use Rattle.std.proofs.Common.{◌≡◌, ℤ, FitsSigned, sym, subst}
use Rattle.std.specs.Int.{w128}
use Rattle.std.specs.List.{All}
use Rattle.std.proofs.lemmas.Int.{to_z-of_z}
use Rattle.bounce_path.specs.Crossings.{IsWellInside, AreBounces}
use Rattle.bounce_path.specs.Path.{BouncePath, IsPath}
use Rattle.bounce_path.proofs.Found.{all_inside, level_fits, all_on_edge, is_path, not_found}
use Rattle.bounce_path.proofs.finding.path_over.Goals as goal

pub returns-in_default-clause-not_shown : goal.returns-in_default-clause-not_shown
returns-in_default-clause-not_shown c = λ refused w x y are. not_found w x y c.args.crossings.now c.gap_of.result are c.gap_of.ensures c.in_default.ensures

pub bounces_at-requires-clause-inside : goal.bounces_at-requires-clause-inside
bounces_at-requires-clause-inside c =
    let crossings = c.args.crossings.now in
    let level = c.in-Some.level in
    let fits = level_fits crossings c.gap_of.result level c.requires.some c.requires.near c.gap_of.ensures c.in-Some.ensures in
    subst (λ (h : ℤ). All (λ x. IsWellInside x h) crossings) (sym (to_z-of_z w128 level fits))
    (all_inside crossings c.gap_of.result level c.gap_of.ensures c.in-Some.ensures)

pub new-requires : goal.new-requires
new-requires c = all_on_edge _ c.args.crossings.now c.in_ok-bounces.bounces.items c.in_ok-bounces.ensures

pub returns-clause-path : goal.returns-clause-path
returns-clause-path c = λ w x y word stable are.
    let crossings = c.args.crossings.now in
    let level = c.in-Some.level in
    let bounces = c.in_ok-bounces.bounces.items in
    let fits : FitsSigned w128 level = level_fits crossings c.gap_of.result level c.requires.some c.requires.near c.gap_of.ensures c.in-Some.ensures in
    let found : AreBounces level crossings bounces = simp to_z-of_z at c.in_ok-bounces.ensures in
    let made : IsPath w x y (record { level = level; bounces = bounces }) =
    is_path w x y crossings c.gap_of.result level bounces word stable are c.gap_of.ensures c.in-Some.ensures found in
    let is : c.new.result ≡ record { level = level; bounces = bounces } = simp to_z-of_z at c.new.ensures in
    subst (λ (p : BouncePath). IsPath w x y p) (sym is) made
