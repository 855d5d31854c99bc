use Rattle.std.proofs.Common.{◌≡◌, ◌∙◌, List, [], ◌∷◌, ap, sym, subst}
use Rattle.rational_polygon.specs.Outline.{Outline}
use Rattle.rational_polygon.specs.Region.{IsRegion}
use Rattle.billiards_cli.specs.Jobs.{job_outline}
use Rattle.billiards_cli.proofs.Jobs.{is_region}
use Rattle.billiards_cli.proofs.commands.demo.making.generated_region.Goals as goal

pub unwrap-requires : goal.unwrap-requires
unwrap-requires c =
    let k = c.args.number.now in
    let same : c.in_ok-polygons.polygons.items ≡ job_outline k ∷ [] =
    c.in_ok-polygons.ensures.items ∙ ap (λ (o : Outline). o ∷ []) c.in_ok-polygon.ensures.outline in
    c.new.ensures.region.1 (subst (λ (r : List Outline). IsRegion r) (sym same) (is_region k c.in_ok-polygon.ensures.is_number))
