use Rattle.std.proofs.Common.{◌≡◌, ◌∙◌, ℕ, List, [], ◌∷◌, ap₂, sym, subst}
use Rattle.rational_polygon.specs.Outline.{IsPolygon}
use Rattle.billiards_cli.specs.Jobs.{job_outline}
use Rattle.billiards_cli.proofs.Jobs.{is_polygon}
use Rattle.billiards_cli.proofs.commands.demo.making.generated_polygon.Goals as goal

pub unwrap-requires : goal.unwrap-requires
unwrap-requires c =
    let k = c.args.number.now in
    let same : c.in_ok-corners.corners.items ≡ (job_outline k).corners =
    c.in_ok-corners.ensures.items ∙ ap₂ (λ (x y : ℕ). (x, y) ∷ (x, x) ∷ (y, x) ∷ []) c.near_side-near.ensures c.far_side-far.ensures.value in
    c.new.ensures.polygon.1
    (subst (λ (corners : List (ℕ × ℕ)). IsPolygon (record { grid = 768; corners = corners })) (sym same) (is_polygon k c.far_side-far.ensures.is_number))
