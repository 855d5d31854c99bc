use Rattle.std.proofs.Common.{◌++◌, [], ◌∷◌, ◌∙◌, not, sym, ap, arith}
use Rattle.std.proofs.lemmas.Result.{IfOk-weaker}
use Rattle.exp_sums.proofs.Within.{IsWithin-weaker}
use Rattle.unfolding.proofs.KeptTriangles.{moved_light, moved_within, is_reversed-snoc, next_centre_is}
use Rattle.unfolding.proofs.triangle.Triangle.across.Goals as goal

pub moved-requires-2-clause-light : goal.moved-requires-2-clause-light
moved-requires-2-clause-light c = let light = moved_light 128 _ _ _ _ c.in_ok-half_way.ensures c.requires.small.light in omega (arith, light)

pub moved-requires-2-clause-within : goal.moved-requires-2-clause-within
moved-requires-2-clause-within c = IsWithin-weaker 65 1000 _ (omega arith)
    (moved_within 65 _ _ _ _ c.in_ok-half_way.ensures c.requires.small.within (c.requires.small.near _ _ (omega arith)))

pub round-requires-clause-light : goal.round-requires-clause-light
round-requires-clause-light c =
    let light = moved_light 128 _ _ _ _ c.in_ok-half_way.ensures c.requires.small.light in
    let light' = moved_light 129 _ _ _ _ c.in_ok-centre.ensures light in
    omega (arith, light')

pub round-requires-clause-within : goal.round-requires-clause-within
round-requires-clause-within c =
    IsWithin-weaker 65 1000 _ (omega arith)
    (moved_within 65 _ _ _ _ c.in_ok-centre.ensures
    (moved_within 65 _ _ _ _ c.in_ok-half_way.ensures c.requires.small.within (c.requires.small.near _ _ (omega arith)))
    (c.requires.small.near _ _ (omega arith)))

pub returns : goal.returns
returns c =
    IfOk-weaker c.round.result _ _
    (λ t is w same. is (w ++ c.args.edge ∷ [])
    (next_centre_is w c.args.edge c.next_corner-start.result c.next_corner-end.result c.args.self.now _ _ c.in_ok-half_way.half_way c.in_ok-centre.centre
    c.next_corner-start.ensures.next c.next_corner-end.ensures.next c.next_corner-start.ensures.corner c.next_corner-end.ensures.corner same
    c.in_ok-half_way.ensures c.in_ok-centre.ensures)
    (ap (λ t. not t.minus) same ∙ sym (is_reversed-snoc w c.args.edge))
    (c.dirs_across.ensures.dirs w (ap (λ t. t.dirs) same)))
    c.round.ensures
