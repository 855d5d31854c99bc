use Rattle.std.proofs.Common.{◌≡◌, [], ◌∷◌, ◌++◌, sym, ap, ◌∙◌, arith}
use Rattle.unfolding.specs.Kept.{dirs_of}
use Rattle.unfolding.proofs.Crossing.{crossed_1, crossed_2, crossed_3, near_first, near_second, near_third}
use Rattle.unfolding.proofs.triangle.dirs_across.Goals as goal

pub returns-in-1-clause-dirs : goal.returns-in-1-clause-dirs
returns-in-1-clause-dirs c w same =
    let edge : c.args.edge ≡ 1 = omega arith in
    crossed_1 w c.args.dirs.now c.mirrored.result _ same (record { m = c.mirrored.ensures.m; n = c.mirrored.ensures.n })
    ∙ ap (λ e. dirs_of (w ++ e ∷ [])) (sym edge)

pub returns-in-2-clause-dirs : goal.returns-in-2-clause-dirs
returns-in-2-clause-dirs c w same =
    let edge : c.args.edge ≡ 2 = omega arith in
    crossed_2 w c.args.dirs.now c.mirrored-in-2.result _ same (record { m = c.mirrored-in-2.ensures.m; n = c.mirrored-in-2.ensures.n })
    ∙ ap (λ e. dirs_of (w ++ e ∷ [])) (sym edge)

pub returns-in_default-clause-dirs : goal.returns-in_default-clause-dirs
returns-in_default-clause-dirs c w same =
    let edge : c.args.edge ≡ 3 = omega arith in
    crossed_3 w c.args.dirs.now c.mirrored-in_default.result _ same (record { m = c.mirrored-in_default.ensures.m; n = c.mirrored-in_default.ensures.n })
    ∙ ap (λ e. dirs_of (w ++ e ∷ [])) (sym edge)

pub returns-in-1-clause-near : goal.returns-in-1-clause-near
returns-in-1-clause-near c = near_first _ _ _ c.mirrored.ensures.near (c.requires.near 2 _ (omega arith)) (c.requires.near 1 _ (omega arith))

pub returns-in-2-clause-near : goal.returns-in-2-clause-near
returns-in-2-clause-near c = near_second _ _ _ (c.requires.near 2 _ (omega arith)) c.mirrored-in-2.ensures.near (c.requires.near 0 _ (omega arith))

pub returns-in_default-clause-near : goal.returns-in_default-clause-near
returns-in_default-clause-near c = near_third _ _ _ (c.requires.near 1 _ (omega arith)) (c.requires.near 0 _ (omega arith)) c.mirrored-in_default.ensures.near
