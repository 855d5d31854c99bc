use Rattle.std.proofs.Common.{◌≡◌, true, List, ℕ, subst, subst₂}
use Rattle.rat_core.specs.Written.{Written, value}
use Rattle.gradient_bounds.specs.Corridor.{HasCorridor}
use Rattle.billiards_cli.specs.Commands.At.{AtTriangle}
use Rattle.billiards_cli.proofs.commands.at.is_open.Goals as goal

pub returns-in-Ok-clause-open : goal.returns-in-Ok-clause-open
returns-in-Ok-clause-open c = λ is.
    let shown : c.test_point.result ≡ true = cc in
    subst (λ (w : List ℕ). AtTriangle c.args.triangle.now (HasCorridor w)) c.in-Ok.ensures.word
    (subst₂ (λ (x y : Written). HasCorridor c.in-Ok.prepared.word (value x) (value y)) c.first.ensures.angle c.second.ensures.angle
    (c.test_point.ensures.corridor shown))
