use Rattle.std.proofs.Common.{subst₂}
use Rattle.std.specs.Prelude.{IfOk, IsErrOf}
use Rattle.rat_core.specs.Written.{Written, value}
use Rattle.gradient_bounds.specs.Clear.{IsClearAtPoint}
use Rattle.bounce_path.specs.Path.{IsPath, room_for_path}
use Rattle.bounce_path.specs.declared.fault.PathFault.TheVariants.{NotShown}
use Rattle.billiards_cli.proofs.commands.path.path_at.Goals as goal

pub returns-clause-path : goal.returns-clause-path
returns-clause-path c =
    subst₂ (λ (x y : Written). IfOk c.path.result (IsPath c.args.word.now (value x) (value y))) c.first.ensures.angle c.second.ensures.angle c.path.ensures.path

pub returns-clause-not_shown : goal.returns-clause-not_shown
returns-clause-not_shown c =
    subst₂ (λ (x y : Written). IsErrOf c.path.result NotShown → ¬ (IsClearAtPoint c.args.word.now (value x) (value y) room_for_path))
    c.first.ensures.angle c.second.ensures.angle c.path.ensures.not_shown
