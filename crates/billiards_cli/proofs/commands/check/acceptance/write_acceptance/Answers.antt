use Rattle.std.proofs.Common.{◌≡◌}
use Rattle.std.specs.Fmt.{decimal}
use Rattle.billiards_cli.proofs.commands.check.acceptance.write_acceptance.Goals as goal

pub returns-clause-text : goal.returns-clause-text
returns-clause-text g c =
    let nodes : c.digits.result.now ≡ decimal c.args.nodes = cc in
    let words : c.digits-2.result.now ≡ decimal c.args.words = cc in
    rw (← nodes, ← words) c.put_all.ensures.text
