use Rattle.std.proofs.Common.{◌≡◌}
use Rattle.std.specs.Fmt.{decimal}
use Rattle.billiards_cli.proofs.refusal.write_numbered_refusal.Goals as goal

pub returns-clause-text : goal.returns-clause-text
returns-clause-text g c =
    let line : c.digits.result.now ≡ decimal c.args.line = cc in
    let number : c.digits-2.result.now ≡ decimal c.args.number = cc in
    rw (← line, ← number) c.put_all.ensures.text
