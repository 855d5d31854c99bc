use Rattle.std.proofs.Common.{◌≡◌, ◌∙◌}
use Rattle.std.specs.Fmt.{decimal}
use Rattle.billiards_cli.proofs.end_line.write_end.Goals as goal

pub returns-clause-text : goal.returns-clause-text
returns-clause-text g c =
    let count : c.digits.result.now ≡ decimal c.args.count = c.digits.ensures ∙ c.new.ensures in
    rw (← count) c.put_all.ensures.text
