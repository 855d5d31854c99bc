use Rattle.std.proofs.Common.{◌≡◌}
use Rattle.std.specs.Fmt.{decimal}
use Rattle.line_grammar.specs.Offence.{number_of}
use Rattle.billiards_cli.proofs.refusal.write_argument_refusal.Goals as goal

pub returns-clause-text : goal.returns-clause-text
returns-clause-text g c =
    let reason : c.digits.result.now ≡ decimal (number_of c.args.reason) = cc in
    rw (← reason) c.put_all.ensures.text
