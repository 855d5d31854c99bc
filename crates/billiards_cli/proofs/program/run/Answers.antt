use Rattle.std.proofs.Common.{sym}
use Rattle.billiards_cli.proofs.Deciding.{decided_if_asked}
use Rattle.billiards_cli.proofs.Headlines.{headline}
use Rattle.billiards_cli.proofs.program.run.Goals as goal

pub returns-in-Some-clause-headline : goal.returns-in-Some-clause-headline
returns-in-Some-clause-headline g c = headline c.args.arguments.now c.in-Some.request _ _ c.obey.result (sym c.in-Some.ensures) c.obey.ensures.serves

pub returns-in-Some-clause-complete : goal.returns-in-Some-clause-complete
returns-in-Some-clause-complete g c = λ stood. decided_if_asked _ c.in-Some.request _ _ c.obey.result (sym c.in-Some.ensures) c.obey.ensures.serves stood
