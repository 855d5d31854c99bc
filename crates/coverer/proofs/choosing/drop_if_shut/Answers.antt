-- The word that is dropped is shut, and the others are as before.
use Rattle.std.proofs.Common.{refl}
use Rattle.coverer.proofs.Shut.{shut_out_more}
use Rattle.coverer.proofs.choosing.drop_if_shut.Goals as goal

pub returns-then-is_shut-clause-shut : goal.returns-then-is_shut-clause-shut
returns-then-is_shut-clause-shut c =
    shut_out_more c.args.tests.now c.args.words c.without.result c.args.place c.args.i c.requires.few c.requires.shut (c.if-is_shut.ensures.shut refl)
    c.without.ensures.others
