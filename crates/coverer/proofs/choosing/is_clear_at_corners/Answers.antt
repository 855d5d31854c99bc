-- A word that is not in question is shut, and so not clear at the corners.
use Rattle.coverer.proofs.Shut.{shut_out_at_corners, not_both}
use Rattle.coverer.proofs.choosing.is_clear_at_corners.Goals as goal

pub returns-else-has-clause-found : goal.returns-else-has-clause-found
returns-else-has-clause-found c clear =
    absurd (shut_out_at_corners c.args.tests.now c.args.words c.args.place c.args.i c.requires.stable c.requires.shut c.requires.listed
    (λ is_in. not_both c.has.result c.if-has.false (c.has.ensures.1 is_in)) clear)
