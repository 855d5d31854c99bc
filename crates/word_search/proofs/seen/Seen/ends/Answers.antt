use Rattle.std.proofs.Common.{sym, subst, arith}
use Rattle.word_search.specs.Places.{IsSmallPlace}
use Rattle.word_search.proofs.Placed.{centre_small}
use Rattle.word_search.proofs.seen.Seen.ends.Goals as goal

pub corner-requires-clause-near : goal.corner-requires-clause-near
corner-requires-clause-near c =
    subst (IsSmallPlace 48) (sym c.requires.seen.centre)
    (centre_small c.args.units.now c.args.letters.now c.args.k c.requires.units c.requires.few (omega (arith, c.requires.place)))

pub corner-requires-2-clause-near : goal.corner-requires-2-clause-near
corner-requires-2-clause-near c =
    subst (IsSmallPlace 48) (sym c.requires.seen.centre)
    (centre_small c.args.units.now c.args.letters.now c.args.k c.requires.units c.requires.few (omega (arith, c.requires.place)))
