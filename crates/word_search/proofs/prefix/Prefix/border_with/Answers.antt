use Rattle.std.proofs.Common.{[], ◌∷◌, ◌++◌, subst, arith}
use Rattle.word_search.specs.Prefixes.{IsLeft}
use Rattle.word_search.proofs.Kept.{left_kept}
use Rattle.word_search.proofs.prefix.Prefix.border_with.Goals as goal

pub returns-then-letter-least : goal.returns-then-letter-least
returns-then-letter-least c n =
    subst (λ p. IsLeft n (p ++ c.args.letter ∷ [])) c.self.view_is
    (left_kept c.self.inside.letters c.self.inside.odd c.self.inside.even c.self.inside.len c.self.inside.border c.args.letter n c.self.invariant
    (omega arith) (omega arith) c.if-letter-least.true)
