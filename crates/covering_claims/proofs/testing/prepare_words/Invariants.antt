use Rattle.std.proofs.Common.{◌≡◌, take}
use Rattle.covering_claims.proofs.testing.prepare_words.Given as goal

-- the tests of the words so far
abbrev pub invariant-loop-word : goal.invariant-loop-word
invariant-loop-word g l = l.tests.items ≡ take l.word-index l.words
