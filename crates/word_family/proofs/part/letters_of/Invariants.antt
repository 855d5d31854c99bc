use Rattle.edge_words.proofs.Digits.{IsSpelledSoFar}
use Rattle.word_family.proofs.part.letters_of.Given as goal

abbrev pub invariant-loop-digit : goal.invariant-loop-digit
invariant-loop-digit l = IsSpelledSoFar l.digits l.digit-index l.letters.items 64
