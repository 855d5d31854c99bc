use Rattle.edge_words.proofs.Digits.{IsSpelledSoFar}
use Rattle.edge_words.proofs.reading.letters_of.Given as goal

abbrev pub invariant-loop-digit : goal.invariant-loop-digit
invariant-loop-digit l = IsSpelledSoFar l.digits l.digit-index l.letters.items l.letters.capacity
