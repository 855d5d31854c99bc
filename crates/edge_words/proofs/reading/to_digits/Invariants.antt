use Rattle.edge_words.proofs.Digits.{IsWrittenSoFar}
use Rattle.edge_words.proofs.reading.to_digits.Given as goal

abbrev pub invariant-loop-letter : goal.invariant-loop-letter
invariant-loop-letter l = IsWrittenSoFar l.letters l.letter-index l.digits.items l.digits.capacity
