use Rattle.edge_words.proofs.Bracelet.{IsLeastBelow}
use Rattle.edge_words.proofs.word.Word.least_rotation.Given as goal

abbrev pub invariant-loop-by : goal.invariant-loop-by
invariant-loop-by l = IsLeastBelow l.letters l.least l.by
