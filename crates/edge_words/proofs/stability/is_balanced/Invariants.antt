use Rattle.edge_words.proofs.Balance.{IsCounted}
use Rattle.edge_words.proofs.stability.is_balanced.Given as goal

abbrev pub invariant-loop-index : goal.invariant-loop-index
invariant-loop-index l = IsCounted l.letter l.letters l.index l.at_odd l.at_even
