use Rattle.std.proofs.Common.{◌-◌, ◌<◌, [], ◌∷◌, ◌++◌, length}
use Rattle.word_search.specs.Cuts.{IsListOf, StartsBefore}
use Rattle.word_search.proofs.walk.+extend.Given as goal

abbrev pub decreases-extend : goal.decreases-extend
decreases-extend l = l.count - length l.prefix.now

abbrev pub invariant-letter : goal.invariant-letter
invariant-letter l = record {
  short : length l.prefix < l.count;
  before : IsListOf (StartsBefore (l.prefix ++ l.letter ∷ [])) l.count l.found.items;
}
