use Rattle.cover_merge.proofs.Uniting.{NoneBefore}
use Rattle.cover_merge.proofs.words.number_of.Given as goal

-- none of the words so far is the one that is looked for
abbrev pub invariant-loop-k : goal.invariant-loop-k
invariant-loop-k l = NoneBefore l.union l.word l.k
