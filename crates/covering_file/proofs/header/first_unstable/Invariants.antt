use Rattle.std.proofs.Common.{ℕ, ◌<◌, List, get_or}
use Rattle.covering_file.specs.Header.{IsStableWord}
use Rattle.covering_file.proofs.header.first_unstable.Given as goal

abbrev pub invariant-loop-k : goal.invariant-loop-k
invariant-loop-k l = (j : ℕ) (d : List ℕ) → j < l.k → IsStableWord (get_or l.words j d)
