use Rattle.std.proofs.Common.{ℕ, ◌<◌, get_or}
use Rattle.edge_words.specs.Reading.{IsDigit}
use Rattle.edge_words.proofs.reading.first_other.Given as goal

abbrev pub invariant-loop-index : goal.invariant-loop-index
invariant-loop-index l = (k : ℕ) → k < l.index → IsDigit (get_or l.bytes k 0)
