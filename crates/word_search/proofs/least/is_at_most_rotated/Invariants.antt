use Rattle.std.proofs.Common.{◌≡◌, ℕ, ◌<◌, get_or}
use Rattle.edge_words.specs.Canonical.{rotated}
use Rattle.word_search.proofs.least.is_at_most_rotated.Given as goal

-- the letters so far are the same
abbrev pub invariant-loop-index : goal.invariant-loop-index
invariant-loop-index l = (k : ℕ) → k < l.index → get_or l.fn.letters k 0 ≡ get_or (rotated l.fn.by l.fn.others) k 0
