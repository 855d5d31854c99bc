use Rattle.std.proofs.Common.{◌-◌, arith}
use Rattle.std.proofs.lemmas.Nat.Bits.{bit_at_ones}
use Rattle.coverer.proofs.word_set.WordSet.all.Goals as goal

pub returns : goal.returns
returns c i at_least at_most = bit_at_ones 32 (i - 1) (omega (arith, at_least, at_most))
