use Rattle.std.proofs.Common.{◌≡◌, ◌++◌}
use Rattle.word_family.specs.Family.{times_written}
use Rattle.word_family.proofs.letters.push_times.Given as goal

abbrev pub invariant-loop : goal.invariant-loop
invariant-loop l = l.letters.items ≡ l.fn.letters.items ++ times_written l.counter l.more
