use Rattle.std.proofs.Common.{◌≡◌}
use Rattle.coverer.specs.Words.{AreAmong, AreShutOut}
use Rattle.coverer.proofs.choosing.without_shut.Given as goal

-- each word that is left out so far is shut, and none has come back
abbrev pub invariant-loop-i : goal.invariant-loop-i
invariant-loop-i l = (l.tests ≡ l.fn.tests) × AreShutOut l.fn.tests l.left l.place × AreAmong l.left l.fn.words
