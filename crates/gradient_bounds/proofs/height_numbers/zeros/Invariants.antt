use Rattle.std.proofs.Common.{◌≡◌, length}
use Rattle.gradient_bounds.proofs.height_numbers.zeros.Given as goal

abbrev pub invariant-loop : goal.invariant-loop
invariant-loop l = length l.numbers.items ≡ l.counter
