use Rattle.std.proofs.Common.{◌≡◌, ◌++◌}
use Rattle.std.specs.Fmt.{decimal}
use Rattle.mcb_ends.proofs.decimal.Decimal.new.Given as goal

-- the digits so far stand behind those of the rest
abbrev pub invariant-loop-rest : goal.invariant-loop-rest
invariant-loop-rest l = decimal l.n ≡ decimal l.rest ++ l.text

abbrev pub decreases-loop-rest : goal.decreases-loop-rest
decreases-loop-rest l = l.rest
