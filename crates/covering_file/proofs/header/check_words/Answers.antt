use Rattle.std.proofs.Common.{arith, rules}
use Rattle.covering_file.proofs.HeaderFaults.{stable_words}
use Rattle.covering_file.proofs.header.check_words.Goals as goal

pub returns-then-depth-gt-MAX_LEVEL-clause-refused : goal.returns-then-depth-gt-MAX_LEVEL-clause-refused
returns-then-depth-gt-MAX_LEVEL-clause-refused c = (
  search rules,
  stable_words c.args.words.now c.in_default.ensures,
  λ deep. omega
      (arith, deep, c.if-depth-gt-MAX_LEVEL.true),
)
