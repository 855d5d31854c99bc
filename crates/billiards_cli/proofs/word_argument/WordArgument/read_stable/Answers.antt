use Rattle.billiards_cli.proofs.WordArguments.{no_stable_word}
use Rattle.billiards_cli.proofs.word_argument.WordArgument.read_stable.Goals as goal

pub returns-then-is_stable : goal.returns-then-is_stable
returns-then-is_stable c = (record { word = c.in-Ok.ensures.0; stable = c.is_stable.ensures.0 c.if-is_stable.true }, c.in-Ok.ensures.1)

pub returns-in-Err : goal.returns-in-Err
returns-in-Err c = no_stable_word c.args.self.now c.in-Err.reason c.in-Err.ensures
