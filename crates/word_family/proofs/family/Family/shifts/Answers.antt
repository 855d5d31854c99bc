use Rattle.word_family.specs.Family.{IsStableFamily}
use Rattle.word_family.proofs.family.Family.shifts.Goals as goal

pub stable_shifts-requires : goal.stable_shifts-requires
stable_shifts-requires c = c.is_stable.ensures.0 c.if-not-is_stable.false

pub returns-in-Ok-clause-unstable : goal.returns-in-Ok-clause-unstable
returns-in-Ok-clause-unstable c =
    let stable : IsStableFamily c.args.self.now = c.is_stable.ensures.0 c.if-not-is_stable.false in
    (λ refused. cc, λ unstable. absurd (unstable stable))

pub returns-in-Err-clause-unstable : goal.returns-in-Err-clause-unstable
returns-in-Err-clause-unstable c =
    let stable : IsStableFamily c.args.self.now = c.is_stable.ensures.0 c.if-not-is_stable.false in
    (λ refused. cc, λ unstable. absurd (unstable stable))
