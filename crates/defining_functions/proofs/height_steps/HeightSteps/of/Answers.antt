use Rattle.std.proofs.lemmas.Result.{err_from_is_err_and}
use Rattle.defining_functions.proofs.height_steps.HeightSteps.of.Goals as goal

pub returns-in_err-along-in-Some-clause-not_translate : goal.returns-in_err-along-in-Some-clause-not_translate
returns-in_err-along-in-Some-clause-not_translate c =
    let p = err_from_is_err_and c.from_residual.result c.from_residual.ensures.1 in
    let err = p.1 in
    let memory = p.2 in
    (λ is has. cc, λ none. absurd (none (c.in-Some.shift.now, c.in-Some.ensures.is)))

pub returns-in_ok-along-in-Some-clause-not_translate : goal.returns-in_ok-along-in-Some-clause-not_translate
returns-in_ok-along-in-Some-clause-not_translate c = (λ is has. cc, λ none. absurd (none (c.in-Some.shift.now, c.in-Some.ensures.is)))
