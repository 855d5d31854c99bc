use Rattle.std.proofs.Common.{FitsSigned}
use Rattle.std.specs.Int.{w128}
use Rattle.std.proofs.lemmas.Int.{to_z-of_z}
use Rattle.gradient_bounds.proofs.Deciding.{most_suffices}
use Rattle.gradient_bounds.proofs.decision.enough_in_row.Goals as goal

pub returns : goal.returns
returns c =
    let z : FitsSigned w128 c.enough.result = record { sfits = c.enough.type_inv } in
    simp to_z-of_z (λ l lower. most_suffices c.args.threshold.now c.args.functions.now
    c.args.k l c.most_in_row.result c.enough.result c.requires.threshold
    (λ v shift. c.most_in_row.ensures.most v l shift lower)
    c.enough.ensures)
