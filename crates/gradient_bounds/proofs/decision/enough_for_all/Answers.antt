use Rattle.std.proofs.Common.{FitsSigned}
use Rattle.std.specs.Int.{w128}
use Rattle.std.proofs.lemmas.Int.{to_z-of_z}
use Rattle.gradient_bounds.proofs.Deciding.{most_suffices}
use Rattle.gradient_bounds.proofs.decision.enough_for_all.Goals as goal

pub returns : goal.returns
returns c =
    let z : FitsSigned w128 c.enough.result = record { sfits = c.enough.type_inv } in
    simp to_z-of_z (λ k upper l lower. most_suffices c.args.threshold.now c.args.functions.now k l c.most_of.result c.enough.result c.requires.threshold
    (λ v shift. c.most_of.ensures.most v k l shift upper lower)
    c.enough.ensures)
