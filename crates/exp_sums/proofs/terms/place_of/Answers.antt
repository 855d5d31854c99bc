use Rattle.std.proofs.Common.{rules}
use Rattle.std.proofs.lemmas.List.Sorted.{answers_always}
use Rattle.exp_sums.specs.declared.terms.Term.{Term}
use Rattle.exp_sums.proofs.Place.{searched}
use Rattle.exp_sums.proofs.terms.place_of.Goals as goal

-- the closure gives a term's direction
pub returns : goal.returns
returns c =
    let facts = c.binary_search_by_key.ensures in
    let by_key = facts.position (λ (term : Term). term.dir) (answers_always _ _ _ (λ f a r g called. search rules)) in
    searched c.args.terms.now c.args.dir _ c.requires facts.bound by_key
