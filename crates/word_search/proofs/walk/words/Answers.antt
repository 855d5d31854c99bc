use Rattle.std.proofs.Common.{List, ℕ, [], sym, subst}
use Rattle.word_search.specs.Cuts.{IsListOf, StartsBefore}
use Rattle.word_search.proofs.Lists.{list_at_start}
use Rattle.word_search.proofs.walk.words.Goals as goal

pub extend-requires-clause-before : goal.extend-requires-clause-before
extend-requires-clause-before c =
    subst (λ (p : List ℕ). IsListOf (StartsBefore p) c.args.count c.new-found.result.items) (sym c.new.ensures)
    (subst (IsListOf (StartsBefore []) c.args.count) (sym c.new-found.ensures.items) (list_at_start c.args.count))
