use Rattle.std.proofs.Common.{◌≡◌, ◌+◌, ◌*◌, ◌<◌, arith, List, ℕ, length, sym, subst}
use Rattle.rat_core.specs.Written.{Written, value}
use Rattle.word_search.specs.Search.{IsSearchResult}
use Rattle.word_search.proofs.Results.{result_at_start}
use Rattle.word_search.proofs.listing.search.Goals as goal

pub half-init : goal.half-init
half-init c =
    subst (λ (ws : List (List ℕ)). IsSearchResult (value c.args.x) (value c.args.y) (λ w. length w < 6) ws) (sym c.new-found.ensures.items)
    (result_at_start (value c.args.x) (value c.args.y))

pub pick-requires-clause-shorter : goal.pick-requires-clause-shorter
pick-requires-clause-shorter c =
    subst (λ (at : Written × Written). IsSearchResult (value at.0) (value at.1) (λ w. length w < c.half.half * 2) c.half.found.items)
    (sym c.in_ok-plane.ensures)
    c.half.invariant

pub half-preserved : goal.half-preserved
half-preserved c =
    let next : c.half.half * 2 + 2 ≡ (c.half.half + 1) * 2 = omega arith in
    subst (λ n. IsSearchResult (value c.args.x) (value c.args.y) (λ w. length w < n) c.pick.new.found.items) next
    (subst (λ (at : Written × Written). IsSearchResult (value at.0) (value at.1) (λ w. length w < c.half.half * 2 + 2) c.pick.new.found.items)
    c.in_ok-plane.ensures c.in_ok-pick.ensures)
