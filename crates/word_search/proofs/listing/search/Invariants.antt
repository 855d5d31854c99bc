use Rattle.std.proofs.Common.{◌*◌, ◌<◌, length}
use Rattle.rat_core.specs.Written.{value}
use Rattle.word_search.specs.Search.{IsSearchResult}
use Rattle.word_search.proofs.listing.search.Given as goal

abbrev pub invariant-half : goal.invariant-half
invariant-half l = IsSearchResult (value l.fn.x) (value l.fn.y) (λ w. length w < l.half * 2) l.found.items
