use Rattle.std.proofs.Common.{◌≡◌, ◌++◌, length}
use Rattle.rat_core.specs.Written.{value}
use Rattle.word_search.specs.Search.{IsSearchResult}
use Rattle.word_search.specs.Words.{IsListOfWords}
use Rattle.word_search.proofs.Results.{IsTested}
use Rattle.word_search.proofs.listing.pick.Given as goal

abbrev pub invariant-word : goal.invariant-word
invariant-word l = record {
  left : l.word-iterator.rest.len ≡ length l.word-iterator.rest.items;
  words : IsListOfWords l.count (l.yielded ++ l.word-iterator.rest.items);
  result : IsSearchResult (value l.plane.0) (value l.plane.1) (IsTested l.count l.yielded) l.found.items;
}
