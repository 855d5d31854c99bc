use Rattle.std.proofs.Common.{◌≡◌, length, take}
use Rattle.edge_words.specs.Reading.{digits_of}
use Rattle.word_search.proofs.candidate.searched.Given as goal

abbrev pub invariant-loop-index : goal.invariant-loop-index
invariant-loop-index l = record {
  room : length l.buffer ≡ 24;
  written : take l.index l.buffer ≡ digits_of (take l.index l.letters);
}
