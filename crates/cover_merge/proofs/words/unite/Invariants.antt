use Rattle.std.proofs.Common.{◌≤◌, take, length}
use Rattle.covering_file.specs.declared.TheConstants.{MAX_WORDS}
use Rattle.cover_merge.specs.Union.{IsUnion}
use Rattle.cover_merge.proofs.words.unite.Given as goal

-- the union with the others so far
abbrev pub invariant-loop-before : goal.invariant-loop-before
invariant-loop-before l = record {
  union : IsUnion l.fn.words (take l.before l.others) l.union.items;
  few : length l.union.items ≤ MAX_WORDS;
}
