use Rattle.std.proofs.Common.{◌≡◌, ◌≤◌, ℕ, length}
use Rattle.covering_file.specs.Faults.{word_at, IsListed}
use Rattle.cover_merge.specs.declared.words.TheConstants.{NUMBERS}
use Rattle.cover_merge.specs.Steps.{number_at}
use Rattle.cover_merge.specs.Union.{IsNumberOf}
use Rattle.cover_merge.proofs.words.numbers_of.Given as goal

-- the numbers of the words so far
abbrev pub invariant-loop-word : goal.invariant-loop-word
invariant-loop-word l = record {
  room : l.numbers.capacity ≡ NUMBERS;
  count : length l.numbers.items ≡ l.word-index;
  each : (i : ℕ) → IsListed l.others i → i ≤ l.word-index → IsNumberOf l.union (word_at l.others i) (number_at l.numbers.items i);
}
