use Rattle.std.proofs.Common.{arith}
use Rattle.edge_words.proofs.Digits.{word_of_digits}
use Rattle.edge_words.proofs.word.Word.read.Goals as goal

pub invariant_of-result : goal.invariant_of-result
invariant_of-result c =
    word_of_digits _ _ c.letters_of.ensures c.in_default.ensures
    (record { even = omega arith; at_least = omega arith; at_most = omega arith }) c.in_default-first_repeat.ensures

pub returns : goal.returns
returns c = record {
  is_word = invariant_of-result c;
  digits = c.letters_of.ensures;
}
