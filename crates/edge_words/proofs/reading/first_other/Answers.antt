use Rattle.std.proofs.Common.{arith}
use Rattle.std.proofs.lemmas.List.Elements.{All-from_get_or}
use Rattle.edge_words.specs.Reading.{IsDigit}
use Rattle.edge_words.proofs.Digits.{first_other_at}
use Rattle.edge_words.proofs.reading.first_other.Goals as goal
use Rattle.edge_words.proofs.reading.first_other.Goals.{then-byte-lt49-via-then-byte-lt49, then-byte-lt49-via-else-byte-lt49+then-byte-gt51}

pub returns-then-byte-lt49 : goal.returns-then-byte-lt49
returns-then-byte-lt49 c =
    first_other_at _ _ c.loop-index-test.true
    (elim c.then-byte-lt49.branch [
      | then-byte-lt49-via-then-byte-lt49 w ↦ λ digit. omega arith
      | then-byte-lt49-via-else-byte-lt49+then-byte-gt51 w ↦ λ digit. omega arith
    ])
    c.loop-index.invariant

pub returns : goal.returns
returns c = All-from_get_or IsDigit _ 0 (λ k h. c.loop-index.invariant k (omega arith))
