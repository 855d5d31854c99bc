use Rattle.std.proofs.Common.{◌∙◌, ap, arith}
use Rattle.std.proofs.lemmas.List.{take_all}
use Rattle.edge_words.specs.Reading.{digits_of}
use Rattle.edge_words.proofs.Digits.{length_written, written_more}
use Rattle.edge_words.proofs.reading.to_digits.Goals as goal

pub loop-letter-init : goal.loop-letter-init
loop-letter-init c = record {
  written = c.new-digits.ensures.items;
  room = c.new-digits.ensures.capacity;
}

pub push_reserved-requires : goal.push_reserved-requires
push_reserved-requires c =
    let count = length_written c.args.letters.now c.loop-letter.letter-index c.loop-letter.digits.items c.loop-letter.digits.capacity
    (omega arith) c.loop-letter.invariant in
    (omega arith, omega (arith, count))

pub loop-letter-preserved : goal.loop-letter-preserved
loop-letter-preserved c = rw (c.push_reserved.ensures.items, c.push_reserved.ensures.capacity)
    (written_more _ _ _ _ c.loop-letter-test.true c.loop-letter.invariant)

pub returns : goal.returns
returns c = c.loop-letter.invariant.written ∙ ap digits_of (take_all _ _ (omega arith))
