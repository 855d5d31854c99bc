use Rattle.std.proofs.Common.{length, sym, ◌∙◌, ap, refl, arith}
use Rattle.std.proofs.lemmas.List.{take_all}
use Rattle.edge_words.specs.Reading.{digits_of}
use Rattle.edge_words.proofs.Digits.{spelled_more}
use Rattle.word_family.proofs.part.letters_of.Goals as goal

pub loop-digit-init : goal.loop-digit-init
loop-digit-init c = record {
  spelled = sym (ap digits_of c.new-letters.ensures);
  count = ap length c.new-letters.ensures;
  room = refl;
}

pub push-requires : goal.push-requires
push-requires c = omega (arith, c.loop-digit.invariant.count, c.requires.few)

pub loop-digit-preserved : goal.loop-digit-preserved
loop-digit-preserved c =
    let digit = c.requires.digits c.loop-digit.digit-index 0 c.loop-digit-test.true in
    rw (c.push.ensures.items)
    (spelled_more _ _ _ _ c.loop-digit-test.true (omega (arith, digit)) c.loop-digit.invariant)

pub returns : goal.returns
returns c = sym (take_all _ _ (omega arith)) ∙ c.loop-digit.invariant.spelled
