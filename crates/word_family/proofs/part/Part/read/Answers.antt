use Rattle.word_family.proofs.Readings.{part_of_digits, other_byte}
use Rattle.word_family.proofs.part.Part.read.Goals as goal

pub invariant_of-result : goal.invariant_of-result
invariant_of-result c = (part_of_digits c.args.digits.now c.letters_of.result.items c.letters_of.ensures c.in-None.ensures c.if-digits-gt-MAX_PART.false).part

pub returns-in-Some : goal.returns-in-Some
returns-in-Some c = other_byte c.args.digits.now c.in-Some.field-0 c.in-Some.ensures

pub returns-in-None : goal.returns-in-None
returns-in-None c = part_of_digits c.args.digits.now c.letters_of.result.items c.letters_of.ensures c.in-None.ensures c.if-digits-gt-MAX_PART.false
