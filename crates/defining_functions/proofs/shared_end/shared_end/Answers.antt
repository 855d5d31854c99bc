use Rattle.std.proofs.Common.{◌≡◌, ◌+◌, true, false, inl, inr, sym, ◌∙◌, arith}
use Rattle.defining_functions.proofs.SharedEnds.{ends_shared}
use Rattle.defining_functions.proofs.shared_end.shared_end.Goals as goal

pub overflow_add-i : goal.overflow_add-i
overflow_add-i c = omega (arith, c.requires.place, c.requires.word.even_length.at_most)

pub overflow_add-i-2 : goal.overflow_add-i-2
overflow_add-i-2 c = omega (arith, c.requires.place, c.requires.word.even_length.at_most)

-- one of the ends is shared, and neither was found to be
pub returns : goal.returns
returns c =
    elim (ends_shared c.args.u.now c.args.i c.requires.word (omega (arith, c.if-i-eq0.false)) c.requires.place) [
      | inl upper ↦ let no : false ≡ true = c.if-is_same-2.ensures.1 (c.upper.ensures.is ∙ upper ∙ sym c.upper-2.ensures.is) in cc
      | inr lower ↦ let no : false ≡ true = c.if-is_same.ensures.1 (c.lower.ensures.is ∙ lower ∙ sym c.lower-2.ensures.is) in cc
    ]
