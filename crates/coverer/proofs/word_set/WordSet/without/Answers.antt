use Rattle.std.proofs.Common.{◌≡◌, ◌≢◌, ◌-◌, ◌<◌, ◌∙◌, sym, arith, w32}
use Rattle.std.proofs.lemmas.Nat.Bits.{bit_at_clear_same, bit_at_clear_other}
use Rattle.coverer.proofs.word_set.WordSet.without.Goals as goal

pub returns-clause-dropped : goal.returns-clause-dropped
returns-clause-dropped c is_in =
    let within : c.args.i - 1 < 32 = omega (arith, c.requires.at_least, c.requires.at_most) in
    let none : 0 ≡ 1 = sym (bit_at_clear_same w32 c.args.self.bits (c.args.i - 1) within) ∙ is_in in
    omega (arith, none)

pub returns-clause-others : goal.returns-clause-others
returns-clause-others c j at_least at_most differs =
    let within : c.args.i - 1 < 32 = omega (arith, c.requires.at_least, c.requires.at_most) in
    let within_too : j - 1 < 32 = omega (arith, at_least, at_most) in
    let other : j - 1 ≢ c.args.i - 1 = λ same. differs (omega (arith, same, at_least, c.requires.at_least)) in
    let kept = bit_at_clear_other w32 c.args.self.bits (c.args.i - 1) within (j - 1) within_too other in
    (λ is_in. sym kept ∙ is_in, λ is_in. kept ∙ is_in)
