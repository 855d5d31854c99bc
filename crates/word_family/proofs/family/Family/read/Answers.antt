use Rattle.word_family.proofs.Readings.{odd_parts}
use Rattle.word_family.proofs.family.Family.read.Goals as goal

pub returns-then-not-are_even : goal.returns-then-not-are_even
returns-then-not-are_even c =
    odd_parts c.args.a.now c.args.b.now c.args.c.now c.in-Some.first c.in-Some-read_middle.middle c.in-Some-read.last _ _ _
    c.in-Some.ensures c.in-Some-read_middle.ensures c.in-Some-read.ensures
    c.letters.ensures.all c.letters-2.ensures.all c.letters-3.ensures.all
    (λ even. let odd = c.if-not-are_even.ensures.1 even in cc)
