use Rattle.gradient_bounds.proofs.Tests.{numbers_up, numbers_low, threshold_test, values_within}
use Rattle.gradient_bounds.proofs.prepared.Prepared.each_reaches.Goals as goal

pub each_reaches-requires-clause-uppers : goal.each_reaches-requires-clause-uppers
each_reaches-requires-clause-uppers g c =
    let i = c.self.inside in
    numbers_up g.S.Scale.BITS i.word i.functions i.point i.table.items i.uppers.items i.lowers.items c.deref.result.now
    c.deref-2.result.now c.self.invariant c.deref.ensures.value c.deref-2.ensures.value

pub each_reaches-requires-clause-lowers : goal.each_reaches-requires-clause-lowers
each_reaches-requires-clause-lowers g c =
    let i = c.self.inside in
    numbers_low g.S.Scale.BITS i.word i.functions i.point i.table.items i.uppers.items i.lowers.items c.deref.result.now
    c.deref-2.result.now c.self.invariant c.deref.ensures.value c.deref-2.ensures.value

pub returns-clause-decided : goal.returns-clause-decided
returns-clause-decided g c =
    let i = c.self.inside in
    let test = threshold_test g.S.Scale.BITS i.word i.functions i.point i.table.items i.uppers.items i.lowers.items c.deref.result.now
    c.deref-2.result.now c.self.invariant c.deref.ensures.value c.deref-2.ensures.value c.args.self.now c.self.view_is c.args.threshold.now in
    (λ t. test.0 (c.each_reaches.ensures.0 t), λ e. c.each_reaches.ensures.1 (test.1 e))

pub returns-clause-holds : goal.returns-clause-holds
returns-clause-holds g c =
    let i = c.self.inside in
    values_within g.S.Scale.BITS i.word i.functions i.point i.table.items i.uppers.items i.lowers.items c.deref.result.now
    c.deref-2.result.now c.self.invariant c.deref.ensures.value c.deref-2.ensures.value c.args.self.now c.self.view_is
