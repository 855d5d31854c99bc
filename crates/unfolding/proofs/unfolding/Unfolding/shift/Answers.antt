use Rattle.std.proofs.Common.{◌≡◌, true, false, length, refl, ap, arith}
use Rattle.unfolding.proofs.Shifts.{stable_from_shift}
use Rattle.unfolding.proofs.KeptTriangles.{centre_light, centre_within}
use Rattle.unfolding.proofs.KeptShift.{centre_is_shift, tells_shift}
use Rattle.unfolding.proofs.unfolding.Unfolding.shift.Goals as goal

pub returns-then-is_translate_of-clause-stable : goal.returns-then-is_translate_of-clause-stable
returns-then-is_translate_of-clause-stable c =
    let tells = tells_shift _ c.args.self.now _
    (length c.letters.result.now) c.index-last.result.now c.index-first.result.now c.self.view_is c.self.invariant
    (ap length c.letters.ensures.all) c.index-last.ensures c.index-first.ensures in
    (λ _. tells.stable (c.if-is_translate_of.ensures.0 refl), λ _. refl)

pub returns-then-is_translate_of-clause-is : goal.returns-then-is_translate_of-clause-is
returns-then-is_translate_of-clause-is c =
    let tells = tells_shift _ c.args.self.now _
    (length c.letters.result.now) c.index-last.result.now c.index-first.result.now c.self.view_is c.self.invariant
    (ap length c.letters.ensures.all) c.index-last.ensures c.index-first.ensures in
    centre_is_shift c.args.self.now c.index-last.result.now tells.word tells.last (tells.stable (c.if-is_translate_of.ensures.0 refl))

pub returns-then-is_translate_of-clause-light : goal.returns-then-is_translate_of-clause-light
returns-then-is_translate_of-clause-light c =
    let tells = tells_shift _ c.args.self.now _
    (length c.letters.result.now) c.index-last.result.now c.index-first.result.now c.self.view_is c.self.invariant
    (ap length c.letters.ensures.all) c.index-last.ensures c.index-first.ensures in
    let light = centre_light c.args.self.now (length c.args.self.now) c.index-last.result.now tells.last (omega arith) in
    omega (arith, light, tells.word.even_length.at_most)

pub returns-then-is_translate_of-clause-within : goal.returns-then-is_translate_of-clause-within
returns-then-is_translate_of-clause-within c =
    let tells = tells_shift _ c.args.self.now _
    (length c.letters.result.now) c.index-last.result.now c.index-first.result.now c.self.view_is c.self.invariant
    (ap length c.letters.ensures.all) c.index-last.ensures c.index-first.ensures in
    centre_within c.args.self.now (length c.args.self.now) c.index-last.result.now tells.last tells.word (omega arith)

pub returns-else-is_translate_of-clause-stable : goal.returns-else-is_translate_of-clause-stable
returns-else-is_translate_of-clause-stable c =
    let tells = tells_shift _ c.args.self.now _
    (length c.letters.result.now) c.index-last.result.now c.index-first.result.now c.self.view_is c.self.invariant
    (ap length c.letters.ensures.all) c.index-last.ensures c.index-first.ensures in
    (λ e. cc, λ stable. c.if-is_translate_of.ensures.1 (tells.alike stable))

pub returns-else-is_translate_of-clause-none : goal.returns-else-is_translate_of-clause-none
returns-else-is_translate_of-clause-none c shift =
    let tells = tells_shift _ c.args.self.now _
    (length c.letters.result.now) c.index-last.result.now c.index-first.result.now c.self.view_is c.self.invariant
    (ap length c.letters.ensures.all) c.index-last.ensures c.index-first.ensures in
    let stable = stable_from_shift c.args.self.now tells.word.letters tells.word.even_length.even shift in
    let never : false ≡ true = c.if-is_translate_of.ensures.1 (tells.alike stable) in
    cc
