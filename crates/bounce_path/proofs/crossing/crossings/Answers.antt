use Rattle.std.proofs.Common.{◌≡◌, ◌+◌, ◌∙◌, ap, sym, subst, ℕ, List, length, arith}
use Rattle.edge_words.specs.Word.{IsWord}
use Rattle.bounce_path.specs.declared.crossing.Crossing.{Crossing}
use Rattle.bounce_path.proofs.Crossed.{AreFirst, one_crossing_more}
use Rattle.bounce_path.proofs.crossing.crossings.Goals as goal

pub loop-place-preserved : goal.loop-place-preserved
loop-place-preserved c =
    let prepared = c.args.prepared.now in
    let n = c.loop-place.place in
    subst (λ (cs : List Crossing). AreFirst prepared.word prepared.point (n + 1) cs) (sym c.in_ok-push.ensures.items)
    (one_crossing_more prepared.word prepared.point n c.loop-place.crossings.items c.crossing_at.result c.loop-place.invariant c.crossing_at.ensures)

pub returns-clause-word : goal.returns-clause-word
returns-clause-word c = subst IsWord c.word.ensures.word c.letters-edge-items.ensures.is_word

pub returns-clause-crossings : goal.returns-clause-crossings
returns-clause-crossings c =
    let prepared = c.args.prepared.now in
    let same : length c.letters-edge-items.result.now ≡ length prepared.word = ap length (c.letters-edge-items.ensures.all ∙ c.word.ensures.word) in
    let all : c.loop-place.place ≡ length prepared.word = omega (arith, c.loop-place-test.false, c.loop-place.auto.place-end, same) in
    subst (λ (n : ℕ). AreFirst prepared.word prepared.point n c.loop-place.crossings.items) all c.loop-place.invariant
