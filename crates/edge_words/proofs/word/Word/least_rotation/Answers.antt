use Rattle.std.proofs.Common.{◌≡◌, ◌+◌, length, is_lt, sym, ◌∙◌, ap, subst, arith}
use Rattle.std.specs.Ordering.{nat_cmp}
use Rattle.std.proofs.lemmas.List.{append-nil}
use Rattle.std.specs.Cmp.Lexicographic.{slice_cmp}
use Rattle.edge_words.specs.Canonical.{rotated, IsRotation, IsAtMost}
use Rattle.edge_words.proofs.Bracelet.{IsLeastBelow, least_of_first, least_kept, least_replaced, length_of_rotation}
use Rattle.edge_words.proofs.word.Word.least_rotation.Goals as goal
use Rattle.edge_words.proofs.word.Word.least_rotation.Goals.{then-is_lt, else-is_lt}

pub loop-by-init : goal.loop-by-init
loop-by-init c =
    let all = c.letters-letters.ensures.all in
    least_of_first _ _ (omega (arith, ap length all, c.letters-letters.ensures.is_word.even_length.at_least))
    (c.copied-least.ensures ∙ sym all ∙ sym (append-nil c.letters-letters.result.now))

pub compare_rotated-requires-clause-len : goal.compare_rotated-requires-clause-len
compare_rotated-requires-clause-len c = sym (ap length c.letters.ensures.all ∙ length_of_rotation _ _ c.loop-by.invariant.rotation)

pub loop-by-preserved : goal.loop-by-preserved
loop-by-preserved c =
    let all = c.letters-letters.ensures.all in
    let w = c.letters-letters.result.now in
    let v = c.loop-by.least in
    let n = c.loop-by.by in
    let tells : c.is_lt.result ≡ is_lt (slice_cmp nat_cmp (rotated n w) v) = c.is_lt.ensures
    ∙ ap is_lt (c.compare_rotated.ensures ∙ ap (slice_cmp nat_cmp (rotated n w)) c.letters.ensures.all) in
    elim c.if-is_lt.branch [
      | then-is_lt b ↦ least_replaced w v c.if-is_lt.least n (omega arith) (sym tells ∙ b.if-is_lt.true)
          (b.least-is ∙ b.rotate-least.ensures ∙ ap (rotated n) (sym all)) c.loop-by.invariant
      | else-is_lt b ↦ subst (λ x. IsLeastBelow w x (n + 1)) (sym b.least-is) (least_kept w v n (sym tells ∙ b.if-is_lt.false) c.loop-by.invariant)
    ]

pub returns-clause-rotation : goal.returns-clause-rotation
returns-clause-rotation c = subst (λ w. IsRotation w c.loop-by.least) c.letters-letters.ensures.all c.loop-by.invariant.rotation

pub returns-clause-least : goal.returns-clause-least
returns-clause-least c by below =
    let all = c.letters-letters.ensures.all in
    subst (λ w. IsAtMost c.loop-by.least (rotated by w)) all (c.loop-by.invariant.least by (omega (arith, ap length all)))
