use Rattle.std.proofs.Common.{refl, sym, ◌∙◌, arith}
use Rattle.std.proofs.lemmas.Bool.{eqb-true, eq-eqb}
use Rattle.edge_words.proofs.Balance.{another_letter, found_at_odd, found_at_even, all_counted}
use Rattle.edge_words.proofs.stability.is_balanced.Goals as goal
use Rattle.edge_words.proofs.stability.is_balanced.Goals.{then-found-letter+then-index-eq0, then-found-letter+else-index-eq0, else-found-letter}

pub loop-index-init : goal.loop-index-init
loop-index-init c = record { odd = refl; even = refl; odd_bound = omega arith; even_bound = omega arith }

pub loop-index-preserved : goal.loop-index-preserved
loop-index-preserved c =
    elim c.if-found-letter.branch [
      | then-found-letter+then-index-eq0 w ↦ rw (w.at_odd-is, w.at_even-is)
          (found_at_odd _ _ _ _ _ c.loop-index-test.true w.if-found-letter.true w.if-index-eq0.true c.loop-index.invariant)
      | then-found-letter+else-index-eq0 w ↦ rw (w.at_odd-is, w.at_even-is)
          (found_at_even _ _ _ _ _ c.loop-index-test.true w.if-found-letter.true w.if-index-eq0.false c.loop-index.invariant)
      | else-found-letter w ↦ rw (w.at_odd-is, w.at_even-is) (another_letter _ _ _ _ _ c.loop-index-test.true w.if-found-letter.false c.loop-index.invariant)
    ]

pub returns : goal.returns
returns c =
    let all = all_counted _ _ _ _ _ (omega arith) c.loop-index.invariant in
    (λ same. sym all.0 ∙ eqb-true _ _ same ∙ all.1, λ same. eq-eqb _ _ (all.0 ∙ same ∙ sym all.1))
