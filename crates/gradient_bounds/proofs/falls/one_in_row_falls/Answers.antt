use Rattle.std.proofs.Common.{◌≡◌, refl, pos, length, slice_index_or, subst, FitsSigned, below_more, arith}
use Rattle.std.specs.Int.{w128}
use Rattle.std.proofs.lemmas.Int.{to_z-of_z}
use Rattle.gradient_bounds.specs.Decision.{needed_by, difference, FallsBelow, SomeInRowFalls}
use Rattle.gradient_bounds.proofs.AllEdges.{no_row_falls}
use Rattle.gradient_bounds.proofs.Deciding.{holds, fails, false_not, not_less, no_fall}
use Rattle.gradient_bounds.proofs.falls.one_in_row_falls.Goals.{else-gap-lt0-via-then-gap-lt0+else-falls_below, else-gap-lt0-via-else-gap-lt0}
use Rattle.gradient_bounds.proofs.falls.one_in_row_falls.Goals as goal

pub returns-then-falls_below : goal.returns-then-falls_below
returns-then-falls_below c =
    let w = c.args.functions.now in
    let k = c.args.k in
    let N = needed_by c.args.threshold.now in
    let edges = c.lower_edges-edges.result.now in
    let e = slice_index_or edges c.loop-l.l-index 0 in
    let gap : FitsSigned w128 c.difference-gap.result = record { sfits = c.difference-gap.type_inv } in
    let iff = simp to_z-of_z at c.if-falls_below.ensures in
    holds (SomeInRowFalls N w c.args.uppers.now c.args.lowers.now k)
    (record {
      lower = e;
      is_lower = c.lower_edges-edges.ensures.heights.places c.loop-l.l-index 0 c.loop-l-test.true;
      falls = subst (FallsBelow N w k e) c.difference-gap.ensures.is (iff.0 refl);
    })

pub loop-l-preserved : goal.loop-l-preserved
loop-l-preserved c =
    let w = c.args.functions.now in
    let k = c.args.k in
    let N = needed_by c.args.threshold.now in
    let edges = c.lower_edges-edges.result.now in
    let e = slice_index_or edges c.loop-l.l-index 0 in
    let gap : FitsSigned w128 c.difference-gap.result = record { sfits = c.difference-gap.type_inv } in
    let here : ¬ (FallsBelow N w k e c.difference-gap.result) = elim c.else-gap-lt0.branch [
      | else-gap-lt0-via-then-gap-lt0+else-falls_below w' ↦ false_not (FallsBelow N w k e c.difference-gap.result)
          (simp to_z-of_z at w'.if-falls_below.ensures)
      | else-gap-lt0-via-else-gap-lt0 w' ↦ no_fall c.args.threshold.now w k
          e c.difference-gap.result c.requires.threshold c.lower_edges-edges.ensures.shift
          (not_less c.difference-gap.result (pos 0) (simp to_z-of_z at w'.if-gap-lt0.false))
    ] in
    below_more (λ j. ¬ (FallsBelow N w k (slice_index_or edges j 0) (difference c.args.uppers.now c.args.lowers.now k (slice_index_or edges j 0))))
    c.loop-l.l-index c.loop-l.invariant (subst (λ z. ¬ (FallsBelow N w k e z)) c.difference-gap.ensures.is here)

pub returns : goal.returns
returns c =
    let w = c.args.functions.now in
    let k = c.args.k in
    let N = needed_by c.args.threshold.now in
    let edges = c.lower_edges-edges.result.now in
    let end : c.loop-l.l-index ≡ length edges = omega (arith, c.loop-l-test.false, c.loop-l.auto.l-index-end) in
    fails (SomeInRowFalls N w c.args.uppers.now c.args.lowers.now k)
    (no_row_falls N w c.args.uppers.now c.args.lowers.now c.requires.uppers c.requires.lowers k edges c.requires.place c.lower_edges-edges.ensures.heights
    (λ j below. c.loop-l.invariant j (omega (arith, end, below))))
