use Rattle.std.proofs.Common.{◌≡◌, ◌∙◌, List, ◌∷◌, take, subst, sym, slice_index_or}
use Rattle.std.specs.Int.{int_min, int_max}
use Rattle.std.proofs.lemmas.List.{take_all, get_or_default}
use Rattle.bounce_path.specs.declared.crossing.Crossing.{Crossing}
use Rattle.bounce_path.specs.declared.gap.Gap.{Gap}
use Rattle.bounce_path.specs.Crossings.{IsGap}
use Rattle.bounce_path.proofs.Levels.{blank}
use Rattle.bounce_path.proofs.Gaps.{gap_one, gap_next, gap_all}
use Rattle.bounce_path.proofs.gap.gap_of.Goals as goal

pub loop-crossing-init : goal.loop-crossing-init
loop-crossing-init c =
    let crossings = c.args.crossings.now in
    let item = c.index-crossings-0.result in
    let first : item ≡ slice_index_or crossings 0 blank = c.index-crossings-0.is ∙ get_or_default crossings 0 item blank c.requires in
    subst (λ (x : Crossing). IsGap (x ∷ take 0 crossings) c.of_one-gap.result) first
    (subst (λ (g : Gap). IsGap (item ∷ take 0 crossings) g) (sym c.of_one-gap.ensures) (gap_one item))

pub loop-crossing-preserved : goal.loop-crossing-preserved
loop-crossing-preserved c =
    let crossings = c.args.crossings.now in
    let i = c.loop-crossing.crossing-index in
    let item = c.crossing-item.result in
    let here : item ≡ slice_index_or crossings i blank = c.crossing-item.is ∙ get_or_default crossings i item blank c.loop-crossing-test.true in
    gap_next (slice_index_or crossings 0 blank) crossings i blank c.loop-crossing.gap c.with-gap.result c.loop-crossing-test.true
    (subst (λ (x : Crossing). c.with-gap.result ≡ record {
      floor = int_max c.loop-crossing.gap.floor x.lower.hi;
      ceiling = int_min c.loop-crossing.gap.ceiling x.upper.lo;
    }) here c.with-gap.ensures) c.loop-crossing.invariant

pub returns : goal.returns
returns c =
    let crossings = c.args.crossings.now in
    let first = slice_index_or crossings 0 blank in
    gap_all crossings blank c.loop-crossing.gap c.requires
    (subst (λ (cs : List Crossing). IsGap (first ∷ cs) c.loop-crossing.gap)
    (take_all c.loop-crossing.crossing-index crossings c.loop-crossing-test.false) c.loop-crossing.invariant)
