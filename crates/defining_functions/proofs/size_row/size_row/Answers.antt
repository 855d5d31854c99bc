use Rattle.std.proofs.Common.{◌≡◌, ◌+◌, slice_index_or, sym, subst, ◌∙◌}
use Rattle.std.specs.List.{All}
use Rattle.std.proofs.lemmas.List.{get_or_default}
use Rattle.exp_sums.specs.FormalPoint.{FormalPoint, ◌-ₚ◌}
use Rattle.exp_sums.specs.declared.sizes.Sizes.{Sizes}
use Rattle.defining_functions.specs.Functions.{IsWithinFunctionLimits}
use Rattle.defining_functions.specs.Sizes.{sizes_of, AreAtMost, AreSmall}
use Rattle.defining_functions.specs.Tables.{IsTable}
use Rattle.defining_functions.proofs.Tables.{IsTable-snoc}
use Rattle.defining_functions.proofs.Sizes.{all_at_most, all_at_least, difference_small, sizes_are}
use Rattle.defining_functions.proofs.size_row.size_row.Goals as goal

pub greater_sizes-greatest-requires-clause-second : goal.greater_sizes-greatest-requires-clause-second
greater_sizes-greatest-requires-clause-second c =
    let next = c.sizes_of_difference-next in
    let next_is = sizes_are next.result (c.args.upper.now -ₚ c.lower-item.result) next.ensures.weight next.ensures.reach next.ensures.bend in
    subst AreSmall (sym next_is)
    (difference_small c.args.upper.now c.lower-item.result c.requires.upper
    (subst IsWithinFunctionLimits (sym c.lower-item.is)
    (c.requires.lowers c.loop-lower.lower-index c.lower-item.result c.loop-lower-test.true)))

pub loop-lower-preserved : goal.loop-lower-preserved
loop-lower-preserved c =
    let i = c.loop-lower.lower-index in
    let upper = c.args.upper.now in
    let lowers = c.args.lowers.now in
    let made = c.sizes_of_difference-next in
    let next = made.result in
    let next_is = sizes_are next (upper -ₚ c.lower-item.result) made.ensures.weight made.ensures.reach made.ensures.bend in
    let most = c.greater_sizes-greatest in
    let fewest = c.lesser_sizes-least in
    subst
    (λ xs. record {
      each : IsTable (λ j sizes. (q : FormalPoint) → sizes ≡ sizes_of (upper -ₚ slice_index_or lowers j q)) (i + 1) xs;
      greatest : All (λ s. AreAtMost s most.result) xs;
      small : AreSmall most.result;
      least : All (λ s. AreAtMost fewest.result s) xs;
      least_small : AreSmall fewest.result;
    })
    (sym c.in_ok-push.ensures.items)
    (record {
      each = IsTable-snoc _ i c.loop-lower.sizes.items next c.loop-lower.invariant.each
          (λ q. subst (λ r. next ≡ sizes_of (upper -ₚ r)) (c.lower-item.is ∙ get_or_default lowers i c.lower-item.result q c.loop-lower-test.true) next_is);
      greatest = all_at_most (λ (s : Sizes). s) c.loop-lower.sizes.items next c.loop-lower.greatest most.result c.loop-lower.invariant.greatest
          most.ensures.first most.ensures.second;
      small = most.ensures.small;
      least = all_at_least (λ (s : Sizes). s) c.loop-lower.sizes.items next c.loop-lower.least fewest.result c.loop-lower.invariant.least
          fewest.ensures.first fewest.ensures.second;
      least_small = fewest.ensures.small;
    })
