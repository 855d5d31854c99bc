use Rattle.std.proofs.Common.{◌≡◌, ◌+◌, length, slice_index_or, sym, subst, ◌∙◌, arith}
use Rattle.std.specs.List.{All}
use Rattle.std.proofs.lemmas.List.{get_or_default}
use Rattle.exp_sums.specs.FormalPoint.{FormalPoint}
use Rattle.defining_functions.specs.declared.size_row.SizeRow.{SizeRow}
use Rattle.defining_functions.specs.Kept.{IsSizeRow}
use Rattle.defining_functions.specs.Sizes.{AreAtMost, AreSmall}
use Rattle.defining_functions.specs.Tables.{IsTable}
use Rattle.defining_functions.proofs.Tables.{IsTable-snoc}
use Rattle.defining_functions.proofs.Sizes.{all_at_most}
use Rattle.defining_functions.proofs.size_table.size_table.Goals as goal

pub loop-upper-preserved : goal.loop-upper-preserved
loop-upper-preserved c =
    let i = c.loop-upper.upper-index in
    let uppers = c.args.uppers.now in
    let lowers = c.args.lowers.now in
    let row = c.in_ok-row.row in
    let most = c.greater_sizes-greatest in
    subst
    (λ xs. record {
      each : IsTable (λ i row. (p : FormalPoint) → IsSizeRow (slice_index_or uppers i p) lowers row) (i + 1) xs;
      greatest : All (λ (row : SizeRow). AreAtMost row.greatest most.result) xs;
      small : AreSmall most.result;
    })
    (sym c.in_ok-push.ensures.items)
    (record {
      each = IsTable-snoc _ i c.loop-upper.rows.items row c.loop-upper.invariant.each
          (λ p. subst (λ q. IsSizeRow q lowers row) (c.upper-item.is ∙ get_or_default uppers i c.upper-item.result p c.loop-upper-test.true)
          c.in_ok-row.ensures);
      greatest = all_at_most (λ (row : SizeRow). row.greatest) c.loop-upper.rows.items row c.loop-upper.greatest most.result
          c.loop-upper.invariant.greatest most.ensures.first most.ensures.second;
      small = most.ensures.small;
    })

pub returns : goal.returns
returns c =
    let all : c.loop-upper.upper-index ≡ length c.args.uppers.now = omega (arith, c.loop-upper-test.false, c.loop-upper.auto.upper-index-end) in
    record {
      each = subst (λ n. IsTable (λ i row. (p : FormalPoint) → IsSizeRow (slice_index_or c.args.uppers.now i p) c.args.lowers.now row) n
          c.loop-upper.rows.items) all c.loop-upper.invariant.each;
      greatest = c.loop-upper.invariant.greatest;
      small = c.loop-upper.invariant.small;
    }
