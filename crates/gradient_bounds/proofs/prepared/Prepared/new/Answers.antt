use Rattle.std.proofs.Common.{◌≡◌, ◌∙◌, sym, ap, subst, subst₂, length, drop, arith}
use Rattle.std.specs.List.{All}
use Rattle.std.specs.Prelude.{Err}
use Rattle.std.proofs.lemmas.List.{take_at}
use Rattle.std.proofs.lemmas.Result.{err_from_is_err_and}
use Rattle.edge_words.specs.Stable.{IsStable}
use Rattle.edge_words.specs.Word.{IsWord}
use Rattle.gradient_bounds.specs.HeightSums.{IsHeightSums, dirs_of}
use Rattle.gradient_bounds.specs.Kept.{IsSmallEntry, AreUppers, AreLowers}
use Rattle.gradient_bounds.proofs.Refusals.{refused_by_memory, refused_by_functions, not_refused}
use Rattle.gradient_bounds.proofs.Tests.{prepared_from}
use Rattle.gradient_bounds.proofs.prepared.Prepared.new.Goals as goal

pub returns-in_err-unfolding-clause-unstable : goal.returns-in_err-unfolding-clause-unstable
returns-in_err-unfolding-clause-unstable g c =
    let stable : IsStable c.args.word.now = c.is_stable.ensures.0 c.if-not-is_stable.false in
    let refused = err_from_is_err_and c.from_residual.result c.from_residual.ensures.1 in
    refused_by_memory c.args.word.now c.from_residual.result refused.0 stable refused.1 refused.2

pub returns-in_err-steps-clause-unstable : goal.returns-in_err-steps-clause-unstable
returns-in_err-steps-clause-unstable g c =
    let stable : IsStable c.args.word.now = c.is_stable.ensures.0 c.if-not-is_stable.false in
    let refused = err_from_is_err_and c.from_residual-in_err-steps.result c.from_residual-in_err-steps.ensures.1 in
    let shift = c.in_ok-unfolding.ensures.stable.1 (subst IsStable (sym c.in_ok-unfolding.ensures.word) stable) in
    refused_by_functions c.args.word.now c.from_residual-in_err-steps.result refused.0 c.in_err-steps.field-0.0 stable refused.1 refused.2
    (λ is. c.in_err-steps.ensures.not_translate.0 (ap Err is) shift)

pub returns-in_err-functions-clause-unstable : goal.returns-in_err-functions-clause-unstable
returns-in_err-functions-clause-unstable g c =
    let stable : IsStable c.args.word.now = c.is_stable.ensures.0 c.if-not-is_stable.false in
    let refused = err_from_is_err_and c.from_residual-in_err-functions.result c.from_residual-in_err-functions.ensures.1 in
    refused_by_memory c.args.word.now c.from_residual-in_err-functions.result refused.0 stable refused.1 refused.2

pub returns-in_err-table-clause-unstable : goal.returns-in_err-table-clause-unstable
returns-in_err-table-clause-unstable g c =
    let stable : IsStable c.args.word.now = c.is_stable.ensures.0 c.if-not-is_stable.false in
    let refused = err_from_is_err_and c.from_residual-in_err-table.result c.from_residual-in_err-table.ensures.1 in
    refused_by_memory c.args.word.now c.from_residual-in_err-table.result refused.0 stable refused.1 refused.2

pub returns-in_err-sums-clause-unstable : goal.returns-in_err-sums-clause-unstable
returns-in_err-sums-clause-unstable g c =
    let stable : IsStable c.args.word.now = c.is_stable.ensures.0 c.if-not-is_stable.false in
    let refused = err_from_is_err_and c.from_residual-in_err-sums.result c.from_residual-in_err-sums.ensures.1 in
    refused_by_memory c.args.word.now c.from_residual-in_err-sums.result refused.0 stable refused.1 refused.2

pub returns-in_err-uppers-clause-unstable : goal.returns-in_err-uppers-clause-unstable
returns-in_err-uppers-clause-unstable g c =
    let stable : IsStable c.args.word.now = c.is_stable.ensures.0 c.if-not-is_stable.false in
    let refused = err_from_is_err_and c.from_residual-in_err-uppers.result c.from_residual-in_err-uppers.ensures.1 in
    refused_by_memory c.args.word.now c.from_residual-in_err-uppers.result refused.0 stable refused.1 refused.2

pub returns-in_err-lowers-clause-unstable : goal.returns-in_err-lowers-clause-unstable
returns-in_err-lowers-clause-unstable g c =
    let stable : IsStable c.args.word.now = c.is_stable.ensures.0 c.if-not-is_stable.false in
    let refused = err_from_is_err_and c.from_residual-in_err-lowers.result c.from_residual-in_err-lowers.ensures.1 in
    refused_by_memory c.args.word.now c.from_residual-in_err-lowers.result refused.0 stable refused.1 refused.2

pub number-requires-clause-small : goal.number-requires-clause-small
number-requires-clause-small g c = subst (All IsSmallEntry) (sym c.deref-2.ensures.value) c.in_ok-table.ensures.small

pub number-requires-clause-sums : goal.number-requires-clause-sums
number-requires-clause-sums g c =
    subst₂ (λ f es. IsHeightSums f (dirs_of es) c.in_ok-sums.sums) (sym c.in_ok-functions.ensures) (c.deref.ensures.value ∙ sym c.deref-2.ensures.value)
    (c.in_ok-sums.ensures c.in_ok-unfolding.unfolding c.in_ok-steps.ensures.steps)

pub invariant_of-result : goal.invariant_of-result
invariant_of-result g c =
    let w = c.args.word.now in
    let stable : IsStable w = c.is_stable.ensures.0 c.if-not-is_stable.false in
    let f = c.in_ok-functions.functions in
    let uppers = c.in_ok-uppers.uppers in
    let lowers = c.in_ok-lowers.lowers in
    let us_len : length c.number.new.uppers ≡ uppers.len =
    omega (arith, c.number.ensures.uppers.count, c.in_ok-uppers.ensures, c.letters.ensures.count, uppers.ok.0) in
    let ls_len : length c.number.new.lowers ≡ lowers.len =
    omega (arith, c.number.ensures.lowers.count, c.in_ok-lowers.ensures, c.letters-2.ensures.count, lowers.ok.0) in
    prepared_from g.S.Scale.BITS w c.copied.result c.in_ok-unfolding.unfolding f c.number.new.self c.in_ok-table.table.items _ _
    c.number.new.uppers c.number.new.lowers c.copied.ensures c.in_ok-unfolding.ensures.word c.in_ok-functions.ensures
    (subst IsWord c.unfolding.view_is c.unfolding.invariant.word) stable c.in_ok-table.ensures.directions c.in_ok-table.ensures.small
    (subst (λ es. AreUppers f es c.number.new.uppers) c.deref-2.ensures.value c.number.ensures.uppers)
    (subst (λ es. AreLowers f es c.number.new.lowers) c.deref-2.ensures.value c.number.ensures.lowers)
    (take_at c.number.new.uppers (drop (length c.number.new.uppers) uppers.items) uppers.len us_len)
    (take_at c.number.new.lowers (drop (length c.number.new.lowers) lowers.items) lowers.len ls_len)
    (subst (λ es. IsHeightSums f (dirs_of es) c.number.new.self) c.deref-2.ensures.value c.number.ensures.sums)

pub returns-clause-stable : goal.returns-clause-stable
returns-clause-stable g c =
    let w = c.args.word.now in
    let stable : IsStable w = c.is_stable.ensures.0 c.if-not-is_stable.false in
    subst IsStable (sym c.copied.ensures) stable

pub returns-clause-unstable : goal.returns-clause-unstable
returns-clause-unstable g c =
    let stable : IsStable c.args.word.now = c.is_stable.ensures.0 c.if-not-is_stable.false in
    not_refused c.args.word.now _ stable
