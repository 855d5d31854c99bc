use Rattle.std.proofs.Common.{◌<◌, length, refl, sym, arith}
use Rattle.edge_words.specs.Canonical.{rotated}
use Rattle.word_search.proofs.Orders.{at_most_where_before, at_most_where_same, before_at, length-rotated, not_at_most_where_before}
use Rattle.word_search.proofs.least.is_at_most_rotated.Goals as goal

pub returns-then-letters-index : goal.returns-then-letters-index
returns-then-letters-index c =
    let turned = rotated c.args.by c.args.others.now in
    let len = length-rotated c.args.others.now c.args.by c.requires.by in
    let i = c.loop-index.index in
    let inside : i < length c.args.letters.now = omega (arith, c.loop-index-test.true) in (
      λ same. at_most_where_before c.args.letters.now turned
          (before_at c.args.letters.now turned i inside (omega (arith, len, inside, c.requires.count)) c.loop-index.invariant
          (omega (arith, c.if-letters-index.true, c.rotated_letter-other.ensures))),
      λ all. refl,
    )

pub returns-then-other-letters : goal.returns-then-other-letters
returns-then-other-letters c =
    let turned = rotated c.args.by c.args.others.now in
    let len = length-rotated c.args.others.now c.args.by c.requires.by in
    let i = c.loop-index.index in
    let inside : i < length c.args.letters.now = omega (arith, c.loop-index-test.true) in (
      λ same. cc,
      λ all. absurd (not_at_most_where_before c.args.letters.now turned
          (before_at turned c.args.letters.now i (omega (arith, len, inside, c.requires.count)) inside (λ k below. sym (c.loop-index.invariant k below))
          (omega (arith, c.if-other-letters.true, c.rotated_letter-other.ensures))) all),
    )

pub returns : goal.returns
returns c =
    let turned = rotated c.args.by c.args.others.now in
    let len = length-rotated c.args.others.now c.args.by c.requires.by in (
      λ same. at_most_where_same c.args.letters.now turned (omega (arith, len, c.requires.count))
          (λ k below. c.loop-index.invariant k (omega (arith, below, c.loop-index-test.false))),
      λ all. refl,
    )
