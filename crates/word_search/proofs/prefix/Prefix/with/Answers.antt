use Rattle.std.proofs.Common.{◌≡◌, ◌+◌, [], ◌∷◌, ◌++◌, length, reverse, take, sym, ◌∙◌, ap, subst, arith, length-take-le}
use Rattle.std.proofs.lemmas.List.{length_push}
use Rattle.word_search.specs.Cuts.{IsBefore}
use Rattle.word_search.specs.Prefixes.{AreCounts, IsBorder}
use Rattle.word_search.proofs.Counts.{counts_few, left_by_odd}
use Rattle.word_search.proofs.Kept.{kept_more, letters_more}
use Rattle.word_search.proofs.Prunings.{left_back}
use Rattle.word_search.proofs.prefix.Prefix.with.Goals as goal

pub counted-requires-clause-few : goal.counted-requires-clause-few
counted-requires-clause-few c =
    let len : length (take c.self.inside.len c.self.inside.letters) ≡ c.self.inside.len =
    length-take-le c.self.inside.len c.self.inside.letters (omega arith) in
    let few = counts_few (take c.self.inside.len c.self.inside.letters) c.self.inside.odd c.self.inside.even c.args.letter c.requires.letter
    c.self.invariant.counts in
    (omega (arith, few.0, len), omega (arith, few.1, len))

pub returns-then-is_over : goal.returns-then-is_over
returns-then-is_over c =
    let len : length (take c.self.inside.len c.self.inside.letters) ≡ c.self.inside.len =
    length-take-le c.self.inside.len c.self.inside.letters (omega arith) in
    let p = c.args.self.now ++ c.args.letter ∷ [] in
    let counts : AreCounts p c.counted.result.0 c.counted.result.1 = subst (λ q. AreCounts (q ++ c.args.letter ∷ []) c.counted.result.0 c.counted.result.1)
    c.self.view_is (c.counted.ensures (take c.self.inside.len c.self.inside.letters) len c.self.invariant.counts) in
    let long : length p ≡ c.self.inside.len + 1 = length_push c.args.self.now c.args.letter ∙ ap (λ k. k + 1) (ap length (sym c.self.view_is) ∙ len) in
    left_by_odd c.args.count p c.counted.result.0 c.counted.result.1 counts (omega (arith, c.is_over.ensures.0 c.if-is_over.true, long))

pub returns-then-is_before_reversed : goal.returns-then-is_before_reversed
returns-then-is_before_reversed c =
    let len : length (take c.self.inside.len c.self.inside.letters) ≡ c.self.inside.len =
    length-take-le c.self.inside.len c.self.inside.letters (omega arith) in
    let more = letters_more c.self.inside.letters c.args.self.now c.self.inside.len c.args.letter c.self.view_is
    (omega (arith, ap length c.self.view_is, len)) in
    left_back c.args.count (c.args.self.now ++ c.args.letter ∷ [])
    (subst (λ p. IsBefore (reverse p) p) more (c.is_before_reversed.ensures c.if-is_before_reversed.true))

pub invariant_of-result : goal.invariant_of-result
invariant_of-result c =
    let len : length (take c.self.inside.len c.self.inside.letters) ≡ c.self.inside.len =
    length-take-le c.self.inside.len c.self.inside.letters (omega arith) in
    kept_more c.self.inside.letters c.self.inside.odd c.self.inside.even c.counted.result.0 c.counted.result.1 c.self.inside.len c.self.inside.border
    c.in_ok-border.border c.args.letter c.self.invariant (omega (arith, ap length c.self.view_is, len)) (omega (arith, ap length c.self.view_is, len))
    c.requires.letter (subst (λ p. IsBorder (p ++ c.args.letter ∷ []) c.in_ok-border.border) (sym c.self.view_is) c.in_ok-border.ensures)
    (c.counted.ensures (take c.self.inside.len c.self.inside.letters) len c.self.invariant.counts)
