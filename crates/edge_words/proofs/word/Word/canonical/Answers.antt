use Rattle.std.proofs.Common.{◌≡◌, ℕ, ◌<◌, inl, inr, is_lt, length, sym, ◌∙◌, ap, subst}
use Rattle.std.specs.Ordering.{nat_cmp}
use Rattle.std.specs.Cmp.Lexicographic.{slice_cmp}
use Rattle.edge_words.specs.Canonical.{rotated, IsRotation, IsAtMost}
use Rattle.edge_words.proofs.Bracelet.{least_of_both}
use Rattle.edge_words.proofs.Lexicographic.{at_most_itself, at_most_where_less, at_most_where_not_less, is_lt-from_partial}
use Rattle.edge_words.proofs.word.Word.canonical.Goals as goal

pub returns-then-lt : goal.returns-then-lt
returns-then-lt c =
    let w = c.args.self.now in
    let forwards = c.least_rotation-forwards.result in
    let backwards = c.least_rotation-backwards.result in
    let tells : c.lt.result ≡ is_lt (slice_cmp nat_cmp backwards forwards) = c.lt.ensures
    ∙ is_lt-from_partial c.letters.result.now c.letters-2.result.now
    ∙ ap (λ v. is_lt (slice_cmp nat_cmp v c.letters-2.result.now)) c.letters.ensures.all
    ∙ ap (λ v. is_lt (slice_cmp nat_cmp backwards v)) c.letters-2.ensures.all in
    least_of_both w backwards forwards backwards
    (inr (subst (λ v. IsRotation v backwards) c.reverse.ensures c.least_rotation-backwards.ensures.rotation))
    (at_most_where_less backwards forwards (sym tells ∙ c.if-lt.true))
    (at_most_itself backwards)
    c.least_rotation-forwards.ensures.least
    (subst (λ v. (by : ℕ) → by < length v → IsAtMost backwards (rotated by v)) c.reverse.ensures c.least_rotation-backwards.ensures.least)

pub returns-else-lt : goal.returns-else-lt
returns-else-lt c =
    let w = c.args.self.now in
    let forwards = c.least_rotation-forwards.result in
    let backwards = c.least_rotation-backwards.result in
    let tells : c.lt.result ≡ is_lt (slice_cmp nat_cmp backwards forwards) = c.lt.ensures
    ∙ is_lt-from_partial c.letters.result.now c.letters-2.result.now
    ∙ ap (λ v. is_lt (slice_cmp nat_cmp v c.letters-2.result.now)) c.letters.ensures.all
    ∙ ap (λ v. is_lt (slice_cmp nat_cmp backwards v)) c.letters-2.ensures.all in
    least_of_both w forwards forwards backwards
    (inl c.least_rotation-forwards.ensures.rotation)
    (at_most_itself forwards)
    (at_most_where_not_less forwards backwards (sym tells ∙ c.if-lt.false))
    c.least_rotation-forwards.ensures.least
    (subst (λ v. (by : ℕ) → by < length v → IsAtMost backwards (rotated by v)) c.reverse.ensures c.least_rotation-backwards.ensures.least)
