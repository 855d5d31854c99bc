use Rattle.std.proofs.Common.{◌≡◌, ◌+◌, ◌<◌, [], ◌∷◌, ◌++◌, length, sym, ◌∙◌, ap, subst, arith}
use Rattle.word_search.specs.Cuts.{IsListOf, StartsBefore, StartsAtMost}
use Rattle.word_search.specs.Words.{IsSearched}
use Rattle.word_search.proofs.Cuts.{cut_first, cut_last, cut_left, cut_next, left_whole}
use Rattle.word_search.proofs.Lists.{list_of_same, list_push}
use Rattle.word_search.proofs.walk.+extend.Goals as goal
use Rattle.word_search.proofs.walk.+extend.Goals.{in-Some-with+in_ok-extend, in_default-with}

pub returns-in_ok-push : goal.returns-in_ok-push
returns-in_ok-push t c =
    let p = c.args.prefix.now in
    let n = c.args.count in
    let len : length c.letters.result.now ≡ n = ap length c.letters.ensures.all ∙ sym c.len.ensures ∙ c.if-len-count.true in
    let is : IsSearched n p = subst (IsSearched n) c.letters.ensures.all (subst (λ k. IsSearched k c.letters.result.now) len c.in-Some.ensures.1) in
    let word : c.in-Some.word ≡ p = c.in-Some.ensures.0 ∙ c.letters.ensures.all in
    subst (IsListOf (StartsAtMost p) n) (sym (c.in_ok-push.ensures.items ∙ ap (λ w. c.args.found.now.items ++ w ∷ []) word))
    (list_push n p c.args.found.now.items is c.requires.before)

pub returns-in_default : goal.returns-in_default
returns-in_default t c =
    let p = c.args.prefix.now in
    let n = c.args.count in
    let len : length p ≡ n = sym c.len.ensures ∙ c.if-len-count.true in
    list_of_same (StartsBefore p) (StartsAtMost p) n c.args.found.now.items
    (λ w is. cut_left n p w (left_whole n p len (λ of. c.in_default.ensures
    (subst (λ v. IsSearched (length v) v) (sym c.letters.ensures.all) (subst (λ k. IsSearched k p) (sym len) of)))) is)
    c.requires.before

pub letter-init : goal.letter-init
letter-init t c =
    let p = c.args.prefix.now in
    let n = c.args.count in
    let short : length p < n = omega (arith, c.len.ensures, c.if-len-count.false) in
    record {
      short = short;
      before = list_of_same (StartsBefore p) (StartsBefore (p ++ 1 ∷ [])) n c.args.found.now.items (λ w is. cut_first n p w short is) c.requires.before;
    }

pub letter-preserved : goal.letter-preserved
letter-preserved t c =
    let p = c.args.prefix.now in
    let n = c.args.count in
    let x = c.letter.letter in
    let short = c.letter.invariant.short in
    let more : IsListOf (StartsAtMost (p ++ x ∷ [])) n c.match-with.found.items =
    elim c.match-with.branch [
      | in-Some-with+in_ok-extend w ↦ rw w.found-is
          (subst (λ q. IsListOf (StartsAtMost q) n w.extend.new.found.items) w.in-Some-with.ensures w.in_ok-extend.ensures)
      | in_default-with w ↦ rw w.found-is (list_of_same (StartsBefore (p ++ x ∷ [])) (StartsAtMost (p ++ x ∷ [])) n _
          (λ v is. cut_left n (p ++ x ∷ []) v w.in_default-with.ensures is) c.letter.invariant.before)
    ] in
    record {
      short = short;
      before = list_of_same (StartsAtMost (p ++ x ∷ [])) (StartsBefore (p ++ (x + 1) ∷ [])) n c.match-with.found.items
          (λ w is. cut_next n p x w short is) more;
    }

pub returns : goal.returns
returns t c =
    let p = c.args.prefix.now in
    let n = c.args.count in
    let last : c.letter.letter ≡ 4 = omega arith in
    list_of_same (StartsBefore (p ++ 4 ∷ [])) (StartsAtMost p) n c.letter.found.items (λ w is. cut_last n p w c.letter.invariant.short is)
    (subst (λ x. IsListOf (StartsBefore (p ++ x ∷ [])) n c.letter.found.items) last c.letter.invariant.before)
