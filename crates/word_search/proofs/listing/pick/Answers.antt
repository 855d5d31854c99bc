use Rattle.std.proofs.Common.{List, ℕ, [], ◌∷◌, ◌++◌, length, sym, ap, subst, arith, append_assoc}
use Rattle.rat_core.specs.Written.{value}
use Rattle.word_search.specs.Search.{IsSearchResult}
use Rattle.word_search.specs.Words.{IsListOfWords}
use Rattle.word_search.proofs.Results.{IsTested, next_word, result_picked, result_passed}
use Rattle.word_search.proofs.listing.pick.Goals as goal

pub shows-open-requires-clause-stable : goal.shows-open-requires-clause-stable
shows-open-requires-clause-stable c =
    let list = subst (λ (ws : List (List ℕ)). IsListOfWords c.args.count (c.word.yielded ++ ws)) c.in-Some.ensures.steps.0 c.word.invariant.words in
    (next_word c.args.count c.word.yielded c.next.new.self.rest.items c.in-Some.word list).is.stable

pub shows-open-requires-clause-few : goal.shows-open-requires-clause-few
shows-open-requires-clause-few c =
    let list = subst (λ (ws : List (List ℕ)). IsListOfWords c.args.count (c.word.yielded ++ ws)) c.in-Some.ensures.steps.0 c.word.invariant.words in
    let count = (next_word c.args.count c.word.yielded c.next.new.self.rest.items c.in-Some.word list).count in
    omega (arith, count, c.requires.count)

pub word-preserved-in-Continue-branch-2 : goal.word-preserved-in-Continue-branch-2
word-preserved-in-Continue-branch-2 c =
    let steps = c.in-Some.ensures.steps in
    let list = subst (λ (ws : List (List ℕ)). IsListOfWords c.args.count (c.word.yielded ++ ws)) steps.0 c.word.invariant.words in
    record {
      left = omega (arith, steps.1, c.word.invariant.left, ap length steps.0);
      words = subst (IsListOfWords c.args.count) (sym (append_assoc c.word.yielded (c.in-Some.word ∷ []) c.next.new.self.rest.items)) list;
      result = subst (λ (ws : List (List ℕ)). IsSearchResult (value c.args.plane.now.0) (value c.args.plane.now.1)
          (IsTested c.args.count (c.word.yielded ++ c.in-Some.word ∷ [])) ws) (sym c.in_ok-push.ensures.items)
          (result_picked (value c.args.plane.now.0)
          (value c.args.plane.now.1) c.args.count c.word.yielded c.next.new.self.rest.items c.in-Some.word c.word.found.items list
          (c.shows-open.ensures.open c.if-open.true) c.word.invariant.result);
    }

pub word-preserved-else-open : goal.word-preserved-else-open
word-preserved-else-open c =
    let steps = c.in-Some.ensures.steps in
    let list = subst (λ (ws : List (List ℕ)). IsListOfWords c.args.count (c.word.yielded ++ ws)) steps.0 c.word.invariant.words in
    record {
      left = omega (arith, steps.1, c.word.invariant.left, ap length steps.0);
      words = subst (IsListOfWords c.args.count) (sym (append_assoc c.word.yielded (c.in-Some.word ∷ []) c.next.new.self.rest.items)) list;
      result = result_passed (value c.args.plane.now.0) (value c.args.plane.now.1) c.args.count c.word.yielded c.in-Some.word c.word.found.items
          (c.shows-open.ensures.not_shown c.if-open.false) c.word.invariant.result;
    }

pub word-preserved : goal.word-preserved
word-preserved c =
    let steps = c.in-Some.ensures.steps in
    let list = subst (λ (ws : List (List ℕ)). IsListOfWords c.args.count (c.word.yielded ++ ws)) steps.0 c.word.invariant.words in
    record {
      left = omega (arith, steps.1, c.word.invariant.left, ap length steps.0);
      words = subst (IsListOfWords c.args.count) (sym (append_assoc c.word.yielded (c.in-Some.word ∷ []) c.next.new.self.rest.items)) list;
      result = result_passed (value c.args.plane.now.0) (value c.args.plane.now.1) c.args.count c.word.yielded c.in-Some.word c.word.found.items
          (c.shows-open.ensures.not_shown c.if-open.false) c.word.invariant.result;
    }
