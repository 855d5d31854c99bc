-- The next of the others stands in the union, is one too many, or is added.
use Rattle.std.proofs.Common.{◌∙◌, sym, subst, List, ℕ, ap, length}
use Rattle.cover_merge.specs.Union.{Lists}
use Rattle.cover_merge.proofs.Uniting.{next_is_old, next_is_added, new_word, room_for_one, one_too_many}
use Rattle.cover_merge.proofs.words.unite.Goals as goal

pub loop-before-preserved-then-has_word : goal.loop-before-preserved-then-has_word
loop-before-preserved-then-has_word c = record {
  union = next_is_old c.args.words.now c.args.others.now c.loop-before.union.items c.index-others-before.result c.loop-before.before
      c.loop-before-test.true c.index-others-before.is c.loop-before.invariant.union
      (subst (λ (ws : List (List ℕ)). Lists ws c.index-others-before.result) c.as_slice.ensures.value (c.has_word.ensures.0 c.if-has_word.true));
  few = c.loop-before.invariant.few;
}

pub returns-then-as_slice : goal.returns-then-as_slice
returns-then-as_slice c =
    one_too_many c.args.words.now c.args.others.now c.loop-before.union.items c.index-others-before.result c.loop-before.before c.loop-before-test.true
    c.index-others-before.is c.loop-before.invariant.union (sym (ap length c.as_slice-in-loop-before.ensures.value) ∙ c.if-as_slice.true)
    (new_word c.has_word.result c.as_slice.result.now c.loop-before.union.items c.index-others-before.result c.as_slice.ensures.value c.has_word.ensures.1
    c.if-has_word.false)

pub loop-before-preserved : goal.loop-before-preserved
loop-before-preserved c = record {
  union = next_is_added c.args.words.now c.args.others.now c.loop-before.union.items c.push.new.self.items c.index-others-before.result
      c.copied-in-loop-before.result c.loop-before.before c.loop-before-test.true c.index-others-before.is c.loop-before.invariant.union
      (new_word c.has_word.result c.as_slice.result.now c.loop-before.union.items c.index-others-before.result c.as_slice.ensures.value c.has_word.ensures.1
      c.if-has_word.false) c.copied-in-loop-before.ensures c.in_ok-push.ensures.items;
  few = room_for_one c.loop-before.union.items c.push.new.self.items c.copied-in-loop-before.result c.loop-before.invariant.few
      (λ full. c.if-as_slice.false (ap length c.as_slice-in-loop-before.ensures.value ∙ full)) c.in_ok-push.ensures.items;
}
