use Rattle.std.proofs.Common.{◌≡◌, reverse, length, sym, ◌∙◌, ap, subst}
use Rattle.std.proofs.lemmas.List.{take_at}
use Rattle.edge_words.specs.Word.{IsWord}
use Rattle.edge_words.proofs.Turns.{IsWord-reverse}
use Rattle.edge_words.proofs.word.Word.reverse.Goals as goal

pub invariant_of-result : goal.invariant_of-result
invariant_of-result c =
    let whole = c.as_mut_slice.ensures.value ∙ c.own_letters-letters.ensures.all in
    let turned : c.reverse.new.self ≡ reverse c.args.self.now = c.reverse.ensures.after ∙ ap reverse whole in
    subst IsWord (sym (take_at _ _ _ (c.reverse.ensures.len ∙ ap length c.as_mut_slice.ensures.value) ∙ turned))
    (IsWord-reverse _ c.own_letters-letters.ensures.is_word)
