use Rattle.std.proofs.Common.{◌≡◌, length, sym, ◌∙◌, ap, subst}
use Rattle.std.proofs.lemmas.List.{take_at}
use Rattle.edge_words.specs.Canonical.{rotated}
use Rattle.edge_words.specs.Word.{IsWord}
use Rattle.edge_words.proofs.Turns.{IsWord-rotated}
use Rattle.edge_words.proofs.word.Word.rotate.Goals as goal

pub invariant_of-result : goal.invariant_of-result
invariant_of-result c =
    let whole = c.as_mut_slice.ensures.value ∙ c.own_letters-letters.ensures.all in
    let turned : c.rotate_left.new.self ≡ rotated c.args.by c.args.self.now = c.rotate_left.ensures.after ∙ ap (rotated c.args.by) whole in
    subst IsWord (sym (take_at _ _ _ (c.rotate_left.ensures.len ∙ ap length c.as_mut_slice.ensures.value) ∙ turned))
    (IsWord-rotated _ _ c.requires c.own_letters-letters.ensures.is_word)
