use Rattle.std.proofs.Common.{sym, subst}
use Rattle.edge_words.specs.Word.{IsWord}
use Rattle.exp_sums.specs.FormalPoint.{zero_point}
use Rattle.unfolding.specs.Triangle.{mirrors}
use Rattle.unfolding.proofs.Shifts.{shift_from_stable, stable_from_shift}
use Rattle.unfolding.proofs.unfolding.Unfolding.of.Goals as goal

pub returns-clause-stable : goal.returns-clause-stable
returns-clause-stable c =
    let word : IsWord c.copied.result = subst IsWord (sym c.copied.ensures) c.letters.ensures.is_word in (
      stable_from_shift _ word.letters word.even_length.even,
      λ stable. (mirrors c.copied.result zero_point, shift_from_stable _ word.letters word.even_length.even stable),
    )
