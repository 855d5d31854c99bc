use Rattle.exp_sums.specs.FormalPoint.{zero_point}
use Rattle.unfolding.specs.Triangle.{mirrors}
use Rattle.unfolding.proofs.Shifts.{shift_from_stable, stable_from_shift}
use Rattle.unfolding.proofs.laws.stable_words_have_shifts.Goals as goal

pub returns : goal.returns
returns c = λ w h even. (stable_from_shift w h even, λ stable. (mirrors w zero_point, shift_from_stable w h even stable))
