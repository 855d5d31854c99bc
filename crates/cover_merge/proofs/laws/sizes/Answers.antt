use Rattle.cover_merge.proofs.Sizes.{overlay_is_small_lem, fold_is_small_lem}
use Rattle.cover_merge.proofs.laws.sizes.Goals as goal

pub returns-clause-overlay : goal.returns-clause-overlay
returns-clause-overlay c = overlay_is_small_lem

pub returns-clause-fold : goal.returns-clause-fold
returns-clause-fold c = fold_is_small_lem
