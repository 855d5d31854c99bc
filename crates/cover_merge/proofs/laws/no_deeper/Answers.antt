use Rattle.cover_merge.proofs.Standing.{overlay_is_no_deeper_lem, fold_is_no_deeper_lem}
use Rattle.cover_merge.proofs.laws.no_deeper.Goals as goal

pub returns-clause-overlay : goal.returns-clause-overlay
returns-clause-overlay c = overlay_is_no_deeper_lem

pub returns-clause-fold : goal.returns-clause-fold
returns-clause-fold c = fold_is_no_deeper_lem
