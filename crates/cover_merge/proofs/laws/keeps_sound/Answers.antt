use Rattle.cover_merge.proofs.Standing.{overlay_keeps_sound_lem, fold_keeps_sound_lem}
use Rattle.cover_merge.proofs.laws.keeps_sound.Goals as goal

pub returns-clause-overlay : goal.returns-clause-overlay
returns-clause-overlay c = overlay_keeps_sound_lem

pub returns-clause-fold : goal.returns-clause-fold
returns-clause-fold c = fold_keeps_sound_lem
