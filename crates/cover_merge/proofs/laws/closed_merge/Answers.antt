use Rattle.cover_merge.proofs.Merged.{closed_merge_is_sound_lem, closed_merge_covers_lem, closed_merge_is_sure_lem}
use Rattle.cover_merge.proofs.laws.closed_merge.Goals as goal

pub returns-clause-sound : goal.returns-clause-sound
returns-clause-sound c = closed_merge_is_sound_lem

pub returns-clause-covers : goal.returns-clause-covers
returns-clause-covers c = closed_merge_covers_lem

pub returns-clause-sure : goal.returns-clause-sure
returns-clause-sure c = closed_merge_is_sure_lem
