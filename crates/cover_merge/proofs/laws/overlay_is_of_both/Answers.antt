use Rattle.cover_merge.proofs.Standing.{overlay_is_of_both_lem}
use Rattle.cover_merge.proofs.laws.overlay_is_of_both.Goals as goal

pub returns : goal.returns
returns c = overlay_is_of_both_lem
