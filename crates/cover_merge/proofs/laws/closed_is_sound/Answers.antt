use Rattle.cover_merge.proofs.Sizes.{closed_is_sound_lem}
use Rattle.cover_merge.proofs.laws.closed_is_sound.Goals as goal

pub returns : goal.returns
returns c = closed_is_sound_lem
