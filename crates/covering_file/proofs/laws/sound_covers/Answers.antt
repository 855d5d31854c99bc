use Rattle.covering_file.proofs.Covers.{sound_covers}
use Rattle.covering_file.proofs.laws.sound_covers.Goals as goal

pub returns : goal.returns
returns c = sound_covers
