use Rattle.covering_file.proofs.Covers.{sure_is_sound}
use Rattle.covering_file.proofs.laws.sure_is_sound.Goals as goal

pub returns : goal.returns
returns c = sure_is_sound
