use Rattle.covering_file.proofs.Covers.{sound_is_covered}
use Rattle.covering_file.proofs.laws.sound_is_covered.Goals as goal

pub returns : goal.returns
returns c = sound_is_covered
