use Rattle.covering_file.proofs.Upgraded.{upgraded_is_sound}
use Rattle.covering_file.proofs.laws.upgraded_is_sound.Goals as goal

pub returns : goal.returns
returns c = upgraded_is_sound
