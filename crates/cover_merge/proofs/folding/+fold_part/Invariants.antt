use Rattle.std.proofs.Common.{◌-◌}
use Rattle.rational_polygon.specs.declared.TheConstants.{MAX_LEVEL}
use Rattle.cover_merge.proofs.folding.+fold_part.Given as goal

-- each part is a level deeper
abbrev pub decreases-fold_part : goal.decreases-fold_part
decreases-fold_part l = MAX_LEVEL - l.place.level
