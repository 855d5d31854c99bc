use Rattle.std.proofs.Common.{◌∷◌, slice_index_or, take}
use Rattle.bounce_path.specs.Crossings.{IsGap}
use Rattle.bounce_path.proofs.Levels.{blank}
use Rattle.bounce_path.proofs.gap.gap_of.Given as goal

-- the gap of the first crossing and of those so far
abbrev pub invariant-loop-crossing : goal.invariant-loop-crossing
invariant-loop-crossing l = IsGap (slice_index_or l.crossings 0 blank ∷ take l.crossing-index l.crossings) l.gap
