use Rattle.std.proofs.Common.{◌+◌, slice_index_or}
use Rattle.defining_functions.specs.Tables.{IsTable}
use Rattle.bounce_path.specs.declared.crossing.Crossing.{Crossing}
use Rattle.bounce_path.specs.Crossings.{IsBounceAt}
use Rattle.bounce_path.proofs.finding.bounces_at.Given as goal

-- the bounces so far
abbrev pub invariant-loop-place : goal.invariant-loop-place
invariant-loop-place l = IsTable (λ i b. (c : Crossing) → IsBounceAt l.fn.level (slice_index_or l.crossings i c) (i + 1) b) l.place l.bounces.items
