use Rattle.std.proofs.Common.{◌≡◌, ◌≤◌, length}
use Rattle.orbit_tile.proofs.Reached.{HasReached, left_in_all}
use Rattle.orbit_tile.proofs.tiling.patches.Given as goal

-- the patches so far, and the boxes that are due after them
abbrev pub invariant-loop-place : goal.invariant-loop-place
invariant-loop-place l = record {
  word : l.prepared.word ≡ l.fn.prepared.word;
  reached : HasReached l.fn.prepared.word l.depth l.patches.items l.due;
  within : length l.patches.items ≤ l.limit;
}

-- a patch takes a box away, and a division leaves less in the four
abbrev pub decreases-loop-place : goal.decreases-loop-place
decreases-loop-place l = left_in_all l.depth l.due
