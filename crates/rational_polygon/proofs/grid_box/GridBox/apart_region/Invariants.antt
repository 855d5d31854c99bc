use Rattle.std.proofs.Common.{ℕ, ◌<◌, slice_index_or}
use Rattle.rational_polygon.specs.Outline.{Outline}
use Rattle.rational_polygon.specs.Apart.{IsApart}
use Rattle.rational_polygon.proofs.grid_box.GridBox.apart_region.Given as goal

abbrev pub invariant-loop-polygon : goal.invariant-loop-polygon
invariant-loop-polygon l = (k : ℕ) (d : Outline) → k < l.polygon-index → IsApart l.self (slice_index_or l.region k d)
