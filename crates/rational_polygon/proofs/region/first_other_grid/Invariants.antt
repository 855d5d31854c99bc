use Rattle.std.proofs.Common.{◌≡◌, ℕ, ◌<◌, slice_index_or}
use Rattle.rational_polygon.specs.Outline.{Outline, IsPolygon}
use Rattle.rational_polygon.proofs.region.first_other_grid.Given as goal

abbrev pub invariant-loop-k : goal.invariant-loop-k
invariant-loop-k l = record {
  polygons : (m : ℕ) (d : Outline) → m < l.k → IsPolygon (slice_index_or l.polygons m d);
  same : (m : ℕ) (d : Outline) → m < l.k → (slice_index_or l.polygons m d).grid ≡ l.grid;
}
