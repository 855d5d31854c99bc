use Rattle.std.proofs.Common.{◌≡◌, ◌*◌, ◌≤◌, take, length}
use Rattle.std.specs.List.{flat_map}
use Rattle.covering_file.specs.Header.{polygon_lines}
use Rattle.cover_merge.proofs.Differing.{SamePolygons}
use Rattle.cover_merge.proofs.regions.first_other_polygon.Given as goal

-- the polygons so far are the same, and these are their lines
abbrev pub invariant-loop-k : goal.invariant-loop-k
invariant-loop-k l = record {
  alike : SamePolygons l.polygons l.others l.k;
  lines : l.lines ≡ length (flat_map polygon_lines (take l.k l.polygons));
  few : l.lines ≤ 17 * l.k;
}
