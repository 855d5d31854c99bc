use Rattle.std.proofs.Common.{◌≡◌, ◌*◌, ◌≤◌, take, length}
use Rattle.std.specs.List.{flat_map}
use Rattle.covering_file.specs.Header.{polygon_lines}
use Rattle.cover_merge.proofs.lines.lines_of_polygons.Given as goal

-- the lines so far, at most 17 for each polygon
abbrev pub invariant-loop-polygon : goal.invariant-loop-polygon
invariant-loop-polygon l = record {
  lines : l.lines ≡ length (flat_map polygon_lines (take l.polygon-index l.polygons));
  few : l.lines ≤ 17 * l.polygon-index;
}
