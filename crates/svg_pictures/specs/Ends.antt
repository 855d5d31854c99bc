-- Which corner of the triangle before an edge is an end of the edge. No public clause speaks of this.
use Rattle.std.specs.Prelude.{ℕ, ◌%◌, ◌==◌, List, if◌then◌else◌}
use Rattle.exp_sums.specs.FormalPoint.{FormalPoint}
use Rattle.unfolding.specs.Triangle.{next_corner}
use Rattle.unfolding.specs.Corners.{upper_corner, lower_corner}
use Rattle.svg_pictures.specs.declared.side.Side.{Side}
use Rattle.svg_pictures.specs.declared.side.Side.TheVariants.{Upper, Lower}

-- the end of the k-th edge of a word
abbrev pub end_of : Side → List ℕ → ℕ → FormalPoint
end_of Upper w k = upper_corner w k
end_of Lower w k = lower_corner w k

-- the number of its corner in the triangle of number j, from which the path goes over the edge
abbrev pub end_number : Side → ℕ → ℕ → ℕ
end_number Upper edge j = let after = next_corner edge in if j % 2 == 0 then next_corner after else after
end_number Lower edge j = let after = next_corner edge in if j % 2 == 0 then after else next_corner after
