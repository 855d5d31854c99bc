-- The picture of a tile: a square for each patch, black where the word has a corridor in each triangle, white where in none, gray where neither is
-- seen, silver where there are no triangles. One unit is 1/1024 of the square of angles.
use Rattle.std.specs.Prelude.{ℕ, ◌+◌, ◌-◌, ◌*◌, ◌/◌, ◌^◌, List, [], ◌∷◌, ◌++◌, pos, codes, decimal}
use Rattle.std.specs.List.{concat, flat_map}
use Rattle.orbit_tile.specs.declared.patch.Patch.{Patch}
use Rattle.orbit_tile.specs.declared.patch.PatchKind.{PatchKind}
use Rattle.orbit_tile.specs.declared.patch.PatchKind.TheVariants.{Inside, Outside, Undecided, Beyond}
use Rattle.rational_polygon.specs.Square.{Square}
use Rattle.svg_pictures.specs.Svg.{first_line, last_line}

abbrev pub colour_of : PatchKind → List ℕ
colour_of Inside = codes "black"
colour_of Outside = codes "white"
colour_of Undecided = codes "gray"
colour_of Beyond = codes "silver"

-- the side of a box in the picture
abbrev pub side_of : Square → ℕ
side_of box = 1024 / 2 ^ box.level

-- its left and its upper edge. The second axis of the picture points down, so the box lies upside down
abbrev pub left_of : Square → ℕ
left_of box = box.i * side_of box

abbrev pub top_of : Square → ℕ
top_of box = 1024 - (box.j + 1) * side_of box

abbrev pub rectangle_line : Patch → List ℕ
rectangle_line patch =
    concat (codes "<rect x=\"" ∷ decimal (left_of patch.place) ∷ codes "\" y=\"" ∷ decimal (top_of patch.place) ∷ codes "\" width=\""
    ∷ decimal (side_of patch.place) ∷ codes "\" height=\"" ∷ decimal (side_of patch.place) ∷ codes "\" fill=\"" ∷ colour_of patch.kind
    ∷ codes "\"/>\n" ∷ [])

abbrev pub tile_text : List Patch → List ℕ
tile_text patches = first_line (pos 0) (pos 0) (pos 1024) (pos 1024) ++ (flat_map rectangle_line patches ++ last_line)
