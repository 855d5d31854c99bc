-- Where the corners of a region stand in the picture of a covering. One unit is 2^−20 of the square of angles.
use Rattle.std.specs.Prelude.{ℕ, ◌-◌, ◌*◌, ◌/◌, ◌^◌, List, map}
use Rattle.std.specs.List.{flat_map}
use Rattle.rational_polygon.specs.Outline.{Outline}
use Rattle.svg_pictures.specs.declared.place.Place.{Place}

-- a number of grid steps in units, rounded down
abbrev pub units_of : ℕ → ℕ → ℕ
units_of grid steps = steps * 2 ^ 20 / grid

-- The place of a corner. The second axis of a picture points down, so the square lies upside down.
abbrev pub place_of : ℕ → ℕ × ℕ → Place
place_of grid c = record { across = units_of grid c.0; down = 2 ^ 20 - units_of grid c.1 }

-- the places of the corners of a polygon
abbrev pub places_in : Outline → List Place
places_in outline = map (place_of outline.grid) outline.corners

-- and of all polygons of a region
abbrev pub places_of : List Outline → List Place
places_of region = flat_map places_in region
