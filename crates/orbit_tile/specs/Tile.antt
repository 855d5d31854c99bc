-- What a tile is, and when it has too many patches.
use Rattle.std.specs.Prelude.{◌≡◌, ℕ, List, length}
use Rattle.rational_polygon.specs.Square.{unit_square}
use Rattle.orbit_tile.specs.declared.patch.Patch.{Patch}
use Rattle.orbit_tile.specs.Trees.{Tree, leaves, StandsByCause, BegunTree, first_leaves, BeginsByCause}

-- the patches are the leaves of one quadtree of the unit square, in preorder, each patch and each division by its cause
pub record IsTile (w : List ℕ) (depth : ℕ) (patches : List Patch) : Type 0 where
  pub tree : Tree
  pub leaves_are : patches ≡ leaves unit_square tree
  pub causes : StandsByCause w depth unit_square tree

-- the patches are the first leaves of such a tree, each patch and each division so far by its cause, and a box is still due
pub record IsBegunTile (w : List ℕ) (depth : ℕ) (patches : List Patch) : Type 0 where
  pub tree : BegunTree
  pub leaves_are : patches ≡ first_leaves unit_square tree
  pub causes : BeginsByCause w depth unit_square tree

-- it has so many patches so far, and a box is still due
abbrev pub IsFull : List ℕ → ℕ → ℕ → Type 0
IsFull w depth limit = (patches : List Patch) × IsBegunTile w depth patches × (length patches ≡ limit)
