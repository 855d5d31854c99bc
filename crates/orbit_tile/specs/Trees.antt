-- Quadtrees of boxes, whole and begun, and the patches that are their leaves.
-- Source: Raphael Finkel and Jon Bentley, Quad Trees: A Data Structure for Retrieval on Composite Keys, Acta Informatica 4 (1974). The leaves are this
-- program's own.
use Rattle.std.specs.Prelude.{ℕ, List, [], ◌∷◌, ◌++◌, ⊤}
use Rattle.rational_polygon.specs.Square.{Square, child}
use Rattle.orbit_tile.specs.declared.patch.Patch.{Patch}
use Rattle.orbit_tile.specs.declared.patch.PatchKind.{PatchKind}
use Rattle.orbit_tile.specs.Causes.{HasCause, IsDivided}

-- ---- whole trees

-- a patch of some kind, or a division into the trees of the four children, in their order
pub data Tree : Type 0 where
  leaf : PatchKind → Tree
  divided : Tree → Tree → Tree → Tree → Tree

abbrev pub patch_at : Square → PatchKind → Patch
patch_at box kind = record { place = box; kind = kind }

-- the patches of the tree of a box, in preorder
abbrev pub leaves : Square → Tree → List Patch
leaves box (leaf kind) = patch_at box kind ∷ []
leaves box (divided a b c d) = leaves (child box 0) a ++ (leaves (child box 1) b ++ (leaves (child box 2) c ++ leaves (child box 3) d))

-- each patch and each division has its cause
abbrev pub StandsByCause : List ℕ → ℕ → Square → Tree → Type 0
StandsByCause w depth box (leaf kind) = HasCause w depth box kind
StandsByCause w depth box (divided a b c d) =
    IsDivided w depth box
    × StandsByCause w depth (child box 0) a
    × StandsByCause w depth (child box 1) b
    × StandsByCause w depth (child box 2) c
    × StandsByCause w depth (child box 3) d

-- ---- trees that are begun

-- a box that is still due, or a division of which the trees before one child are whole, and this child's tree is begun
pub data BegunTree : Type 0 where
  still_due : BegunTree
  in_first : BegunTree → BegunTree
  in_second : Tree → BegunTree → BegunTree
  in_third : Tree → Tree → BegunTree → BegunTree
  in_fourth : Tree → Tree → Tree → BegunTree → BegunTree

-- the patches before the box that is due first
abbrev pub first_leaves : Square → BegunTree → List Patch
first_leaves box still_due = []
first_leaves box (in_first a) = first_leaves (child box 0) a
first_leaves box (in_second a b) = leaves (child box 0) a ++ first_leaves (child box 1) b
first_leaves box (in_third a b c) = leaves (child box 0) a ++ (leaves (child box 1) b ++ first_leaves (child box 2) c)
first_leaves box (in_fourth a b c d) =
    leaves (child box 0) a ++ (leaves (child box 1) b ++ (leaves (child box 2) c ++ first_leaves (child box 3) d))

-- each patch and each division so far has its cause
abbrev pub BeginsByCause : List ℕ → ℕ → Square → BegunTree → Type 0
BeginsByCause w depth box still_due = ⊤
BeginsByCause w depth box (in_first a) = IsDivided w depth box × BeginsByCause w depth (child box 0) a
BeginsByCause w depth box (in_second a b) = IsDivided w depth box × StandsByCause w depth (child box 0) a × BeginsByCause w depth (child box 1) b
BeginsByCause w depth box (in_third a b c) =
    IsDivided w depth box
    × StandsByCause w depth (child box 0) a
    × StandsByCause w depth (child box 1) b
    × BeginsByCause w depth (child box 2) c
BeginsByCause w depth box (in_fourth a b c d) =
    IsDivided w depth box
    × StandsByCause w depth (child box 0) a
    × StandsByCause w depth (child box 1) b
    × StandsByCause w depth (child box 2) c
    × BeginsByCause w depth (child box 3) d
