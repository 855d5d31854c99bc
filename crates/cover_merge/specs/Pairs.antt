-- How far two lists of nodes are laid over each other.
use Rattle.std.specs.Prelude.{◌≡◌, List, ◌++◌, drop}
use Rattle.std.specs.List.{flat_map}
use Rattle.covering_file.specs.declared.node.Node.{Node}
use Rattle.covering_file.specs.Tree.{Tree, preorder}
use Rattle.cover_merge.specs.declared.overlaying.Place.{Place}
use Rattle.cover_merge.specs.Overlay.{overlay}

abbrev pub firsts : List (Tree × Tree) → List Node
firsts pairs = flat_map (λ (p : Tree × Tree). preorder p.0) pairs

abbrev pub seconds : List (Tree × Tree) → List Node
seconds pairs = flat_map (λ (p : Tree × Tree). preorder p.1) pairs

abbrev pub overlaid : List (Tree × Tree) → List Node
overlaid pairs = flat_map (λ (p : Tree × Tree). preorder (overlay p.0 p.1)) pairs

-- From the place on, the lists are those of pairs of trees. Behind what is written, their overlays make it whole.
pub record PairsAhead (first second : List Node) (at : Place) (written whole : List Node) : Type 0 where
  pub pairs : List (Tree × Tree)
  pub from_first : drop at.first first ≡ firsts pairs
  pub from_second : drop at.second second ≡ seconds pairs
  pub to_whole : written ++ overlaid pairs ≡ whole

-- from the one place to the next, whatever the whole is
abbrev pub GoesOn : List Node → List Node → Place → Place → List Node → List Node → Type 0
GoesOn first second at next old new = (whole : List Node) → PairsAhead first second at old whole → PairsAhead first second next new whole
