use Rattle.std.proofs.Common.{◌≡◌, take}
use Rattle.std.specs.Prelude.{count_by}
use Rattle.svg_pictures.specs.CoveringPicture.{is_drawn}
use Rattle.svg_pictures.proofs.covering_picture.count_drawn.Given as goal

-- those so far are counted
abbrev pub invariant-loop-node : goal.invariant-loop-node
invariant-loop-node l = l.count ≡ count_by is_drawn (take l.node-index l.nodes)
