use Rattle.std.proofs.Common.{◌≡◌, length}
use Rattle.edge_words.specs.declared.TheConstants.{MAX_LETTERS}
use Rattle.svg_pictures.proofs.EndNumbers.{IsPointOfEnd}
use Rattle.svg_pictures.proofs.Filled.{IsFilled}
use Rattle.svg_pictures.proofs.ends.ends.Given as goal

-- the ends of the edges so far
abbrev pub invariant-loop-j : goal.invariant-loop-j
invariant-loop-j l = record {
  room : length l.points ≡ MAX_LETTERS;
  filled : IsFilled (IsPointOfEnd l.side l.edges l.triangles) l.points l.j;
}
