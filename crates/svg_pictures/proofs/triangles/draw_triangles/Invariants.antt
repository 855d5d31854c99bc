use Rattle.std.proofs.Common.{◌≡◌, length}
use Rattle.rat_core.specs.Written.{value}
use Rattle.svg_pictures.specs.declared.triangles.TheConstants.{MAX_TRIANGLES}
use Rattle.svg_pictures.specs.UnfoldingPicture.{IsPictureOfTriangle}
use Rattle.svg_pictures.proofs.Filled.{IsFilled}
use Rattle.svg_pictures.proofs.triangles.draw_triangles.Given as goal

-- the triangles so far are drawn
abbrev pub invariant-loop-k : goal.invariant-loop-k
invariant-loop-k l = record {
  room : length l.triangles ≡ MAX_TRIANGLES;
  filled : IsFilled (λ k t. IsPictureOfTriangle l.u k (value l.plane.0) (value l.plane.1) t) l.triangles l.k;
}
