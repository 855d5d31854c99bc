use Rattle.std.proofs.Common.{◌≡◌, ◌-◌, ◌+◌, ◌*◌, ◌≤◌, slice_index_or, sym, subst}
use Rattle.edge_words.specs.Word.{IsWord}
use Rattle.exp_sums.specs.Limits.{weight, IsWithin}
use Rattle.unfolding.specs.Triangle.{corner_of}
use Rattle.unfolding.proofs.Bounds.{weight-corner, within-corner}
use Rattle.unfolding.proofs.KeptTriangles.{kept_triangle, corner-at}
use Rattle.unfolding.proofs.unfolding.Unfolding.corner.Goals as goal
use Rattle.unfolding.proofs.unfolding.Unfolding.corner.Goals.{After-index-index-corner}

corner_is : (c : After-index-index-corner)
    → slice_index_or c.index.result.now.corners (c.args.corner - 1) c.index-index-corner.result ≡ corner_of c.args.self.now c.args.k c.args.corner
corner_is c =
    corner-at c.args.self.now c.args.k c.args.corner c.index.result.now _
    (kept_triangle _ c.args.self.now _ c.args.k c.index.result.now c.self.view_is c.self.invariant c.requires.within c.index.ensures)
    c.requires.corner

pub returns-clause-light : goal.returns-clause-light
returns-clause-light c = subst (λ p. weight p ≤ 2 * c.args.k + 1) (sym (corner_is c)) (weight-corner c.args.self.now c.args.k c.args.corner c.requires.within)

pub returns-clause-within : goal.returns-clause-within
returns-clause-within c =
    subst (IsWithin 65) (sym (corner_is c))
    (within-corner c.args.self.now c.args.k c.args.corner (subst IsWord c.self.view_is c.self.invariant.word) c.requires.within)
