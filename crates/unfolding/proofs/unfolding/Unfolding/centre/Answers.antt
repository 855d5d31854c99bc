use Rattle.std.proofs.Common.{◌≡◌, take, subst}
use Rattle.edge_words.specs.Word.{IsWord}
use Rattle.unfolding.specs.Kept.{triangle_of}
use Rattle.unfolding.proofs.KeptTriangles.{kept_triangle, centre_light, centre_within}
use Rattle.unfolding.proofs.unfolding.Unfolding.centre.Goals as goal

triangle_is : (c : goal.After-index) → c.index.result.now ≡ triangle_of (take c.args.k c.args.self.now)
triangle_is c = kept_triangle _ c.args.self.now _ c.args.k c.index.result.now c.self.view_is c.self.invariant c.requires c.index.ensures

pub returns-clause-light : goal.returns-clause-light
returns-clause-light c = centre_light c.args.self.now c.args.k c.index.result.now (triangle_is c) c.requires

pub returns-clause-within : goal.returns-clause-within
returns-clause-within c = centre_within c.args.self.now c.args.k c.index.result.now (triangle_is c)
    (subst IsWord c.self.view_is c.self.invariant.word) c.requires
