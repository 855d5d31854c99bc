-- Each box that is taken becomes a patch by its cause, or is divided by its cause.
use Rattle.std.proofs.Common.{sym, ap, ◌∙◌, subst, ℕ, ◌<◌, List, ◌∷◌, [], length, length-append, arith}
use Rattle.rational_polygon.specs.Square.{Square}
use Rattle.orbit_tile.specs.declared.patch.Patch.{Patch}
use Rattle.orbit_tile.specs.Causes.{HasCause, IsDivided}
use Rattle.orbit_tile.specs.Trees.{patch_at}
use Rattle.orbit_tile.proofs.Leaves.{tile_is_deep}
use Rattle.orbit_tile.proofs.Reached.{HasReached, next_reached, after_patch, after_division, whole_tile, begun_tile}
use Rattle.orbit_tile.proofs.Reached.{left_in_all, less_after_patch, less_after_division}
use Rattle.orbit_tile.proofs.tiling.patches.Goals as goal

pub returns-then-len-limit-clause-full : goal.returns-then-len-limit-clause-full
returns-then-len-limit-clause-full c is =
    let inv = c.loop-place.invariant in
    let reached = next_reached c.args.prepared.now.word c.args.depth c.loop-place.patches.items c.loop-place.due c.in-Some.place c.pop.new.self
    inv.reached c.in-Some.ensures.first in (
      c.loop-place.patches.items,
      begun_tile c.args.prepared.now.word c.args.depth c.loop-place.patches.items c.in-Some.place c.pop.new.self reached,
      omega (arith, inv.within, c.if-len-limit.true, c.len.ensures),
    )

pub loop-place-smaller-in-Continue-1 : goal.loop-place-smaller-in-Continue-1
loop-place-smaller-in-Continue-1 c =
    subst (λ (boxes : List Square). left_in_all c.args.depth c.pop.new.self < left_in_all c.args.depth boxes) (sym c.in-Some.ensures.first)
    (less_after_patch c.args.depth c.in-Some.place c.pop.new.self)

pub loop-place-preserved-in-Continue-1 : goal.loop-place-preserved-in-Continue-1
loop-place-preserved-in-Continue-1 c =
    let w = c.args.prepared.now.word in
    let inv = c.loop-place.invariant in
    let reached = next_reached w c.args.depth c.loop-place.patches.items c.loop-place.due c.in-Some.place c.pop.new.self inv.reached
    c.in-Some.ensures.first in
    let cause = subst (λ (v : List ℕ). HasCause v c.args.depth c.in-Some.place c.in-Some-kind_of.kind) inv.word c.in-Some-kind_of.ensures.cause in
    record {
      word = c.kind_of.ensures.kept ∙ inv.word;
      reached =
          subst (λ (ps : List Patch). HasReached w c.args.depth ps c.pop.new.self) (sym c.in_ok-push-in-Some-kind_of.ensures.items)
          (after_patch w c.args.depth c.loop-place.patches.items c.in-Some.place c.pop.new.self c.in-Some-kind_of.kind reached cause);
      within =
          omega (
            arith,
            c.if-len-limit.false,
            c.len.ensures,
            ap length c.in_ok-push-in-Some-kind_of.ensures.items,
            length-append c.loop-place.patches.items (patch_at c.in-Some.place c.in-Some-kind_of.kind ∷ []),
          );
    }

pub loop-place-smaller : goal.loop-place-smaller
loop-place-smaller c =
    let now = subst (λ (boxes : List Square). left_in_all c.args.depth boxes
    < left_in_all c.args.depth (c.in-Some.place ∷ c.pop.new.self)) (sym c.divide.ensures)
    (less_after_division c.args.depth c.in-Some.place c.pop.new.self c.in-None.ensures.cause.0) in
    subst (λ (boxes : List Square). left_in_all c.args.depth c.divide.new.self < left_in_all c.args.depth boxes) (sym c.in-Some.ensures.first) now

pub loop-place-preserved : goal.loop-place-preserved
loop-place-preserved c =
    let w = c.args.prepared.now.word in
    let inv = c.loop-place.invariant in
    let reached = next_reached w c.args.depth c.loop-place.patches.items c.loop-place.due c.in-Some.place c.pop.new.self inv.reached
    c.in-Some.ensures.first in
    let cause = subst (λ (v : List ℕ). IsDivided v c.args.depth c.in-Some.place) inv.word c.in-None.ensures.cause in
    record {
      word = c.kind_of.ensures.kept ∙ inv.word;
      reached =
          subst (λ (boxes : List Square). HasReached w c.args.depth c.loop-place.patches.items boxes) (sym c.divide.ensures)
          (after_division w c.args.depth c.loop-place.patches.items c.in-Some.place c.pop.new.self reached cause);
      within = inv.within;
    }

pub returns-clause-tile : goal.returns-clause-tile
returns-clause-tile c =
    let inv = c.loop-place.invariant in
    whole_tile c.args.prepared.now.word c.args.depth c.loop-place.patches.items c.loop-place.due inv.reached
    c.in_default.ensures.first

pub returns-clause-levels : goal.returns-clause-levels
returns-clause-levels c =
    let inv = c.loop-place.invariant in
    tile_is_deep c.args.prepared.now.word c.args.depth c.loop-place.patches.items
    (whole_tile c.args.prepared.now.word c.args.depth c.loop-place.patches.items c.loop-place.due inv.reached c.in_default.ensures.first)
