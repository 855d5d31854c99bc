-- A leaf is its own fold, and a split is folded part by part.
use Rattle.std.proofs.Common.{rules, ◌≡◌, refl, sym, ap, ◌∙◌, subst, ℕ, ◌+◌, ◌<◌, true, false, List, [], ◌∷◌, ◌++◌, get_or, length, arith}
use Rattle.rational_polygon.specs.Square.{Square}
use Rattle.rational_polygon.specs.declared.TheConstants.{MAX_LEVEL}
use Rattle.covering_file.specs.declared.node.Node.{Node}
use Rattle.covering_file.specs.declared.node.Node.TheVariants.{Split, Shown}
use Rattle.cover_merge.specs.Parts.{Joins}
use Rattle.cover_merge.proofs.Listed.{node_at, no_split_is_leaf, starts_within}
use Rattle.cover_merge.proofs.Folded.{shown_leaf, other_leaf, split_above, split_head, IsTreeAt, first_part, second_part, third_part, fourth_part}
use Rattle.cover_merge.proofs.Folded.{EndsAt, four_folds, stays_apart, may_join, longer, not_both}
use Rattle.cover_merge.proofs.folding.+fold_part.Goals as goal

pub bounds-nodes-start : goal.bounds-nodes-start
bounds-nodes-start t c = starts_within c.args.nodes.now c.args.start c.requires.tree.0 c.requires.tree.1

pub returns-in-Shown-clause-folded : goal.returns-in-Shown-clause-folded
returns-in-Shown-clause-folded t c =
    let within = starts_within c.args.nodes.now c.args.start c.requires.tree.0 c.requires.tree.1 in
    let i = c.in-Shown.field-0 in
    shown_leaf c.args.tests.now c.args.place c.args.nodes.now c.args.start i (record { end = c.args.start + 1; is_shown = true }) c.args.folded.now.items
    c.push.new.self.items (node_at c.args.nodes.now c.args.start (Shown i) within c.in-Shown.is)
    (c.in_ok-push.ensures.items ∙ ap (λ (m : Node). c.args.folded.now.items ++ m ∷ []) c.in-Shown.is) refl refl

pub returns-in_default-clause-folded : goal.returns-in_default-clause-folded
returns-in_default-clause-folded t c =
    let within = starts_within c.args.nodes.now c.args.start c.requires.tree.0 c.requires.tree.1 in
    let n = get_or c.args.nodes.now c.args.start Split in
    other_leaf c.args.tests.now c.args.place c.args.nodes.now c.args.start n (record { end = c.args.start + 1; is_shown = false })
    c.args.folded.now.items c.push.new.self.items (no_split_is_leaf n c.in_default.not-Split) (λ i is. c.in_default.not-Shown i is)
    (node_at c.args.nodes.now c.args.start n within refl) c.in_ok-push.ensures.items refl refl

pub overflow_add-start : goal.overflow_add-start
overflow_add-start t c =
    let within : c.args.start < length c.args.nodes.now = starts_within c.args.nodes.now c.args.start c.requires.tree.0 c.requires.tree.1 in
    search rules

pub offset_bounds-nodes-start : goal.offset_bounds-nodes-start
offset_bounds-nodes-start t c =
    let within : c.args.start < length c.args.nodes.now = starts_within c.args.nodes.now c.args.start c.requires.tree.0 c.requires.tree.1 in
    search rules

pub child-requires-clause-level : goal.child-requires-clause-level
child-requires-clause-level t c =
    split_above c.args.nodes.now c.args.start c.args.place (split_head c.args.nodes.now c.args.start c.args.place c.in-Split.is c.requires.tree)
    c.requires.tree

pub fold_part-requires : goal.fold_part-requires
fold_part-requires t c =
    let nodes = c.args.nodes.now in
    let place = c.args.place in
    let head = split_head nodes c.args.start place c.in-Split.is c.requires.tree in
    let above : place.level < MAX_LEVEL = split_above nodes c.args.start place head c.requires.tree in
    let deeper : c.child.result.level ≡ place.level + 1 = ap (λ (b : Square). b.level) c.child.ensures.value in
    let few = c.requires.few in
    let part = first_part nodes c.args.start place head c.requires.tree in
    let tree = subst (λ (b : Square). IsTreeAt nodes (c.args.start + 1) b) (sym c.child.ensures.value) part in
    (omega (arith, above, deeper, c.decreases), (few, tree))

pub fold_part-requires-2 : goal.fold_part-requires-2
fold_part-requires-2 t c =
    let nodes = c.args.nodes.now in
    let place = c.args.place in
    let head = split_head nodes c.args.start place c.in-Split.is c.requires.tree in
    let above : place.level < MAX_LEVEL = split_above nodes c.args.start place head c.requires.tree in
    let deeper : c.child-2.result.level ≡ place.level + 1 = ap (λ (b : Square). b.level) c.child-2.ensures.value in
    let ends_a : EndsAt nodes (c.args.start + 1) c.in_ok-first.first.end = λ u s. (c.in_ok-first.ensures.folded u s).end in
    let kept = c.in_ok-first.ensures.kept in
    let few = subst (λ (ws : List (List ℕ)). length ws < 4294967296) (sym kept) c.requires.few in
    let part = second_part nodes c.args.start c.in_ok-first.first.end place head ends_a c.requires.tree in
    let tree = subst (λ (b : Square). IsTreeAt nodes c.in_ok-first.first.end b) (sym c.child-2.ensures.value) part in
    (omega (arith, above, deeper, c.decreases), (few, tree))

pub fold_part-requires-3 : goal.fold_part-requires-3
fold_part-requires-3 t c =
    let nodes = c.args.nodes.now in
    let place = c.args.place in
    let head = split_head nodes c.args.start place c.in-Split.is c.requires.tree in
    let above : place.level < MAX_LEVEL = split_above nodes c.args.start place head c.requires.tree in
    let deeper : c.child-3.result.level ≡ place.level + 1 = ap (λ (b : Square). b.level) c.child-3.ensures.value in
    let ends_a : EndsAt nodes (c.args.start + 1) c.in_ok-first.first.end = λ u s. (c.in_ok-first.ensures.folded u s).end in
    let ends_b : EndsAt nodes c.in_ok-first.first.end c.in_ok-second.second.end = λ u s. (c.in_ok-second.ensures.folded u s).end in
    let kept = c.in_ok-second.ensures.kept ∙ c.in_ok-first.ensures.kept in
    let few = subst (λ (ws : List (List ℕ)). length ws < 4294967296) (sym kept) c.requires.few in
    let part = third_part nodes c.args.start c.in_ok-first.first.end c.in_ok-second.second.end place head ends_a ends_b c.requires.tree in
    let tree = subst (λ (b : Square). IsTreeAt nodes c.in_ok-second.second.end b) (sym c.child-3.ensures.value) part in
    (omega (arith, above, deeper, c.decreases), (few, tree))

pub fold_part-requires-4 : goal.fold_part-requires-4
fold_part-requires-4 t c =
    let nodes = c.args.nodes.now in
    let place = c.args.place in
    let head = split_head nodes c.args.start place c.in-Split.is c.requires.tree in
    let above : place.level < MAX_LEVEL = split_above nodes c.args.start place head c.requires.tree in
    let deeper : c.child-4.result.level ≡ place.level + 1 = ap (λ (b : Square). b.level) c.child-4.ensures.value in
    let ends_a : EndsAt nodes (c.args.start + 1) c.in_ok-first.first.end = λ u s. (c.in_ok-first.ensures.folded u s).end in
    let ends_b : EndsAt nodes c.in_ok-first.first.end c.in_ok-second.second.end = λ u s. (c.in_ok-second.ensures.folded u s).end in
    let ends_c : EndsAt nodes c.in_ok-second.second.end c.in_ok-third.third.end = λ u s. (c.in_ok-third.ensures.folded u s).end in
    let kept = c.in_ok-third.ensures.kept ∙ c.in_ok-second.ensures.kept ∙ c.in_ok-first.ensures.kept in
    let few = subst (λ (ws : List (List ℕ)). length ws < 4294967296) (sym kept) c.requires.few in
    let part = fourth_part nodes c.args.start c.in_ok-first.first.end c.in_ok-second.second.end c.in_ok-third.third.end place
    head ends_a ends_b ends_c c.requires.tree in
    let tree = subst (λ (b : Square). IsTreeAt nodes c.in_ok-third.third.end b) (sym c.child-4.ensures.value) part in
    (omega (arith, above, deeper, c.decreases), (few, tree))

pub returns-then-not-are_shown-clause-folded : goal.returns-then-not-are_shown-clause-folded
returns-then-not-are_shown-clause-folded t c tree stands =
    let nodes = c.args.nodes.now in
    let tests = c.args.tests.now in
    let place = c.args.place in
    let old = c.args.folded.now.items in
    let head = split_head nodes c.args.start place c.in-Split.is c.requires.tree in
    let pushed = c.in_ok-push.ensures.items ∙ ap (λ (m : Node). old ++ m ∷ []) c.in-Split.is in
    let kept_b = c.in_ok-first.ensures.kept in
    let kept_c = c.in_ok-second.ensures.kept ∙ kept_b in
    let kept_d = c.in_ok-third.ensures.kept ∙ kept_c in
    let four = four_folds tests place nodes c.args.start c.in_ok-first.first c.in_ok-second.second c.in_ok-third.third c.in_ok-fourth.fourth old
    c.push.new.self.items c.fold_part.new.folded.items c.fold_part-2.new.folded.items c.fold_part-3.new.folded.items c.fold_part-4.new.folded.items
    head pushed (tests, c.child.result, refl, c.child.ensures.value, c.in_ok-first.ensures.folded)
    (c.fold_part.new.tests, c.child-2.result, kept_b, c.child-2.ensures.value, c.in_ok-second.ensures.folded)
    (c.fold_part-2.new.tests, c.child-3.result, kept_c, c.child-3.ensures.value, c.in_ok-third.ensures.folded)
    (c.fold_part-3.new.tests, c.child-4.result, kept_d, c.child-4.ensures.value, c.in_ok-fourth.ensures.folded) tree stands in
    stays_apart tests place c.args.start tree c.in_ok-first.first c.in_ok-second.second c.in_ok-third.third c.in_ok-fourth.fourth
    (record { end = c.in_ok-fourth.fourth.end; is_shown = false }) old c.fold_part-4.new.folded.items
    (λ all. not_both false refl (c.if-not-are_shown.ensures.1 all)) refl refl four

pub join-requires-clause-at : goal.join-requires-clause-at
join-requires-clause-at t c =
    let nodes = c.args.nodes.now in
    let tests = c.args.tests.now in
    let place = c.args.place in
    let old = c.args.folded.now.items in
    let head = split_head nodes c.args.start place c.in-Split.is c.requires.tree in
    let pushed = c.in_ok-push.ensures.items ∙ ap (λ (m : Node). old ++ m ∷ []) c.in-Split.is in
    let kept_b = c.in_ok-first.ensures.kept in
    let kept_c = c.in_ok-second.ensures.kept ∙ kept_b in
    let kept_d = c.in_ok-third.ensures.kept ∙ kept_c in
    let four = four_folds tests place nodes c.args.start c.in_ok-first.first c.in_ok-second.second c.in_ok-third.third c.in_ok-fourth.fourth old
    c.push.new.self.items c.fold_part.new.folded.items c.fold_part-2.new.folded.items c.fold_part-3.new.folded.items c.fold_part-4.new.folded.items
    head pushed (tests, c.child.result, refl, c.child.ensures.value, c.in_ok-first.ensures.folded)
    (c.fold_part.new.tests, c.child-2.result, kept_b, c.child-2.ensures.value, c.in_ok-second.ensures.folded)
    (c.fold_part-2.new.tests, c.child-3.result, kept_c, c.child-3.ensures.value, c.in_ok-third.ensures.folded)
    (c.fold_part-3.new.tests, c.child-4.result, kept_d, c.child-4.ensures.value, c.in_ok-fourth.ensures.folded) c.requires.tree.0 c.requires.tree.1 in
    let more = longer tests place c.args.start c.requires.tree.0 c.in_ok-first.first c.in_ok-second.second c.in_ok-third.third c.in_ok-fourth.fourth old
    c.fold_part-4.new.folded.items four in
    omega (arith, c.len-at.ensures, more)

pub returns-clause-folded : goal.returns-clause-folded
returns-clause-folded t c tree stands =
    let nodes = c.args.nodes.now in
    let tests = c.args.tests.now in
    let place = c.args.place in
    let old = c.args.folded.now.items in
    let head = split_head nodes c.args.start place c.in-Split.is c.requires.tree in
    let pushed = c.in_ok-push.ensures.items ∙ ap (λ (m : Node). old ++ m ∷ []) c.in-Split.is in
    let kept_b = c.in_ok-first.ensures.kept in
    let kept_c = c.in_ok-second.ensures.kept ∙ kept_b in
    let kept_d = c.in_ok-third.ensures.kept ∙ kept_c in
    let four = four_folds tests place nodes c.args.start c.in_ok-first.first c.in_ok-second.second c.in_ok-third.third c.in_ok-fourth.fourth old
    c.push.new.self.items c.fold_part.new.folded.items c.fold_part-2.new.folded.items c.fold_part-3.new.folded.items c.fold_part-4.new.folded.items
    head pushed (tests, c.child.result, refl, c.child.ensures.value, c.in_ok-first.ensures.folded)
    (c.fold_part.new.tests, c.child-2.result, kept_b, c.child-2.ensures.value, c.in_ok-second.ensures.folded)
    (c.fold_part-2.new.tests, c.child-3.result, kept_c, c.child-3.ensures.value, c.in_ok-third.ensures.folded)
    (c.fold_part-3.new.tests, c.child-4.result, kept_d, c.child-4.ensures.value, c.in_ok-fourth.ensures.folded) tree stands in
    let at : length old ≡ c.len-at.result = omega (arith, c.len-at.ensures) in
    let joins = subst (λ (ws : List (List ℕ)). Joins ws place c.len-at.result c.in_ok-is_shown.is_shown c.fold_part-4.new.folded.items
    c.join.new.folded.items) (c.in_ok-fourth.ensures.kept ∙ kept_d) c.in_ok-is_shown.ensures.joined in
    may_join tests place c.args.start c.len-at.result tree c.in_ok-first.first c.in_ok-second.second c.in_ok-third.third c.in_ok-fourth.fourth
    (record { end = c.in_ok-fourth.fourth.end; is_shown = c.in_ok-is_shown.is_shown }) old c.fold_part-4.new.folded.items c.join.new.folded.items
    c.in_ok-is_shown.is_shown (c.if-not-are_shown.ensures.0 refl) refl refl at joins four
