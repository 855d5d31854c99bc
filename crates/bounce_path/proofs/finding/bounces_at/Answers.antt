use Rattle.std.proofs.Common.{◌≡◌, ◌+◌, ◌∙◌, ℕ, ℤ, List, FitsSigned, to_z, of_z, sym, subst, length, slice_index_or, arith}
use Rattle.std.specs.Int.{w128}
use Rattle.std.proofs.lemmas.Int.{to_z-of_z}
use Rattle.std.proofs.lemmas.List.{get_or_default}
use Rattle.defining_functions.specs.Tables.{IsTable}
use Rattle.defining_functions.proofs.Tables.{IsTable-snoc}
use Rattle.bounce_path.specs.declared.bounce.Bounce.{Bounce}
use Rattle.bounce_path.specs.declared.crossing.Crossing.{Crossing}
use Rattle.bounce_path.specs.Crossings.{IsBounceAt}
use Rattle.bounce_path.proofs.finding.bounces_at.Goals as goal

-- the bounce of each crossing
abbrev IsAt : ℤ → List Crossing → ℕ → Bounce → Type 0
IsAt level crossings i b = (c : Crossing) → IsBounceAt level (slice_index_or crossings i c) (i + 1) b

-- the level as the machine keeps it
abbrev kept : ℤ → ℤ
kept level = to_z w128 (of_z w128 level)

pub loop-place-preserved : goal.loop-place-preserved
loop-place-preserved c =
    let level = kept c.args.level in
    let crossings = c.args.crossings.now in
    let n = c.loop-place.place in
    let item = c.index-crossings-place.result in
    let at : IsAt level crossings n c.bounce_at.result = λ (d : Crossing).
    subst (λ (x : Crossing). IsBounceAt level x (n + 1) c.bounce_at.result)
    (c.index-crossings-place.is ∙ get_or_default crossings n item d c.loop-place-test.true) c.bounce_at.ensures in
    subst (λ (bs : List Bounce). IsTable (IsAt level crossings) (n + 1) bs) (sym c.in_ok-push.ensures.items)
    (IsTable-snoc (IsAt level crossings) n c.loop-place.bounces.items c.bounce_at.result c.loop-place.invariant at)

pub returns : goal.returns
returns c =
    let crossings = c.args.crossings.now in
    let bounces = c.loop-place.bounces.items in
    let all : c.loop-place.place ≡ length crossings = omega (arith, c.loop-place-test.false, c.loop-place.auto.place-end) in
    let fits : FitsSigned w128 c.args.level = c.ranges.level in
    subst (λ (h : ℤ). IsTable (IsAt h crossings) (length crossings) bounces) (to_z-of_z w128 c.args.level fits)
    (subst (λ (n : ℕ). IsTable (IsAt (kept c.args.level) crossings) n bounces) all c.loop-place.invariant)
