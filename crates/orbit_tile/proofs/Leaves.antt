-- The leaves of a tree that stands by its causes.
use Rattle.std.proofs.Common.{◌≡◌, ◌⊎◌, inl, inr, refl, sym, subst, ℕ, zero, suc, ◌+◌, ◌*◌, ◌^◌, ◌<◌, ◌≤◌, pos, List, [], ◌∷◌, ◌++◌, arith}
use Rattle.std.specs.List.{All, Contains}
use Rattle.std.proofs.lemmas.List.Elements.{All-nil, All-cons, All-append, All-contains, Contains-append_left, Contains-append_right}
use Rattle.std.proofs.Math.Pow.{pow_pos}
use Rattle.ring_solver.specs.Expression.{num, ◌⊞◌}
use Rattle.ring_solver.specs.Ordered.{le}
use Rattle.ring_solver.proofs.Certificate.{le₄}
use Rattle.ring_solver.proofs.Whole.{pos_le}
use Rattle.rat_core.specs.Fraction.{ℚ, whole, ◌÷◌, ◌+ℚ◌, ◌≤ℚ◌}
use Rattle.rat_core.proofs.Laws.{ℚ_ordered, over_le, lt_not_le}
use Rattle.rat_core.proofs.Quotients.{over-add_same}
use Rattle.rational_polygon.specs.Point.{Point, IsTriangle}
use Rattle.rational_polygon.specs.Square.{Square, unit_square, child, dyadic, IsInBox}
use Rattle.rational_polygon.proofs.Halves.{some_child}
use Rattle.gradient_bounds.specs.Slacks as slacks
use Rattle.gradient_bounds.proofs.Boxes.{clear_gives_corridor_lem, shut_gives_no_corridor_lem}
use Rattle.gradient_bounds.proofs.Margins.{slack_positive}
use Rattle.orbit_tile.specs.declared.patch.Patch.{Patch}
use Rattle.orbit_tile.specs.declared.patch.PatchKind.{PatchKind}
use Rattle.orbit_tile.specs.declared.patch.PatchKind.TheVariants.{Inside, Outside, Beyond}
use Rattle.orbit_tile.specs.Causes.{IsBeyond, HasCause}
use Rattle.orbit_tile.specs.Laws.{InsideIsOpen, OutsideIsNot, BeyondHoldsNone, PatchesCover}
use Rattle.orbit_tile.specs.Tile.{IsTile}
use Rattle.orbit_tile.specs.Trees.{Tree, leaf, divided, patch_at, leaves, StandsByCause}

-- ---- each patch has its cause

abbrev HasItsCause : List ℕ → ℕ → Patch → Type 0
HasItsCause w depth patch = HasCause w depth patch.place patch.kind

each_has_cause : (w : List ℕ) (depth : ℕ) (box : Square) (t : Tree) → StandsByCause w depth box t → All (HasItsCause w depth) (leaves box t)
each_has_cause w depth box (leaf kind) cause = All-cons (HasItsCause w depth) (patch_at box kind) [] cause (All-nil (HasItsCause w depth))
each_has_cause w depth box (divided a b c d) causes =
    let Q = HasItsCause w depth in
    let in_a = each_has_cause w depth (child box 0) a causes.1 in
    let in_b = each_has_cause w depth (child box 1) b causes.2 in
    let in_c = each_has_cause w depth (child box 2) c causes.3 in
    let in_d = each_has_cause w depth (child box 3) d causes.4 in
    let la = leaves (child box 0) a in
    let lb = leaves (child box 1) b in
    let lc = leaves (child box 2) c in
    let ld = leaves (child box 3) d in
    All-append Q la (lb ++ (lc ++ ld)) in_a (All-append Q lb (lc ++ ld) in_b (All-append Q lc ld in_c in_d))

-- the cause of a patch of known kind
cause_of : (w : List ℕ) (depth : ℕ) (patches : List Patch) (patch : Patch) (kind : PatchKind) → IsTile w depth patches → Contains patches patch
    → patch.kind ≡ kind → HasCause w depth patch.place kind
cause_of w depth patches patch kind tile stands is =
    let all = subst (All (HasItsCause w depth)) (sym tile.leaves_are) (each_has_cause w depth unit_square tile.tree tile.causes) in
    subst (HasCause w depth patch.place) is (All-contains (HasItsCause w depth) patches patch all stands)

-- ---- no patch lies below the full depth

abbrev IsDeep : ℕ → Patch → Type 0
IsDeep depth patch = patch.place.level ≤ depth

each_is_deep : (w : List ℕ) (depth : ℕ) (box : Square) (t : Tree) → box.level ≤ depth → StandsByCause w depth box t → All (IsDeep depth) (leaves box t)
each_is_deep w depth box (leaf kind) deep cause = All-cons (IsDeep depth) (patch_at box kind) [] deep (All-nil (IsDeep depth))
each_is_deep w depth box (divided a b c d) deep causes =
    let Q = IsDeep depth in
    let one : (k : ℕ) → (child box k).level ≤ depth = λ k. omega (arith, causes.0.0) in
    let in_a = each_is_deep w depth (child box 0) a (one 0) causes.1 in
    let in_b = each_is_deep w depth (child box 1) b (one 1) causes.2 in
    let in_c = each_is_deep w depth (child box 2) c (one 2) causes.3 in
    let in_d = each_is_deep w depth (child box 3) d (one 3) causes.4 in
    let la = leaves (child box 0) a in
    let lb = leaves (child box 1) b in
    let lc = leaves (child box 2) c in
    let ld = leaves (child box 3) d in
    All-append Q la (lb ++ (lc ++ ld)) in_a (All-append Q lb (lc ++ ld) in_b (All-append Q lc ld in_c in_d))

pub tile_is_deep : (w : List ℕ) (depth : ℕ) (patches : List Patch) → IsTile w depth patches → All (λ patch. patch.place.level ≤ depth) patches
tile_is_deep w depth patches tile =
    subst (All (IsDeep depth)) (sym tile.leaves_are) (each_is_deep w depth unit_square tile.tree (omega arith) tile.causes)

-- ---- what a patch says of its triangles

pub inside_is_open_lem : InsideIsOpen
inside_is_open_lem w depth patches patch p tile stands is inside =
    let cause = cause_of w depth patches patch Inside tile stands is in
    clear_gives_corridor_lem w patch.place slacks.sound.gradient (slack_positive 60) cause.1 p inside

pub outside_is_not_lem : OutsideIsNot
outside_is_not_lem w depth patches patch p tile stands is inside =
    let cause = cause_of w depth patches patch Outside tile stands is in
    shut_gives_no_corridor_lem w patch.place slacks.sound.gradient (slack_positive 60) cause.1 p inside

-- ---- beyond the line x + y = 1

sum_reaches_one : (i j level : ℕ) → 2 ^ level ≤ i + j → whole 1 ≤ℚ dyadic (i + 0) level +ℚ dyadic (j + 0) level
sum_reaches_one i j level beyond =
    let sum = over-add_same (i + 0) (j + 0) (2 ^ level) (pow_pos level) in
    let reaches : whole 1 ≤ℚ pos (i + 0 + (j + 0)) ÷ 2 ^ level =
    over_le (pos 1) (pos (i + 0 + (j + 0))) 1 (2 ^ level) (omega arith) (pow_pos level)
    (pos_le (1 * 2 ^ level) ((i + 0 + (j + 0)) * 1) (omega (arith, beyond)))
    in
    subst (λ (s : ℚ). whole 1 ≤ℚ s) (sym sum) reaches

beyond_has_none : (box : Square) (p : Point) → IsBeyond box → IsInBox box p → IsTriangle p → ⊥
beyond_has_none box p beyond inside triangle =
    let a = dyadic (box.i + 0) box.level in
    let b = dyadic (box.j + 0) box.level in
    let reaches : whole 1 ≤ℚ p.x +ℚ p.y =
    le₄ ℚ_ordered (λ a b x y. num 1) (λ a b x y. x ⊞ y) (λ a b x y. le (num 1) (a ⊞ b) ∷ le a x ∷ le b y ∷ []) refl
    a b p.x p.y (sum_reaches_one box.i box.j box.level beyond, (inside.left, (inside.below, tt)))
    in
    lt_not_le (p.x +ℚ p.y) (whole 1) triangle.third reaches

pub beyond_holds_none_lem : BeyondHoldsNone
beyond_holds_none_lem w depth patches patch p tile stands is inside =
    beyond_has_none patch.place p (cause_of w depth patches patch Beyond tile stands is) inside

-- ---- each point lies in a patch

-- a patch of the tree that has the point
record IsFound (box : Square) (t : Tree) (p : Point) : Type 0 where
  patch : Patch
  stands : Contains (leaves box t) patch
  inside : IsInBox patch.place p

-- what holds of a number below four holds of one of the four
one_of_four : (c : ℕ) (P : ℕ → Type 0) → c < 4 → P c → P 0 ⊎ P 1 ⊎ P 2 ⊎ P 3
one_of_four zero P less p = inl p
one_of_four (suc zero) P less p = inr (inl p)
one_of_four (suc (suc zero)) P less p = inr (inr (inl p))
one_of_four (suc (suc (suc zero))) P less p = inr (inr (inr p))
one_of_four (suc (suc (suc (suc c)))) P less p = absurd (omega (arith, less))

found : (t : Tree) (box : Square) (p : Point) → IsInBox box p → IsFound box t p
found (leaf kind) box p inside = record { patch = patch_at box kind; stands = (0, omega arith, refl); inside = inside }
found (divided a b c d) box p inside =
    let part = some_child box p inside in
    let la = leaves (child box 0) a in
    let lb = leaves (child box 1) b in
    let lc = leaves (child box 2) c in
    let ld = leaves (child box 3) d in
    elim (one_of_four part.0 (λ k. IsInBox (child box k) p) part.1 part.2) [
      | inl there ↦
          let f = found a (child box 0) p there in
          record { patch = f.patch; stands = Contains-append_left la (lb ++ (lc ++ ld)) f.patch f.stands; inside = f.inside }
      | inr after_a ↦ elim after_a [
        | inl there ↦
            let f = found b (child box 1) p there in
            record {
              patch = f.patch;
              stands = Contains-append_right la (lb ++ (lc ++ ld)) f.patch (Contains-append_left lb (lc ++ ld) f.patch f.stands);
              inside = f.inside;
            }
        | inr after_b ↦ elim after_b [
          | inl there ↦
              let f = found c (child box 2) p there in
              record {
                patch = f.patch;
                stands = Contains-append_right la (lb ++ (lc ++ ld)) f.patch (Contains-append_right lb (lc ++ ld) f.patch
                    (Contains-append_left lc ld f.patch f.stands));
                inside = f.inside;
              }
          | inr there ↦
              let f = found d (child box 3) p there in
              record {
                patch = f.patch;
                stands = Contains-append_right la (lb ++ (lc ++ ld)) f.patch (Contains-append_right lb (lc ++ ld) f.patch
                    (Contains-append_right lc ld f.patch f.stands));
                inside = f.inside;
              }
        ]
      ]
    ]

pub patches_cover_lem : PatchesCover
patches_cover_lem w depth patches p tile inside =
    let f = found tile.tree unit_square p inside in
    (f.patch, subst (λ (ps : List Patch). Contains ps f.patch) (sym tile.leaves_are) f.stands, f.inside)
