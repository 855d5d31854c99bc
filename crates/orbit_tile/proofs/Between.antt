-- Two trees that stand by their causes differ only where some box is between the slacks.
use Rattle.std.proofs.Common.{◌≡◌, ◌⊎◌, inl, inr, refl, sym, ap, ◌∙◌, ℕ, ◌+◌, ◌<◌, List, ◌++◌, length, length-append, arith}
use Rattle.rational_polygon.specs.Square.{Square, unit_square, child}
use Rattle.gradient_bounds.specs.Clear.{IsClear, IsShut}
use Rattle.gradient_bounds.specs.Slacks as slacks
use Rattle.gradient_bounds.proofs.Margins.{slack_positive}
use Rattle.gradient_bounds.proofs.Within.{shut_is_not_clear_lem}
use Rattle.orbit_tile.specs.declared.patch.Patch.{Patch}
use Rattle.orbit_tile.specs.declared.patch.PatchKind.{PatchKind}
use Rattle.orbit_tile.specs.declared.patch.PatchKind.TheVariants.{Inside, Outside, Undecided, Beyond}
use Rattle.orbit_tile.specs.Causes.{HasCause, IsDivided}
use Rattle.orbit_tile.specs.Laws.{IsBetweenSlacks, TilesDifferBetween, FullDiffersBetween}
use Rattle.orbit_tile.specs.Trees.{Tree, leaf, divided, leaves, StandsByCause}
use Rattle.orbit_tile.specs.Trees.{BegunTree, still_due, in_first, in_second, in_third, in_fourth, first_leaves, BeginsByCause}

abbrev SomeBetween : List ℕ → Type 0
SomeBetween w = (box : Square) × IsBetweenSlacks w box

-- ---- one box

not_both : (w : List ℕ) (box : Square) → IsClear w box slacks.sound.gradient → IsShut w box slacks.sound.gradient → ⊥
not_both w box clear shut =
    shut_is_not_clear_lem w box slacks.sound.gradient slacks.sound.gradient (slack_positive 60) (slack_positive 60) shut clear

-- a patch that another tree divides
leaf_or_divided : (w : List ℕ) (depth : ℕ) (box : Square) (kind : PatchKind) → HasCause w depth box kind → IsDivided w depth box → SomeBetween w
leaf_or_divided w depth box Beyond cause other = absurd (other.1.within cause)
leaf_or_divided w depth box Inside cause other = (box, record { seen = inl cause.1; in_question = other.1 })
leaf_or_divided w depth box Outside cause other = (box, record { seen = inr cause.1; in_question = other.1 })
leaf_or_divided w depth box Undecided cause other = absurd (omega (arith, cause.0, other.0))

-- the kinds of two patches of one box
kinds : (w : List ℕ) (depth : ℕ) (box : Square) (k l : PatchKind) → HasCause w depth box k → HasCause w depth box l → (k ≡ l) ⊎ SomeBetween w
kinds w depth box Beyond Beyond first second = inl refl
kinds w depth box Beyond Inside first second = absurd (second.0 first)
kinds w depth box Beyond Outside first second = absurd (second.0 first)
kinds w depth box Beyond Undecided first second = absurd (second.1.within first)
kinds w depth box Inside Beyond first second = absurd (first.0 second)
kinds w depth box Inside Inside first second = inl refl
kinds w depth box Inside Outside first second = absurd (not_both w box first.1 second.1)
kinds w depth box Inside Undecided first second = inr (box, record { seen = inl first.1; in_question = second.1 })
kinds w depth box Outside Beyond first second = absurd (first.0 second)
kinds w depth box Outside Inside first second = absurd (not_both w box second.1 first.1)
kinds w depth box Outside Outside first second = inl refl
kinds w depth box Outside Undecided first second = inr (box, record { seen = inr first.1; in_question = second.1 })
kinds w depth box Undecided Beyond first second = absurd (first.1.within second)
kinds w depth box Undecided Inside first second = inr (box, record { seen = inl second.1; in_question = first.1 })
kinds w depth box Undecided Outside first second = inr (box, record { seen = inr second.1; in_question = first.1 })
kinds w depth box Undecided Undecided first second = inl refl

-- ---- two whole trees

same_divided : (a b c d a' b' c' d' : Tree) → a ≡ a' → b ≡ b' → c ≡ c' → d ≡ d' → divided a b c d ≡ divided a' b' c' d'
same_divided a b c d a' b' c' d' p q r s = cc

same_tree : (w : List ℕ) (depth : ℕ) (box : Square) (s t : Tree) → StandsByCause w depth box s → StandsByCause w depth box t → (s ≡ t) ⊎ SomeBetween w
same_tree w depth box (leaf k) (leaf l) first second =
    elim (kinds w depth box k l first second) [ inl same ↦ inl (ap leaf same) | inr between ↦ inr between ]
same_tree w depth box (leaf k) (divided a b c d) first second = inr (leaf_or_divided w depth box k first second.0)
same_tree w depth box (divided a b c d) (leaf k) first second = inr (leaf_or_divided w depth box k second first.0)
same_tree w depth box (divided a b c d) (divided a' b' c' d') first second =
    elim (same_tree w depth (child box 0) a a' first.1 second.1) [
      | inr between ↦ inr between
      | inl p ↦ elim (same_tree w depth (child box 1) b b' first.2 second.2) [
        | inr between ↦ inr between
        | inl q ↦ elim (same_tree w depth (child box 2) c c' first.3 second.3) [
          | inr between ↦ inr between
          | inl r ↦ elim (same_tree w depth (child box 3) d d' first.4 second.4) [
            | inr between ↦ inr between
            | inl s ↦ inl (same_divided a b c d a' b' c' d' p q r s)
          ]
        ]
      ]
    ]

pub tiles_differ_between_lem : TilesDifferBetween
tiles_differ_between_lem w depth patches patches' first second =
    elim (same_tree w depth unit_square first.tree second.tree first.causes second.causes) [
      | inl same ↦ inl (first.leaves_are ∙ ap (λ (t : Tree). leaves unit_square t) same ∙ sym second.leaves_are)
      | inr between ↦ inr between
    ]

-- ---- a tree that is begun, and a whole one

three : {A : Type 0} (a b c : List A) → length (a ++ (b ++ c)) ≡ length a + (length b + length c)
three a b c = omega (arith, length-append a (b ++ c), length-append b c)

four : {A : Type 0} (a b c d : List A) → length (a ++ (b ++ (c ++ d))) ≡ length a + (length b + (length c + length d))
four a b c d = omega (arith, length-append a (b ++ (c ++ d)), length-append b (c ++ d), length-append c d)

some_leaf : (box : Square) (t : Tree) → 0 < length (leaves box t)
some_leaf box (leaf kind) = omega arith
some_leaf box (divided a b c d) =
    omega (arith, some_leaf (child box 0) a, four (leaves (child box 0) a) (leaves (child box 1) b) (leaves (child box 2) c) (leaves (child box 3) d))

-- as many leaves, where the trees are one
as_many : (w : List ℕ) (depth : ℕ) (box : Square) (s t : Tree) → StandsByCause w depth box s → StandsByCause w depth box t
    → (length (leaves box s) ≡ length (leaves box t)) ⊎ SomeBetween w
as_many w depth box s t first second =
    elim (same_tree w depth box s t first second) [
      | inl same ↦ inl (ap (λ (u : Tree). length (leaves box u)) same)
      | inr between ↦ inr between
    ]

-- the first leaves of a begun tree are fewer than those of a whole one
fewer : (w : List ℕ) (depth : ℕ) (box : Square) (b : BegunTree) (t : Tree) → BeginsByCause w depth box b → StandsByCause w depth box t
    → (length (first_leaves box b) < length (leaves box t)) ⊎ SomeBetween w
fewer w depth box still_due t first second = inl (some_leaf box t)
fewer w depth box (in_first a) (leaf k) first second = inr (leaf_or_divided w depth box k second first.0)
fewer w depth box (in_second a b) (leaf k) first second = inr (leaf_or_divided w depth box k second first.0)
fewer w depth box (in_third a b c) (leaf k) first second = inr (leaf_or_divided w depth box k second first.0)
fewer w depth box (in_fourth a b c d) (leaf k) first second = inr (leaf_or_divided w depth box k second first.0)
fewer w depth box (in_first a) (divided a' b' c' d') first second =
    elim (fewer w depth (child box 0) a a' first.1 second.1) [
      | inr between ↦ inr between
      | inl less ↦ inl (omega (arith, less, four (leaves (child box 0) a') (leaves (child box 1) b') (leaves (child box 2) c') (leaves (child box 3) d')))
    ]
fewer w depth box (in_second a b) (divided a' b' c' d') first second =
    elim (as_many w depth (child box 0) a a' first.1 second.1) [
      | inr between ↦ inr between
      | inl p ↦ elim (fewer w depth (child box 1) b b' first.2 second.2) [
        | inr between ↦ inr between
        | inl less ↦ inl (omega (
          arith,
          p,
          less,
          length-append (leaves (child box 0) a) (first_leaves (child box 1) b),
          four (leaves (child box 0) a') (leaves (child box 1) b') (leaves (child box 2) c') (leaves (child box 3) d'),
        ))
      ]
    ]
fewer w depth box (in_third a b c) (divided a' b' c' d') first second =
    elim (as_many w depth (child box 0) a a' first.1 second.1) [
      | inr between ↦ inr between
      | inl p ↦ elim (as_many w depth (child box 1) b b' first.2 second.2) [
        | inr between ↦ inr between
        | inl q ↦ elim (fewer w depth (child box 2) c c' first.3 second.3) [
          | inr between ↦ inr between
          | inl less ↦ inl (omega (
            arith,
            p,
            q,
            less,
            three (leaves (child box 0) a) (leaves (child box 1) b) (first_leaves (child box 2) c),
            four (leaves (child box 0) a') (leaves (child box 1) b') (leaves (child box 2) c') (leaves (child box 3) d'),
          ))
        ]
      ]
    ]
fewer w depth box (in_fourth a b c d) (divided a' b' c' d') first second =
    elim (as_many w depth (child box 0) a a' first.1 second.1) [
      | inr between ↦ inr between
      | inl p ↦ elim (as_many w depth (child box 1) b b' first.2 second.2) [
        | inr between ↦ inr between
        | inl q ↦ elim (as_many w depth (child box 2) c c' first.3 second.3) [
          | inr between ↦ inr between
          | inl r ↦ elim (fewer w depth (child box 3) d d' first.4 second.4) [
            | inr between ↦ inr between
            | inl less ↦ inl (omega (
              arith,
              p,
              q,
              r,
              less,
              four (leaves (child box 0) a) (leaves (child box 1) b) (leaves (child box 2) c) (first_leaves (child box 3) d),
              four (leaves (child box 0) a') (leaves (child box 1) b') (leaves (child box 2) c') (leaves (child box 3) d'),
            ))
          ]
        ]
      ]
    ]

pub full_differs_between_lem : FullDiffersBetween
full_differs_between_lem w depth limit patches tile within full =
    elim (fewer w depth unit_square full.1.tree tile.tree full.1.causes tile.causes) [
      | inl less ↦
          absurd (omega (
            arith,
            less,
            within,
            full.2,
            ap (λ (ps : List Patch). length ps) full.1.leaves_are,
            ap (λ (ps : List Patch). length ps) tile.leaves_are,
          ))
      | inr between ↦ between
    ]
