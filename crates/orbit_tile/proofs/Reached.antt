-- How far a tile has come: the patches so far, and the boxes that are due after them.
use Rattle.std.proofs.Common.{◌≡◌, refl, sym, ap, ◌∙◌, subst, ℕ, zero, suc, ◌+◌, ◌*◌, ◌-◌, ◌^◌, ◌<◌, ◌≤◌, List, [], ◌∷◌, ◌++◌, arith, append_assoc}
use Rattle.std.specs.Prelude.{⊤, Bool, true, false}
use Rattle.std.specs.List.{All}
use Rattle.std.proofs.lemmas.List.{append-nil}
use Rattle.std.proofs.lemmas.List.Elements.{All-nil, All-cons, All-tail}
use Rattle.std.proofs.lemmas.Grind.{pow_more}
use Rattle.rational_polygon.specs.Square.{Square, unit_square, child}
use Rattle.orbit_tile.specs.declared.patch.Patch.{Patch}
use Rattle.orbit_tile.specs.declared.patch.PatchKind.{PatchKind}
use Rattle.orbit_tile.specs.Causes.{HasCause, IsDivided}
use Rattle.orbit_tile.specs.Stack.{children}
use Rattle.orbit_tile.specs.Tile.{IsTile, IsBegunTile}
use Rattle.orbit_tile.specs.Trees.{Tree, leaf, divided, patch_at, leaves, StandsByCause}
use Rattle.orbit_tile.specs.Trees.{BegunTree, still_due, in_first, in_second, in_third, in_fourth, first_leaves, BeginsByCause}

-- ---- trees for the boxes that are due

-- a tree by its causes for each of these boxes
abbrev pub AreGrown : List ℕ → ℕ → List Square → List Tree → Type 0
AreGrown w depth [] [] = ⊤
AreGrown w depth [] (t ∷ ts) = ⊥
AreGrown w depth (box ∷ due) [] = ⊥
AreGrown w depth (box ∷ due) (t ∷ ts) = StandsByCause w depth box t × AreGrown w depth due ts

-- their patches
abbrev pub leaves_of : List Square → List Tree → List Patch
leaves_of [] ts = []
leaves_of (box ∷ due) [] = []
leaves_of (box ∷ due) (t ∷ ts) = leaves box t ++ leaves_of due ts

-- trees by their causes for the first of these boxes, and a begun tree for the next one
abbrev pub AreGrownTo : List ℕ → ℕ → List Square → List Tree → BegunTree → Type 0
AreGrownTo w depth [] ts b = ⊥
AreGrownTo w depth (box ∷ due) [] b = BeginsByCause w depth box b
AreGrownTo w depth (box ∷ due) (t ∷ ts) b = StandsByCause w depth box t × AreGrownTo w depth due ts b

-- their patches
abbrev pub leaves_to : List Square → List Tree → BegunTree → List Patch
leaves_to [] ts b = []
leaves_to (box ∷ due) [] b = first_leaves box b
leaves_to (box ∷ due) (t ∷ ts) b = leaves box t ++ leaves_to due ts b

-- Whatever trees grow on the due boxes, the patches so far and theirs are a tile. So they are a begun one, where the last tree is begun.
pub record HasReached (w : List ℕ) (depth : ℕ) (patches : List Patch) (due : List Square) : Type 0 where
  pub whole : (ts : List Tree) → AreGrown w depth due ts → IsTile w depth (patches ++ leaves_of due ts)
  pub begun : (ts : List Tree) (b : BegunTree) → AreGrownTo w depth due ts b → IsBegunTile w depth (patches ++ leaves_to due ts b)
  pub deep : All (λ box. box.level ≤ depth) due

-- ---- before the first patch

alone : (w : List ℕ) (depth : ℕ) (ts : List Tree) → AreGrown w depth (unit_square ∷ []) ts → IsTile w depth (leaves_of (unit_square ∷ []) ts)
alone w depth [] grown = absurd grown
alone w depth (t ∷ []) grown = record { tree = t; leaves_are = append-nil (leaves unit_square t); causes = grown.0 }
alone w depth (t ∷ s ∷ ts) grown = absurd grown.1

begun_alone : (w : List ℕ) (depth : ℕ) (ts : List Tree) (b : BegunTree) → AreGrownTo w depth (unit_square ∷ []) ts b
    → IsBegunTile w depth (leaves_to (unit_square ∷ []) ts b)
begun_alone w depth [] b grown = record { tree = b; leaves_are = refl; causes = grown }
begun_alone w depth (t ∷ ts) b grown = absurd grown.1

pub at_start : (w : List ℕ) (depth : ℕ) → HasReached w depth [] (unit_square ∷ [])
at_start w depth = record {
  whole = alone w depth;
  begun = begun_alone w depth;
  deep = All-cons (λ (box : Square). box.level ≤ depth) unit_square [] (omega arith) (All-nil (λ (box : Square). box.level ≤ depth));
}

-- ---- one box on

-- a patch by its cause
pub after_patch : (w : List ℕ) (depth : ℕ) (patches : List Patch) (box : Square) (due : List Square) (kind : PatchKind)
    → HasReached w depth patches (box ∷ due) → HasCause w depth box kind → HasReached w depth (patches ++ patch_at box kind ∷ []) due
after_patch w depth patches box due kind reached cause = record {
  whole = λ ts grown. subst (IsTile w depth) (sym (append_assoc patches (patch_at box kind ∷ []) (leaves_of due ts)))
      (reached.whole (leaf kind ∷ ts) (cause, grown));
  begun = λ ts b grown. subst (IsBegunTile w depth) (sym (append_assoc patches (patch_at box kind ∷ []) (leaves_to due ts b)))
      (reached.begun (leaf kind ∷ ts) b (cause, grown));
  deep = All-tail (λ (box : Square). box.level ≤ depth) box due reached.deep;
}

regroup : {A : Type 0} (a b c d e : List A) → (a ++ (b ++ (c ++ d))) ++ e ≡ a ++ (b ++ (c ++ (d ++ e)))
regroup a b c d e = simp append_assoc

-- the trees of four children are one of their box
one_tree : (w : List ℕ) (depth : ℕ) (patches : List Patch) (box : Square) (due : List Square) → HasReached w depth patches (box ∷ due)
    → IsDivided w depth box → (ts : List Tree) → AreGrown w depth (children box ++ due) ts
    → IsTile w depth (patches ++ leaves_of (children box ++ due) ts)
one_tree w depth patches box due reached cause [] grown = absurd grown
one_tree w depth patches box due reached cause (a ∷ []) grown = absurd grown.1
one_tree w depth patches box due reached cause (a ∷ b ∷ []) grown = absurd grown.1.1
one_tree w depth patches box due reached cause (a ∷ b ∷ c ∷ []) grown = absurd grown.1.1.1
one_tree w depth patches box due reached cause (a ∷ b ∷ c ∷ d ∷ ts) grown =
    subst (λ (ps : List Patch). IsTile w depth (patches ++ ps))
    (regroup (leaves (child box 0) a) (leaves (child box 1) b) (leaves (child box 2) c) (leaves (child box 3) d) (leaves_of due ts))
    (reached.whole (divided a b c d ∷ ts) ((cause, grown.0, grown.1.0, grown.1.1.0, grown.1.1.1.0), grown.1.1.1.1))

one_begun_tree : (w : List ℕ) (depth : ℕ) (patches : List Patch) (box : Square) (due : List Square) → HasReached w depth patches (box ∷ due)
    → IsDivided w depth box → (ts : List Tree) (t : BegunTree) → AreGrownTo w depth (children box ++ due) ts t
    → IsBegunTile w depth (patches ++ leaves_to (children box ++ due) ts t)
one_begun_tree w depth patches box due reached cause [] t grown = reached.begun [] (in_first t) (cause, grown)
one_begun_tree w depth patches box due reached cause (a ∷ []) t grown = reached.begun [] (in_second a t) (cause, grown.0, grown.1)
one_begun_tree w depth patches box due reached cause (a ∷ b ∷ []) t grown = reached.begun [] (in_third a b t) (cause, grown.0, grown.1.0, grown.1.1)
one_begun_tree w depth patches box due reached cause (a ∷ b ∷ c ∷ []) t grown =
    reached.begun [] (in_fourth a b c t) (cause, grown.0, grown.1.0, grown.1.1.0, grown.1.1.1)
one_begun_tree w depth patches box due reached cause (a ∷ b ∷ c ∷ d ∷ ts) t grown =
    subst (λ (ps : List Patch). IsBegunTile w depth (patches ++ ps))
    (regroup (leaves (child box 0) a) (leaves (child box 1) b) (leaves (child box 2) c) (leaves (child box 3) d) (leaves_to due ts t))
    (reached.begun (divided a b c d ∷ ts) t ((cause, grown.0, grown.1.0, grown.1.1.0, grown.1.1.1.0), grown.1.1.1.1))

-- a division by its cause
pub after_division : (w : List ℕ) (depth : ℕ) (patches : List Patch) (box : Square) (due : List Square) → HasReached w depth patches (box ∷ due)
    → IsDivided w depth box → HasReached w depth patches (children box ++ due)
after_division w depth patches box due reached cause =
    let Q = λ (box : Square). box.level ≤ depth in
    let one : (c : ℕ) → (child box c).level ≤ depth = λ c. omega (arith, cause.0) in
    record {
      whole = one_tree w depth patches box due reached cause;
      begun = one_begun_tree w depth patches box due reached cause;
      deep =
          All-cons Q (child box 0) (child box 1 ∷ child box 2 ∷ child box 3 ∷ due) (one 0)
          (All-cons Q (child box 1) (child box 2 ∷ child box 3 ∷ due) (one 1)
          (All-cons Q (child box 2) (child box 3 ∷ due) (one 2)
          (All-cons Q (child box 3) due (one 3) (All-tail Q box due reached.deep))));
    }

-- ---- as the loop has it

pub next_reached : (w : List ℕ) (depth : ℕ) (patches : List Patch) (due : List Square) (box : Square) (others : List Square)
    → HasReached w depth patches due → due ≡ box ∷ others → HasReached w depth patches (box ∷ others)
next_reached w depth patches due box others reached is = subst (HasReached w depth patches) is reached

-- where none is due, the patches are a tile
pub whole_tile : (w : List ℕ) (depth : ℕ) (patches : List Patch) (due : List Square) → HasReached w depth patches due → due ≡ [] → IsTile w depth patches
whole_tile w depth patches due reached none =
    subst (IsTile w depth) (append-nil patches) ((subst (HasReached w depth patches) none reached).whole [] tt)

-- where one is, they are a begun one
pub begun_tile : (w : List ℕ) (depth : ℕ) (patches : List Patch) (box : Square) (others : List Square) → HasReached w depth patches (box ∷ others)
    → IsBegunTile w depth patches
begun_tile w depth patches box others reached = subst (IsBegunTile w depth) (append-nil patches) (reached.begun [] still_due tt)

-- ---- the loop ends

-- what is left to do in a box, and in all that are due: a division leaves less in four boxes
abbrev pub left_in : ℕ → Square → ℕ
left_in depth box = 5 ^ (depth - box.level)

abbrev pub left_in_all : ℕ → List Square → ℕ
left_in_all depth [] = 0
left_in_all depth (box ∷ due) = left_in depth box + left_in_all depth due

power_of_five : (k : ℕ) → 0 < 5 ^ k
power_of_five zero = omega arith
power_of_five (suc k) = omega (arith, pow_more 5 k, power_of_five k)

pub less_after_patch : (depth : ℕ) (box : Square) (others : List Square) → left_in_all depth others < left_in_all depth (box ∷ others)
less_after_patch depth box others =
    omega (arith, power_of_five (depth - box.level))

pub less_after_division : (depth : ℕ) (box : Square) (others : List Square) → box.level < depth
    → left_in_all depth (children box ++ others) < left_in_all depth (box ∷ others)
less_after_division depth box others above =
    let k = depth - (box.level + 1) in
    let more : depth - box.level ≡ k + 1 = omega (arith, above) in
    let five : left_in depth box ≡ 5 ^ k * 5 = ap (λ e. 5 ^ e) more ∙ pow_more 5 k in
    let four : left_in_all depth (children box ++ others) ≡ 5 ^ k + (5 ^ k + (5 ^ k + (5 ^ k + left_in_all depth others))) = refl in
    omega (arith, four, five, power_of_five k)

pub not_both : (b : Bool) → b ≡ false → b ≡ true → ⊥
not_both b is_false is_true =
    let both : false ≡ true = sym is_false ∙ is_true in
    cc
