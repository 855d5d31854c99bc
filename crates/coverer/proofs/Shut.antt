-- Words that are shut on a box, and so are not in question on it.
use Rattle.std.proofs.Common.{◌≡◌, ◌≢◌, ◌↔◌, inl, inr, sym, ◌∙◌, subst, ℕ, ◌^◌, ◌<◌, ◌≤◌, pos, Bool, true, false, List, All, length, arith}
use Rattle.std.proofs.lemmas.Bool.{cases_eq}
use Rattle.std.proofs.lemmas.Int.{ints}
use Rattle.std.proofs.lemmas.Nat.{pow_pos}
use Rattle.rat_core.specs.Fraction.{◌÷◌, ◌≤ℚ◌}
use Rattle.rat_core.proofs.Laws.{over_le}
use Rattle.rational_polygon.specs.Square.{Square, child}
use Rattle.gradient_bounds.specs.Clear.{IsClear, IsShut}
use Rattle.gradient_bounds.specs.CornerClear.{IsCornerClear}
use Rattle.gradient_bounds.specs.Slacks as slacks
use Rattle.gradient_bounds.proofs.Margins.{slack_positive}
use Rattle.gradient_bounds.proofs.Within.{shut_goes_to_children, shut_is_not_clear_lem}
use Rattle.corner_bounds.proofs.Boxes.{shut_is_not_corner_clear_lem}
use Rattle.covering_file.specs.Faults.{word_at, IsListed}
use Rattle.covering_file.specs.Header.{IsStableWord}
use Rattle.covering_file.proofs.Covers.{listed_is_word}
use Rattle.coverer.specs.declared.word_set.WordSet.{WordSet}
use Rattle.coverer.specs.Words.{IsIn, AreShutOut}

enough : pos 1 ÷ 2 ^ 49 ≤ℚ slacks.findable.corner
enough = over_le (pos 1) (pos 1) (2 ^ 49) (2 ^ 28) (pow_pos 49) (pow_pos 28) (omega (arith, ints))

-- a word that is not in question is not clear
pub shut_out : (words : List (List ℕ)) (set : WordSet) (box : Square) (i : ℕ) → AreShutOut words set box → IsListed words i → ¬ (IsIn set i)
    → ¬ (IsClear (word_at words i) box slacks.findable.gradient)
shut_out words set box i shut listed out clear =
    shut_is_not_clear_lem (word_at words i) box slacks.sure.gradient slacks.findable.gradient (slack_positive 40) (slack_positive 28) (shut i listed out) clear

-- nor is it at the corners
pub shut_out_at_corners : (words : List (List ℕ)) (set : WordSet) (box : Square) (i : ℕ) → All IsStableWord words → AreShutOut words set box
    → IsListed words i → ¬ (IsIn set i) → ¬ (IsCornerClear (word_at words i) box slacks.findable.corner)
shut_out_at_corners words set box i stable shut listed out clear =
    shut_is_not_corner_clear_lem (word_at words i) box slacks.sure.gradient slacks.findable.corner (listed_is_word words i stable listed) (slack_positive 40)
    enough (shut i listed out) clear

-- and it is out on each child of the box too
pub shut_out_below : (words : List (List ℕ)) (set : WordSet) (box : Square) (c : ℕ) → c < 4 → AreShutOut words set box
    → AreShutOut words set (child box c)
shut_out_below words set box c less shut i listed out =
    shut_goes_to_children (word_at words i) box c slacks.sure.gradient less (shut i listed out)

-- a word that is shut may be left out, where the others are in the set or out of it as before
pub shut_out_more : (words : List (List ℕ)) (old new : WordSet) (box : Square) (i : ℕ) → length words ≤ 32 → AreShutOut words old box
    → IsShut (word_at words i) box slacks.sure.gradient
    → ((j : ℕ) → 1 ≤ j → j ≤ 32 → j ≢ i → IsIn new j ↔ IsIn old j) → AreShutOut words new box
shut_out_more words old new box i few before shut others j listed out =
    elim (cases_eq j i) [
      | inl same ↦ subst (λ (k : ℕ). IsShut (word_at words k) box slacks.sure.gradient) (sym same) shut
      | inr differs ↦
          let within : j ≤ 32 = omega (arith, few, listed.1) in
          before j listed (λ was. out ((others j listed.0 within differs).1 was))
    ]

pub not_both : (b : Bool) → b ≡ false → b ≡ true → ⊥
not_both b is_false is_true =
    let both : false ≡ true = sym is_false ∙ is_true in
    cc
