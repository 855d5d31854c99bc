-- The end line of a tree that leaves boxes uncovered.
use Rattle.std.proofs.Common.{◌≡◌, ◌↔◌, ℕ, Bool, true, false, nat_eq, List, ◌++◌, length, take, drop, codes, decimal, refl, sym, ap, ◌∙◌}
use Rattle.std.specs.Cmp.Lexicographic.{other_text}
use lib.Pointwise.{pointwise}
use Rattle.std.proofs.lemmas.List.{take-append-drop}
use Rattle.line_grammar.specs.Text.{named_line}

-- what stands before the number
abbrev pub front : List ℕ
front = codes "end open "

-- a line that begins so is that of the number that stands behind
pub number_behind : (line number : List ℕ) (n : ℕ) → take (length front) line ≡ front → number ≡ drop (length front) line
    → (line ≡ named_line (codes "end open") n) ↔ (number ≡ decimal n)
number_behind line number n begins is = (
  (λ same. is ∙ ap (λ (l : List ℕ). drop (length front) l) same),
  (λ same.
      sym (take-append-drop (length front) line) ∙ ap (λ (xs : List ℕ). xs ++ drop (length front) line) begins
      ∙ ap (λ (xs : List ℕ). front ++ xs) (sym is ∙ same)),
)

-- a line that does not is that of no number
pub other_front : (line : List ℕ) (n : ℕ) → ¬ (take (length front) line ≡ front) → ¬ (line ≡ named_line (codes "end open") n)
other_front line n differs is = differs (ap (λ (l : List ℕ). take (length front) l) is)

-- texts that are one pass the test
pub same_is_true : (xs ys : List ℕ) (r : Bool) → r ≡ pointwise nat_eq xs ys → xs ≡ ys → r ≡ true
same_is_true xs ys true is same = refl
same_is_true xs ys false is same = absurd (other_text xs ys is same)
