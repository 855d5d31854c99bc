-- The command `at`: whether the corridor of a word was shown to be open at a triangle.
use Rattle.std.specs.Prelude.{◌≡◌, ◌⊎◌, ℕ, pos, List, [], ◌∷◌, codes, None}
use Rattle.std.specs.Option.{option_map}
use Rattle.std.specs.declared.option.Option.{Option}
use Rattle.edge_words.specs.Reading.{Spells}
use Rattle.edge_words.specs.Stable.{IsStable}
use Rattle.rat_core.specs.Fraction.{ℚ, ◌÷◌}
use Rattle.gradient_bounds.specs.Corridor.{HasCorridor}
use Rattle.gradient_bounds.specs.Clear.{IsClearAtPoint}
use Rattle.gradient_bounds.specs.Slacks.{sure}
use Rattle.covering_file.specs.CornerForms.{word_form}
use Rattle.billiards_cli.specs.Arguments.{Angles, triangle_of}
use Rattle.billiards_cli.specs.Refusals.{RefusesArgument}
use Rattle.billiards_cli.specs.declared.request.Request.{Request}
use Rattle.billiards_cli.specs.declared.request.Request.TheVariants as request
use Rattle.billiards_cli.specs.declared.status.Status.{Status}
use Rattle.billiards_cli.specs.declared.status.Status.TheVariants.{Done, NotShown, Malformed, OutOfMemory}

-- it takes a word and the three numbers of a triangle
abbrev pub at_request : List (List ℕ) → Option Request
at_request (word ∷ p ∷ q ∷ d ∷ []) = option_map (λ triangle. request.At word triangle) (triangle_of p q d)
at_request arguments = None

abbrev pub open_text : List ℕ
open_text = codes "open\n"

abbrev pub not_shown_text : List ℕ
not_shown_text = codes "not shown\n"

-- a fact of a word at the triangle (p / d, q / d)
abbrev pub AtTriangle : Angles → (ℚ → ℚ → Type 0) → Type 0
AtTriangle a P = P (pos a.p ÷ a.d) (pos a.q ÷ a.d)

-- the word has a corridor there
pub record ShowsOpen (argument : List ℕ) (triangle : Angles) (text : List ℕ) : Type 0 where
  pub word : List ℕ
  pub spells : Spells argument word
  pub corridor : AtTriangle triangle (HasCorridor word)
  pub text_is : text ≡ open_text

-- the word is stable, and not clear there with the wider slack
pub record ShowsNothing (argument : List ℕ) (triangle : Angles) (text : List ℕ) : Type 0 where
  pub word : List ℕ
  pub spells : Spells argument word
  pub stable : IsStable word
  pub not_clear : ¬ (AtTriangle triangle (λ x y. IsClearAtPoint word x y sure.gradient))
  pub text_is : text ≡ not_shown_text

pub record AtWantsMemory (argument text : List ℕ) : Type 0 where
  pub word : List ℕ
  pub spells : Spells argument word
  pub stable : IsStable word
  pub text_is : text ≡ []

-- An argument is refused that spells no word, or none that is stable. Memory is wanting only for a stable word.
abbrev pub IsAtAnswer : List ℕ → Angles → Status → List ℕ → Type 0
IsAtAnswer argument triangle Done text = ShowsOpen argument triangle text
IsAtAnswer argument triangle NotShown text = ShowsNothing argument triangle text
IsAtAnswer argument triangle Malformed text = RefusesArgument word_form argument text
IsAtAnswer argument triangle OutOfMemory text = AtWantsMemory argument text
IsAtAnswer argument triangle status text = ⊥

-- done where the word is clear with the wider slack, unless memory is wanting; what is no stable word is refused
pub record IsAtDue (argument : List ℕ) (triangle : Angles) (status : Status) : Type 0 where
  pub done : (w : List ℕ) → Spells argument w → AtTriangle triangle (λ x y. IsClearAtPoint w x y sure.gradient) → (status ≡ Done) ⊎ (status ≡ OutOfMemory)
  pub refused : ¬ ((w : List ℕ) × Spells argument w × IsStable w) → status ≡ Malformed
