-- The command `unfold`: the picture of a word's unfolding in a triangle.
use Rattle.std.specs.Prelude.{◌≡◌, ◌⊎◌, ℕ, List, [], ◌∷◌, None}
use Rattle.std.specs.Option.{option_map}
use Rattle.std.specs.declared.option.Option.{Option}
use Rattle.edge_words.specs.Reading.{Spells}
use Rattle.svg_pictures.specs.UnfoldingPicture.{IsUnfoldingPicture}
use Rattle.billiards_cli.specs.Arguments.{Angles, any_word, triangle_of}
use Rattle.billiards_cli.specs.Commands.At.{AtTriangle}
use Rattle.billiards_cli.specs.Refusals.{RefusesArgument}
use Rattle.billiards_cli.specs.declared.request.Request.{Request}
use Rattle.billiards_cli.specs.declared.request.Request.TheVariants as request
use Rattle.billiards_cli.specs.declared.status.Status.{Status}
use Rattle.billiards_cli.specs.declared.status.Status.TheVariants.{Done, Malformed, OutOfMemory}

-- it takes a word and the three numbers of a triangle
abbrev pub unfold_request : List (List ℕ) → Option Request
unfold_request (word ∷ p ∷ q ∷ d ∷ []) = option_map (λ triangle. request.Unfold word triangle) (triangle_of p q d)
unfold_request arguments = None

-- the text is a picture of the word's unfolding there
pub record DrawsUnfolding (argument : List ℕ) (triangle : Angles) (text : List ℕ) : Type 0 where
  pub word : List ℕ
  pub spells : Spells argument word
  pub picture : AtTriangle triangle (λ x y. IsUnfoldingPicture word x y text)

pub record UnfoldWantsMemory (argument text : List ℕ) : Type 0 where
  pub word : List ℕ
  pub spells : Spells argument word
  pub text_is : text ≡ []

-- An argument is refused that spells no word; the word need not be stable. Memory is wanting only for a word.
abbrev pub IsUnfoldAnswer : List ℕ → Angles → Status → List ℕ → Type 0
IsUnfoldAnswer argument triangle Done text = DrawsUnfolding argument triangle text
IsUnfoldAnswer argument triangle Malformed text = RefusesArgument any_word argument text
IsUnfoldAnswer argument triangle OutOfMemory text = UnfoldWantsMemory argument text
IsUnfoldAnswer argument triangle status text = ⊥

-- done for a word, unless memory is wanting; what is no word is refused
pub record IsUnfoldDue (argument : List ℕ) (status : Status) : Type 0 where
  pub done : (w : List ℕ) → Spells argument w → (status ≡ Done) ⊎ (status ≡ OutOfMemory)
  pub refused : ¬ ((w : List ℕ) × Spells argument w) → status ≡ Malformed
