-- The command `search`: the words that were shown to be open at a triangle.
use Rattle.std.specs.Prelude.{◌≡◌, ◌⊎◌, ℕ, ◌≤◌, List, [], ◌∷◌, ◌++◌, length, Some, None}
use Rattle.std.specs.declared.option.Option.{Option}
use Rattle.std.specs.List.{flat_map}
use Rattle.edge_words.specs.Reading.{digits_of}
use Rattle.word_search.specs.Search.{IsSearchResult}
use Rattle.billiards_cli.specs.Arguments.{Angles, triangle_of}
use Rattle.billiards_cli.specs.Commands.At.{AtTriangle}
use Rattle.billiards_cli.specs.EndLine.{end_text}
use Rattle.billiards_cli.specs.Refusals.{newline}
use Rattle.billiards_cli.specs.SearchBounds.{search_bound}
use Rattle.billiards_cli.specs.declared.request.Request.{Request}
use Rattle.billiards_cli.specs.declared.request.Request.TheVariants as request
use Rattle.billiards_cli.specs.declared.status.Status.{Status}
use Rattle.billiards_cli.specs.declared.status.Status.TheVariants.{Done, OutOfMemory}

-- a search, where there are a triangle and a bound
abbrev pub search_within : Option Angles → Option ℕ → Option Request
search_within None bound = None
search_within (Some triangle) None = None
search_within (Some triangle) (Some bound) = Some (request.Search triangle bound)

-- it takes the three numbers of a triangle and a bound
abbrev pub search_request : List (List ℕ) → Option Request
search_request (p ∷ q ∷ d ∷ bound ∷ []) = search_within (triangle_of p q d) (search_bound bound)
search_request arguments = None

abbrev pub word_line : List ℕ → List ℕ
word_line w = digits_of w ++ newline

-- the digits of each word, and how many words there are
abbrev pub search_text : List (List ℕ) → List ℕ
search_text ws = flat_map word_line ws ++ end_text (length ws)

-- the words of at most so many letters that were shown to be open there
pub record ShowsWords (triangle : Angles) (bound : ℕ) (text : List ℕ) : Type 0 where
  pub words : List (List ℕ)
  pub result : AtTriangle triangle (λ x y. IsSearchResult x y (λ w. length w ≤ bound) words)
  pub text_is : text ≡ search_text words

-- done with such words, unless memory is wanting
abbrev pub IsSearchAnswer : Angles → ℕ → Status → List ℕ → Type 0
IsSearchAnswer triangle bound Done text = ShowsWords triangle bound text
IsSearchAnswer triangle bound OutOfMemory text = text ≡ []
IsSearchAnswer triangle bound status text = ⊥

abbrev pub IsSearchDue : Status → Type 0
IsSearchDue status = (status ≡ Done) ⊎ (status ≡ OutOfMemory)
