-- The command `path`: the bounce points of a word's path in a triangle, as numbers or as a picture.
use Rattle.std.specs.Prelude.{◌≡◌, ◌⊎◌, ℕ, ℤ, ◌+◌, List, [], ◌∷◌, ◌++◌, length, codes, None, if◌then◌else◌}
use Rattle.std.specs.Fmt.{decimal, signed_decimal}
use Rattle.std.specs.List.{concat}
use Rattle.std.specs.Option.{option_map}
use Rattle.std.specs.Str.{bytes_eq}
use Rattle.std.specs.declared.option.Option.{Option}
use Rattle.edge_words.specs.Reading.{Spells}
use Rattle.edge_words.specs.Stable.{IsStable}
use Rattle.gradient_bounds.specs.Clear.{IsClearAtPoint}
use Rattle.bounce_path.specs.Path.{BouncePath, IsPath, room_for_path}
use Rattle.bounce_path.specs.declared.bounce.Bounce.{Bounce}
use Rattle.svg_pictures.specs.PathPicture.{IsPathPicture}
use Rattle.covering_file.specs.CornerForms.{word_form}
use Rattle.billiards_cli.specs.Arguments.{Angles, triangle_of}
use Rattle.billiards_cli.specs.Commands.At.{AtTriangle, AtWantsMemory, not_shown_text}
use Rattle.billiards_cli.specs.EndLine.{end_text}
use Rattle.billiards_cli.specs.Refusals.{RefusesArgument, newline}
use Rattle.billiards_cli.specs.declared.request.Request.{Request}
use Rattle.billiards_cli.specs.declared.request.Request.TheVariants as request
use Rattle.billiards_cli.specs.declared.status.Status.{Status}
use Rattle.billiards_cli.specs.declared.status.Status.TheVariants.{Done, NotShown, Malformed, OutOfMemory}

-- it takes a word and the three numbers of a triangle, and the word `svg` or none
abbrev pub path_request : List (List ℕ) → Option Request
path_request (word ∷ p ∷ q ∷ d ∷ []) = option_map (λ triangle. request.Path word triangle) (triangle_of p q d)
path_request (word ∷ p ∷ q ∷ d ∷ form ∷ []) =
    if bytes_eq form (codes "svg") then option_map (λ triangle. request.DrawnPath word triangle) (triangle_of p q d) else None
path_request arguments = None

-- ---- the text

-- as `K D LOW HIGH` for the k-th bounce, which is on edge d
abbrev pub bounce_line : ℕ → Bounce → List ℕ
bounce_line k b = concat (decimal k ∷ codes " " ∷ decimal b.edge ∷ codes " " ∷ decimal b.low ∷ codes " " ∷ decimal b.high ∷ newline ∷ [])

-- the bounces from the k-th on
abbrev pub bounce_lines : ℕ → List Bounce → List ℕ
bounce_lines k [] = []
bounce_lines k (b ∷ bs) = bounce_line k b ++ bounce_lines (k + 1) bs

abbrev pub level_line : ℤ → List ℕ
level_line h = codes "level " ++ (signed_decimal h ++ newline)

-- the level, a line for each bounce, and their number
abbrev pub path_text : BouncePath → List ℕ
path_text p = level_line p.level ++ (bounce_lines 1 p.bounces ++ end_text (length p.bounces))

-- ---- the command

-- the word's path there
pub record HasPath (argument : List ℕ) (triangle : Angles) (path : BouncePath) : Type 0 where
  pub word : List ℕ
  pub spells : Spells argument word
  pub is : AtTriangle triangle (λ x y. IsPath word x y path)

pub record ShowsPath (argument : List ℕ) (triangle : Angles) (text : List ℕ) : Type 0 where
  pub path : BouncePath
  pub has : HasPath argument triangle path
  pub text_is : text ≡ path_text path

-- the text is a picture of it
pub record DrawsPath (argument : List ℕ) (triangle : Angles) (text : List ℕ) : Type 0 where
  pub path : BouncePath
  pub has : HasPath argument triangle path
  pub picture : AtTriangle triangle (λ x y. IsPathPicture path.bounces x y text)

-- the word is stable, and has not so much room there that its path is found
pub record ShowsNoPath (argument : List ℕ) (triangle : Angles) (text : List ℕ) : Type 0 where
  pub word : List ℕ
  pub spells : Spells argument word
  pub stable : IsStable word
  pub not_clear : ¬ (AtTriangle triangle (λ x y. IsClearAtPoint word x y room_for_path))
  pub text_is : text ≡ not_shown_text

-- An argument is refused that spells no word, or none that is stable. Memory is wanting only for a stable word.
abbrev pub IsPathAnswer : List ℕ → Angles → Status → List ℕ → Type 0
IsPathAnswer argument triangle Done text = ShowsPath argument triangle text
IsPathAnswer argument triangle NotShown text = ShowsNoPath argument triangle text
IsPathAnswer argument triangle Malformed text = RefusesArgument word_form argument text
IsPathAnswer argument triangle OutOfMemory text = AtWantsMemory argument text
IsPathAnswer argument triangle status text = ⊥

-- the same with the picture
abbrev pub IsDrawnPathAnswer : List ℕ → Angles → Status → List ℕ → Type 0
IsDrawnPathAnswer argument triangle Done text = DrawsPath argument triangle text
IsDrawnPathAnswer argument triangle NotShown text = ShowsNoPath argument triangle text
IsDrawnPathAnswer argument triangle Malformed text = RefusesArgument word_form argument text
IsDrawnPathAnswer argument triangle OutOfMemory text = AtWantsMemory argument text
IsDrawnPathAnswer argument triangle status text = ⊥

-- done where the word has the room that is asked for, unless memory is wanting; what is no stable word is refused
pub record IsPathDue (argument : List ℕ) (triangle : Angles) (status : Status) : Type 0 where
  pub done : (w : List ℕ) → Spells argument w → AtTriangle triangle (λ x y. IsClearAtPoint w x y room_for_path) → (status ≡ Done) ⊎ (status ≡ OutOfMemory)
  pub refused : ¬ ((w : List ℕ) × Spells argument w × IsStable w) → status ≡ Malformed
