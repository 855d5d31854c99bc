-- The command `word`: the shift of a word that is read from the input.
use Rattle.std.specs.Prelude.{◌≡◌, ◌⊎◌, ℕ, List, [], ◌∷◌, ◌++◌, length, codes, Some, None}
use Rattle.std.specs.declared.option.Option.{Option}
use Rattle.std.specs.declared.result.Result.{Result}
use Rattle.std.specs.List.{concat, flat_map}
use Rattle.std.specs.Fmt.{signed_decimal}
use Rattle.mcb_ends.specs.Bytes.{Writes}
use Rattle.edge_words.specs.Stable.{IsStable}
use Rattle.exp_sums.specs.declared.terms.Term.{Term}
use Rattle.exp_sums.specs.FormalPoint.{FormalPoint, terms}
use Rattle.unfolding.specs.Shift.{IsShift, HasShift}
use Rattle.line_grammar.specs.Offence.{IsFirstOffence}
use Rattle.line_grammar.specs.Part.{Part, line_part, whole_text}
use Rattle.line_grammar.specs.Text.{text_of}
use Rattle.line_grammar.specs.declared.reason.Reason.{Reason}
use Rattle.billiards_cli.specs.Arguments.{any_word}
use Rattle.billiards_cli.specs.EndLine.{end_text}
use Rattle.billiards_cli.specs.Refusals.{newline, RefusesLine}
use Rattle.billiards_cli.specs.Command.{Extent, ToTheEnd, ToALine}
use Rattle.billiards_cli.specs.declared.request.Request.{Request}
use Rattle.billiards_cli.specs.declared.request.Request.TheVariants as request
use Rattle.billiards_cli.specs.declared.status.Status.{Status}
use Rattle.billiards_cli.specs.declared.status.Status.TheVariants.{Done, Malformed, OutOfMemory}

-- it takes no arguments
abbrev pub word_request : List (List ℕ) → Option Request
word_request [] = Some request.Word
word_request (argument ∷ more) = None

-- ---- the input

-- one line that is a word, and nothing after it
abbrev pub word_input : Part (List ℕ)
word_input = whole_text (line_part any_word)

pub record IsWordLine (input w : List ℕ) : Type 0 where
  pub says : word_input.Says w
  pub text : input ≡ text_of (word_input.lines_of w)

-- the input offends first at this line, counted from 1, and this is the least of its reasons there
abbrev pub IsRefusedWord : List ℕ → ℕ → Reason → Type 0
IsRefusedWord input line reason = IsFirstOffence word_input.grammar input line reason

-- ---- the text

-- one term of a formal point, as `M N C` for C times the direction (M, N)
abbrev pub term_line : Term → List ℕ
term_line t = concat (signed_decimal t.dir.m ∷ codes " " ∷ signed_decimal t.dir.n ∷ codes " " ∷ signed_decimal t.c ∷ newline ∷ [])

abbrev pub terms_text : List Term → List ℕ
terms_text ts = flat_map term_line ts

-- the shift of a word: its terms, in the order of their directions, and their number
abbrev pub shift_text : FormalPoint → List ℕ
shift_text v = codes "stable\n" ++ (terms_text (terms v) ++ end_text (length (terms v)))

-- a word with no shift
abbrev pub unstable_text : List ℕ
unstable_text = codes "unstable\n"

-- the text of a word: its shift by repeated reflection, or that it has none
abbrev pub IsWordText : List ℕ → List ℕ → Type 0
IsWordText w text = ((v : FormalPoint) × IsShift w v × (text ≡ shift_text v)) ⊎ (¬ (HasShift w) × (text ≡ unstable_text))

-- ---- the command

pub record AnswersWord (input text : List ℕ) : Type 0 where
  pub word : List ℕ
  pub line : IsWordLine input word
  pub text_is : IsWordText word text

pub record WordWantsMemory (input text : List ℕ) : Type 0 where
  pub word : List ℕ
  pub line : IsWordLine input word
  pub stable : IsStable word
  pub text_is : text ≡ []

-- Done with the text of the word. The first line that offends is refused. Memory is wanting only for a stable word.
abbrev pub IsWordAnswer : List ℕ → Status → List ℕ → Type 0
IsWordAnswer input Done text = AnswersWord input text
IsWordAnswer input Malformed text = RefusesLine (IsRefusedWord input) text
IsWordAnswer input OutOfMemory text = WordWantsMemory input text
IsWordAnswer input status text = ⊥

-- done on a whole line that is a word, unless memory is wanting, and refused on every other input
pub record IsWordDue (input : List ℕ) (status : Status) : Type 0 where
  pub done : (w : List ℕ) → IsWordLine input w → (status ≡ Done) ⊎ (status ≡ OutOfMemory)
  pub refused : ¬ ((w : List ℕ) × IsWordLine input w) → status ≡ Malformed

-- it answers a word at the end of the input, and wants memory there
abbrev pub word_reads_to : Status → Extent
word_reads_to Done = ToTheEnd
word_reads_to OutOfMemory = ToTheEnd
word_reads_to status = ToALine

-- ---- its steps

-- the text of the word's shift is written, or a prefix of it
pub record WritesShift {T E : Type 0} (w : List ℕ) (old new : Option (List ℕ)) (result : Result T E) : Type 0 where
  pub shift : FormalPoint
  pub is_shift : IsShift w shift
  pub written : Writes old new result (shift_text shift)
