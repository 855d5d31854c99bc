-- What stands on the command line.
use Rattle.std.specs.Prelude.{ℕ, ◌+◌, List, Some, None, decimal, nat_le, nat_lt, ◌&&◌, if◌then◌else◌, Bool}
use Rattle.std.specs.declared.option.Option.{Option}
use Rattle.std.specs.Str.{bytes_eq}
use Rattle.std.specs.Str.Parse.{digits_value}
use Rattle.edge_words.specs.Reading.{Spells, digits_of}
use Rattle.edge_words.specs.Word.{IsWord}
use Rattle.line_grammar.specs.Form.{LineForm}
use Rattle.line_grammar.specs.declared.reason.Reason.{Reason}
use Rattle.line_grammar.specs.declared.reason.Reason.TheVariants.{NotAWord}
use Rattle.rational_polygon.specs.declared.TheConstants.{MAX_GRID}

-- the number whose canonical decimal text this is, where it is at most the bound
abbrev pub number_up_to : ℕ → List ℕ → Option ℕ
number_up_to bound text = let n = digits_value 10 text in if nat_le n bound && bytes_eq text (decimal n) then Some n else None

-- the number, where it is at least so much
abbrev pub at_least : ℕ → Option ℕ → Option ℕ
at_least low None = None
at_least low (Some n) = if nat_le low n then Some n else None

-- the angles p / d and q / d, in half turns, at corners 1 and 2
pub record Angles : Type 0 where
  pub p : ℕ
  pub q : ℕ
  pub d : ℕ

-- both angles, and what is left of the half turn, are above 0
abbrev pub are_angles : Angles → Bool
are_angles a = nat_le 1 a.p && (nat_le 1 a.q && nat_lt (a.p + a.q) a.d)

-- the angles of a triangle, where the numbers give one
abbrev pub angles_of : Option ℕ → Option ℕ → Option ℕ → Option Angles
angles_of (Some p) (Some q) (Some d) = let a : Angles = record { p = p; q = q; d = d } in if are_angles a then Some a else None
angles_of None q d = None
angles_of (Some p) None d = None
angles_of (Some p) (Some q) None = None

-- the triangle that three texts write
abbrev pub triangle_of : List ℕ → List ℕ → List ℕ → Option Angles
triangle_of p q d = angles_of (number_up_to MAX_GRID p) (number_up_to MAX_GRID q) (number_up_to MAX_GRID d)

-- bytes that are no word
abbrev pub RefusesAnyWord : List ℕ → Reason → Type 0
RefusesAnyWord bytes NotAWord = ¬ ((w : List ℕ) × Spells bytes w)
RefusesAnyWord bytes reason = ⊥

-- a word, be it stable or not
abbrev pub any_word : LineForm (List ℕ)
any_word = record { line_of = digits_of; Says = IsWord; Refuses = RefusesAnyWord }
