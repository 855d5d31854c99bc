-- What a due line may say, and for which reason any other line is refused.
use Rattle.std.specs.Prelude.{◌≡◌, ◌≢◌, ℕ, ◌<◌, ◌≤◌, List, length, ⊤, Ok, Err}
use Rattle.std.specs.declared.result.Result.{Result}
use Rattle.mcb_ends.specs.Lines.{HasNoNewline, IsShortLine}
use Rattle.line_grammar.specs.Offence.{number_of}
use Rattle.line_grammar.specs.Text.{HasNoSpace, IsTwoFields, named_line}
use Rattle.line_grammar.specs.declared.reason.Reason.{Reason}
use Rattle.line_grammar.specs.declared.reason.Reason.TheVariants.{OtherLine, Number}

-- the line of each value, the values that may be said, and which lines are refused for which reason
pub record LineForm (V : Type 0) : Type 1 where
  pub line_of : V → List ℕ
  pub Says : V → Type 0
  pub Refuses : List ℕ → Reason → Type 0

-- a line is read: it is that of a value that may be said, or it is refused
abbrev pub ReadsAs : {V : Type 0} → LineForm V → List ℕ → Result V Reason → Type 0
ReadsAs form line (Ok value) = form.Says value × (line ≡ form.line_of value)
ReadsAs form line (Err reason) = form.Refuses line reason

-- A form reads each line in one way: its lines are short and each says one value, none of them is refused, and another line
-- is refused for one reason, which is none of the two that no whole line has.
pub record IsForm {V : Type 0} (form : LineForm V) : Type 0 where
  pub short : (v : V) → form.Says v → IsShortLine (form.line_of v)
  pub one_value : (v w : V) → form.Says v → form.Says w → form.line_of v ≡ form.line_of w → v ≡ w
  pub passes : (v : V) (r : Reason) → form.Says v → ¬ (form.Refuses (form.line_of v) r)
  pub one_reason : (line : List ℕ) (r s : Reason) → form.Refuses line r → form.Refuses line s → r ≡ s
  pub whole : (line : List ℕ) (r : Reason) → form.Refuses line r → 2 < number_of r

-- ---- the general forms

-- this very line, and any other has the reason
abbrev pub whole_line : List ℕ → Reason → LineForm (Unit {0})
whole_line text refusal = record {
  line_of = λ _. text;
  Says = λ _. ⊤;
  Refuses = λ line reason. (line ≢ text) × (reason ≡ refusal);
}

-- the line has two fields, of which the name is the first
abbrev pub IsNamed : List ℕ → List ℕ → Type 0
IsNamed name line = (field : List ℕ) × IsTwoFields line name field

-- the name and a number from `low` to `high`
abbrev pub IsNumbered : List ℕ → ℕ → ℕ → List ℕ → Type 0
IsNumbered name low high line = (n : ℕ) × (low ≤ n) × (n ≤ high) × (line ≡ named_line name n)

-- why a line is not the name and a number from `low` to `high`
abbrev pub RefusesNumber : List ℕ → ℕ → ℕ → List ℕ → Reason → Type 0
RefusesNumber name low high line OtherLine = ¬ (IsNamed name line)
RefusesNumber name low high line Number = IsNamed name line × ¬ (IsNumbered name low high line)
RefusesNumber name low high line reason = ⊥

-- what may stand before the number: a field of at most 40 bytes
pub record IsName (name : List ℕ) : Type 0 where
  pub one_line : HasNoNewline name
  pub one_field : HasNoSpace name
  pub short : length name ≤ 40

abbrev pub numbered_line : List ℕ → ℕ → ℕ → LineForm ℕ
numbered_line name low high = record {
  line_of = named_line name;
  Says = λ n. (low ≤ n) × (n ≤ high);
  Refuses = RefusesNumber name low high;
}
