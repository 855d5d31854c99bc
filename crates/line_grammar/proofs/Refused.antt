-- A line that is read by one form, and judged by other reasons.
use Rattle.std.proofs.Common.{◌≡◌, ℕ, ◌+◌, ◌<◌, List, [], ◌∷◌, ◌++◌, Option, Some, None, refl, ap, ◌∙◌, arith}
use Rattle.std.specs.Io.KnownBytes.{Consumes}
use Rattle.mcb_ends.specs.Lines.{IsShortLine, newline}
use Rattle.mcb_ends.specs.Reader.{Reader, bytes_before}
use Rattle.line_grammar.specs.declared.reason.Reason.{Reason}
use Rattle.line_grammar.specs.declared.reason.Reason.TheVariants.{TooLong, Ends}
use Rattle.line_grammar.specs.Faults.{Refusal}
use Rattle.line_grammar.specs.Form.{LineForm, IsForm}
use Rattle.line_grammar.specs.Input.{MayBe}
use Rattle.line_grammar.specs.Offence.{number_of, HaveReason, LackReason, IsLeast}
use Rattle.line_grammar.specs.Part.{one_line, line_part}
use Rattle.line_grammar.specs.Reading.{TakesLines, StopsAfter, RefusesFirst, FailsPart}
use Rattle.line_grammar.specs.Text.{text_of, BeginsWith}
use Rattle.line_grammar.proofs.FrontLines.{text_of_one}
use Rattle.line_grammar.proofs.Offending.{least_at, long_least, early_least}
use Rattle.line_grammar.proofs.Steps.{refuses_here}

-- a line has a reason that a whole line may have, and lacks each lesser one
pub record HasLeast (has lacks : List ℕ → Reason → Type 0) (line : List ℕ) (r : Reason) : Type 0 where
  pub whole : 2 < number_of r
  pub holds : has line r
  pub none_less : (s : Reason) → 2 < number_of s → number_of s < number_of r → lacks line s

-- what a form refuses
pub form_least : {V : Type 0} (form : LineForm V) (line : List ℕ) (r : Reason) → IsForm form → form.Refuses line r
    → HasLeast form.Refuses (λ l s. ¬ (form.Refuses l s)) line r
form_least form line r is refuses = record {
  whole = is.whole line r refuses;
  holds = refuses;
  none_less = λ s late less refuses'. let same = is.one_reason line s r refuses' refuses in omega (arith, less, ap number_of same);
}

-- ---- a line that is not read

least_moves : {V : Type 0} (form : LineForm V) (has lacks : List ℕ → Reason → Type 0) (bytes : List ℕ) (r : Reason)
    → ((line : List ℕ) (s : Reason) → form.Refuses line s → HasLeast has lacks line s)
    → IsLeast (HaveReason form.Refuses bytes) (LackReason (λ l s. ¬ (form.Refuses l s)) bytes) r → IsLeast (HaveReason has bytes) (LackReason lacks bytes) r
least_moves form has lacks bytes TooLong to least = long_least has lacks bytes least.holds
least_moves form has lacks bytes Ends to least = early_least has lacks bytes (least.none_less TooLong (omega arith)) least.holds
least_moves form has lacks bytes r to least =
    let here = to least.holds.0 r least.holds.2 in
    least_at has lacks bytes least.holds.0 r least.holds.1 here.whole here.holds here.none_less

-- where a form refuses a line for the least reason that it has
pub line_fails : {V : Type 0} (form : LineForm V) (has lacks : List ℕ → Reason → Type 0) (old new : Reader) (a b : Option (List ℕ)) (refusal : Option Refusal)
    → ((line : List ℕ) (r : Reason) → form.Refuses line r → HasLeast has lacks line r) → FailsPart (line_part form).grammar old new a b refusal
    → FailsPart (one_line has lacks) old new a b refusal
line_fails form has lacks old new a b (Some refusal) to fails = record {
  bytes = fails.bytes;
  input = fails.input;
  line = fails.line;
  first = record {
    due = tt;
    rest = fails.first.rest;
    reached = tt;
    text = fails.first.text;
    number = fails.first.number;
    least = least_moves form has lacks fails.first.rest refusal.reason to fails.first.least;
  };
  number = fails.number;
  stops = fails.stops;
}
line_fails form has lacks old new a b None to fails = record { due = tt; reached = tt; stops = fails.stops }

-- ---- a line that is read, and refused then

begins_taken : (before after : Option (List ℕ)) (line : List ℕ) → IsShortLine line → Consumes before after (text_of (line ∷ []))
    → (bytes : List ℕ) × MayBe before bytes × BeginsWith bytes line
begins_taken None after line form taken = (line ++ newline ∷ [], tt, ([], (form, refl)))
begins_taken (Some xs) None line form taken = absurd taken
begins_taken (Some xs) (Some ys) line form taken = (xs, refl, (ys, (form, taken ∙ text_of_one line ys)))

pub taken_refused : (has lacks : List ℕ → Reason → Type 0) (old new : Reader) (a b : Option (List ℕ)) (line : List ℕ) (number : ℕ) (r : Reason)
    → number ≡ old.number + 1 → HasLeast has lacks line r → TakesLines (line ∷ []) old new a b → StopsAfter [] old new a b
    → RefusesFirst (one_line has lacks) old new a b (record { line = number; reason = r })
taken_refused has lacks old new a b line number r here least taken stops =
    let begins = begins_taken (bytes_before old a) (bytes_before new b) line (taken.each 0 [] (omega arith)) taken.bytes in
    refuses_here has lacks old new a b begins.0 number r here begins.1
    (least_at has lacks begins.0 line r begins.2 least.whole least.holds least.none_less) stops
