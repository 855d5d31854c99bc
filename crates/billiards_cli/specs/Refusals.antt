-- The texts of refusals. Each line ends with a newline.
use Rattle.std.specs.Prelude.{◌≡◌, ℕ, List, [], ◌∷◌, codes}
use Rattle.line_grammar.specs.Form.{LineForm}
use Rattle.std.specs.List.{concat}
use Rattle.std.specs.Fmt.{decimal}
use Rattle.line_grammar.specs.declared.reason.Reason.{Reason}
use Rattle.line_grammar.specs.Offence.{number_of}

abbrev pub newline : List ℕ
newline = 10 ∷ []

-- the line of the input that is refused, counted from 1, and the number of the reason
abbrev pub numbered_text : ℕ → ℕ → List ℕ
numbered_text line number = concat (codes "refused line=" ∷ decimal line ∷ codes " reason=" ∷ decimal number ∷ newline ∷ [])

abbrev pub refused_text : ℕ → Reason → List ℕ
refused_text line reason = numbered_text line (number_of reason)

-- an argument that is refused, and why
abbrev pub argument_text : Reason → List ℕ
argument_text reason = concat (codes "refused argument reason=" ∷ decimal (number_of reason) ∷ newline ∷ [])

-- the text names a line of the input that may be refused so
pub record RefusesLine (IsRefused : ℕ → Reason → Type 0) (text : List ℕ) : Type 0 where
  pub line : ℕ
  pub reason : Reason
  pub refused : IsRefused line reason
  pub named : text ≡ refused_text line reason

-- the text names the reason for which the argument is refused by its form
pub record RefusesArgument {V : Type 0} (form : LineForm V) (argument text : List ℕ) : Type 0 where
  pub reason : Reason
  pub refused : form.Refuses argument reason
  pub named : text ≡ argument_text reason
