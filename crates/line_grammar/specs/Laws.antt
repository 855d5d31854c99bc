-- What is asked of parts: that they say one thing, that whole ones are not refused, and that a first offence is one.
use Rattle.std.specs.Prelude.{◌≡◌, ℕ, List, ◌++◌}
use Rattle.line_grammar.specs.Offence.{Grammar, IsFirstOffence}
use Rattle.line_grammar.specs.Part.{Part}
use Rattle.line_grammar.specs.Text.{text_of}
use Rattle.line_grammar.specs.declared.reason.Reason.{Reason}

-- bytes that begin with the lines of two values begin with those of one
abbrev pub ValueIsOne : {V : Type 0} → Part V → Type 0
ValueIsOne {V} part = (v w : V) (x y : List ℕ) → part.Says v → part.Says w
    → text_of (part.lines_of v) ++ x ≡ text_of (part.lines_of w) ++ y → (v ≡ w) × (x ≡ y)

-- no line of such a value offends, where these bytes follow
abbrev pub NeverOffends : {V : Type 0} → Part V → (V → Type 0) → List ℕ → Type 0
NeverOffends {V} part Sure rest = (v : V) (line : ℕ) (reason : Reason) → part.Says v → Sure v
    → ¬ (IsFirstOffence part.grammar (text_of (part.lines_of v) ++ rest) line reason)

-- bytes offend first at one line, and there by one least reason
abbrev pub OffenceIsOne : Grammar → Type 0
OffenceIsOne g = (bytes : List ℕ) (line other : ℕ) (reason reason' : Reason) → IsFirstOffence g bytes line reason
    → IsFirstOffence g bytes other reason' → (line ≡ other) × (reason ≡ reason')
