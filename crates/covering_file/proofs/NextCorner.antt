-- The next corner of a polygon, by the form of a corner.
use Rattle.std.proofs.Common.{◌≡◌, ℕ, ◌+◌, List, [], ◌∷◌, ◌++◌, All, length, Option, sym, subst}
use Rattle.mcb_ends.specs.Reader.{Reader}
use Rattle.rational_polygon.specs.Outline.{IsGrid, IsCount, IsInside, IsStrictlyConvex, IsPolygon}
use Rattle.line_grammar.specs.declared.reason.Reason.{Reason}
use Rattle.line_grammar.specs.declared.reason.Reason.TheVariants.{NotConvex}
use Rattle.line_grammar.specs.Faults.{Refusal}
use Rattle.line_grammar.specs.Part.{line_part}
use Rattle.line_grammar.specs.Reading.{StopsAfter, RefusesFirst, FailsPart, TakesPart}
use Rattle.line_grammar.proofs.Refused.{HasLeast, form_least, line_fails, taken_refused}
use Rattle.covering_file.specs.CornerForms.{corner_form, CompletesNone, RefusesNextCorner, next_corner_form}
use Rattle.covering_file.specs.Header.{corner_line}
use Rattle.covering_file.proofs.CornerForms.{refuses_next, next_corner_is_form}
use Rattle.covering_file.proofs.Pushed.{all_more, length_more}

next_least : (grid count : ℕ) (corners : List (ℕ × ℕ)) (line : List ℕ) (r : Reason) → RefusesNextCorner grid count corners line r
    → HasLeast (RefusesNextCorner grid count corners) (λ l s. ¬ (RefusesNextCorner grid count corners l s)) line r
next_least grid count corners line r refuses = form_least (next_corner_form grid count corners) line r (next_corner_is_form grid count corners) refuses

pub next_fails : (grid count : ℕ) (corners : List (ℕ × ℕ)) (old new : Reader) (a b : Option (List ℕ)) (refusal : Option Refusal)
    → FailsPart (line_part (corner_form grid)).grammar old new a b refusal
    → FailsPart (line_part (next_corner_form grid count corners)).grammar old new a b refusal
next_fails grid count corners old new a b refusal fails =
    line_fails (corner_form grid) (RefusesNextCorner grid count corners) (λ l s. ¬ (RefusesNextCorner grid count corners l s)) old new a b refusal
    (λ line r refuses. next_least grid count corners line r (refuses_next grid count corners line r refuses)) fails

pub next_taken : (grid count : ℕ) (corners : List (ℕ × ℕ)) (c : ℕ × ℕ) (old new : Reader) (a b : Option (List ℕ)) → ¬ (CompletesNone grid count corners c)
    → TakesPart (line_part (corner_form grid)) old new a b c → TakesPart (line_part (next_corner_form grid count corners)) old new a b c
next_taken grid count corners c old new a b convex takes = record {
  says = (takes.says.0, takes.says.1, convex);
  taken = takes.taken;
  ahead = takes.ahead;
}

-- the last corner makes no polygon
pub last_refused : (grid count : ℕ) (corners : List (ℕ × ℕ)) (c : ℕ × ℕ) (old new : Reader) (a b : Option (List ℕ)) (number : ℕ) → number ≡ old.number + 1
    → CompletesNone grid count corners c → TakesPart (line_part (corner_form grid)) old new a b c → StopsAfter [] old new a b
    → RefusesFirst (line_part (next_corner_form grid count corners)).grammar old new a b (record { line = number; reason = NotConvex })
last_refused grid count corners c old new a b number here none takes stops =
    taken_refused (RefusesNextCorner grid count corners) (λ l s. ¬ (RefusesNextCorner grid count corners l s)) old new a b (corner_line c) number NotConvex here
    (next_least grid count corners (corner_line c) NotConvex (c, takes.says.0, takes.says.1, none)) takes.taken stops

pub not_convex : (grid : ℕ) (old new : List (ℕ × ℕ)) (c : ℕ × ℕ) → new ≡ old ++ c ∷ [] → IsGrid grid → IsCount (length old + 1) → All (IsInside grid) old
    → IsInside grid c → ¬ IsPolygon (record { grid = grid; corners = new }) → ¬ IsStrictlyConvex (record { grid = grid; corners = old ++ c ∷ [] })
not_convex grid old new c is on_grid count inside here other convex = other (record {
  grid = on_grid;
  count = subst IsCount (sym (length_more old new c is)) count;
  inside = all_more (IsInside grid) old new c is inside here;
  convex = subst (λ (cs : List (ℕ × ℕ)). IsStrictlyConvex (record { grid = grid; corners = cs })) (sym is) convex;
})
