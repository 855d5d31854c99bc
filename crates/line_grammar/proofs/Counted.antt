-- So many parts in turn: how many values are said, and what holds of each.
use Rattle.std.proofs.Common.{◌≡◌, inl, inr, ℕ, ◌≤◌, ◌<◌, Bool, true, false, nat_lt, List, [], ◌∷◌, ◌++◌, length, map, All}
use Rattle.std.proofs.Common.{refl, sym, ap, ◌∙◌, subst, arith, length-append, append_assoc, append-nil}
use Rattle.std.specs.List.{flat_map}
use Rattle.std.proofs.lemmas.Bool.{lt-ltb, le-ltb, cases_lt}
use Rattle.std.proofs.lemmas.List.Elements.{All-nil, All-cons}
use Rattle.std.proofs.Math.Seq.{get_or-append_seam}
use Rattle.line_grammar.specs.Part.{Part, AreSaid, lines_in_turn, repeated}

-- the lines of parts of one line each
pub lines_of_each : {V : Type 0} (part_after : List V → Part V) (line_of : V → List ℕ) → ((l : List V) (v : V) → (part_after l).lines_of v ≡ line_of v ∷ [])
    → (before values : List V) → lines_in_turn part_after before values ≡ map line_of values
lines_of_each part_after line_of is before [] = refl
lines_of_each part_after line_of is before (v ∷ values) =
    ap (λ (ls : List (List ℕ)). ls ++ lines_in_turn part_after (before ++ v ∷ []) values) (is before v)
    ∙ ap (λ (ls : List (List ℕ)). line_of v ∷ ls) (lines_of_each part_after line_of is (before ++ v ∷ []) values)

-- the lines of parts whose lines do not depend on what was said
pub lines_of_all : {V : Type 0} (part_after : List V → Part V) (lines_of : V → List (List ℕ)) → ((l : List V) (v : V) → (part_after l).lines_of v ≡ lines_of v)
    → (before values : List V) → lines_in_turn part_after before values ≡ flat_map lines_of values
lines_of_all part_after lines_of is before [] = refl
lines_of_all part_after lines_of is before (v ∷ values) =
    ap (λ (ls : List (List ℕ)). ls ++ lines_in_turn part_after (before ++ v ∷ []) values) (is before v)
    ∙ ap (λ (ls : List (List ℕ)). lines_of v ++ ls) (lines_of_all part_after lines_of is (before ++ v ∷ []) values)

-- what holds of each value that may be said
pub said_each : {V : Type 0} (is_due : List V → Bool) (part_after : List V → Part V) (P : V → Type 0) → ((l : List V) (v : V) → (part_after l).Says v → P v)
    → (before values : List V) → AreSaid is_due part_after before values → All P values
said_each is_due part_after P holds before [] said = All-nil P
said_each is_due part_after P holds before (v ∷ values) said =
    All-cons P v values (holds before v said.1) (said_each is_due part_after P holds (before ++ v ∷ []) values said.2)

-- ---- counted

pub due_below : (n count : ℕ) → nat_lt n count ≡ true → n < count
due_below n count due = elim (cases_lt n count) [
  | inl less ↦ less
  | inr above ↦ let no : nat_lt n count ≡ false = le-ltb n count above in let never : true ≡ false = sym due ∙ no in cc
]

pub over_above : (n count : ℕ) → nat_lt n count ≡ false → count ≤ n
over_above n count over = elim (cases_lt n count) [
  | inl less ↦ let yes : nat_lt n count ≡ true = lt-ltb n count less in let never : true ≡ false = sym yes ∙ over in cc
  | inr above ↦ above
]

pub said_count : {V : Type 0} (count : ℕ) (part_after : List V → Part V) (before values : List V)
    → AreSaid (λ l. nat_lt (length l) count) part_after before values → length before ≤ count → length (before ++ values) ≤ count
said_count count part_after before [] said within = omega (arith, within, ap length (append-nil before))
said_count count part_after before (v ∷ values) said within =
    let less = due_below (length before) count said.0 in
    let rest = said_count count part_after (before ++ v ∷ []) values said.2 (omega (arith, less, length-append before (v ∷ []))) in
    omega (arith, rest, ap length (append_assoc before (v ∷ []) values))

pub exact_count : {V : Type 0} (count : ℕ) (part_after : List V → Part V) (values : List V)
    → AreSaid (λ l. nat_lt (length l) count) part_after [] values → nat_lt (length values) count ≡ false → length values ≡ count
exact_count count part_after values said over =
    let above = over_above (length values) count over in
    let within = said_count count part_after [] values said (omega arith) in
    omega (arith, above, within)

-- so many values are said where each may be at its place
pub said_from : {V : Type 0} (count : ℕ) (part_after : List V → Part V) (before values : List V)
    → ((l : List V) (v : V) (more : List V) → before ++ values ≡ l ++ v ∷ more → (part_after l).Says v) → length (before ++ values) ≤ count
    → AreSaid (λ l. nat_lt (length l) count) part_after before values
said_from count part_after before [] holds within = tt
said_from count part_after before (v ∷ values) holds within =
    let joined = append_assoc before (v ∷ []) values in (
      lt-ltb (length before) count (omega (arith, within, length-append before (v ∷ values))),
      holds before v values refl,
      said_from count part_after (before ++ v ∷ []) values (λ l u more is. holds l u more (sym joined ∙ is)) (omega (arith, within, ap length joined)),
    )

-- what holds of each element holds of one between others
pub between : {A : Type 0} (P : A → Type 0) (all l : List A) (x : A) (more : List A) → all ≡ l ++ x ∷ more → All P all → P x
between P all l x more is holds =
    let moved = subst (All P) is holds in
    let here = moved (length l) x (omega (arith, length-append l (x ∷ more))) in
    subst P (get_or-append_seam l x more x) here

pub repeated_said : {V : Type 0} (count : ℕ) (part : Part V) (values : List V) → All part.Says values → length values ≡ count
    → (repeated count part).Says values
repeated_said count part values all counted = (
  said_from count (λ _. part) [] values (λ l v more is. between part.Says values l v more is all) (omega (arith, counted)),
  le-ltb (length values) count (omega (arith, counted)),
)

pub said_repeated : {V : Type 0} (count : ℕ) (part : Part V) (values : List V) → (repeated count part).Says values
    → All part.Says values × (length values ≡ count)
said_repeated count part values says =
    (said_each (λ l. nat_lt (length l) count) (λ _. part) part.Says (λ l v is. is) [] values says.0, exact_count count (λ _. part) values says.0 says.1)
