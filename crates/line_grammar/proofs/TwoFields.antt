-- A line with one space has two fields.
use Rattle.std.proofs.Common.{◌≡◌, ◌≢◌, ℕ, suc, ◌+◌, ◌-◌, ◌<◌, List, [], ◌∷◌, ◌++◌, length, take, drop, get_or, Some, None, ◌==◌, refl, sym, ap, ◌∙◌}
use Rattle.std.proofs.Common.{subst, arith, take-append-drop, drop-cons, length-take, length-drop, add-one}
use Rattle.std.proofs.lemmas.Bool.{eqb-true}
use Rattle.std.proofs.lemmas.List.{get_or-take, take_all}
use Rattle.std.proofs.lemmas.List.Elements.{All-tail}
use Rattle.std.proofs.lemmas.List.Quantifiers.{position-Some}
use Rattle.std.specs.List.{position}
use Rattle.mcb_ends.proofs.Sought.{no_place}
use Rattle.line_grammar.proofs.Lines.{parted}
use Rattle.line_grammar.specs.Text.{space, HasNoSpace, IsTwoFields, two_fields}

-- a space that is found stands after bytes that have none
record Parts (bytes : List ℕ) (len : ℕ) : Type 0 where
  first : HasNoSpace (take len bytes)
  split : bytes ≡ two_fields (take len bytes) (drop (len + 1) bytes)

parts : (bytes : List ℕ) (len : ℕ) → position (λ byte. byte == space) bytes ≡ Some len → Parts bytes len
parts bytes len is =
    let found = λ (d : ℕ). position-Some (λ (byte : ℕ). byte == space) bytes len d is in
    let within : len < length bytes = (found 0).0 in
    let here : get_or bytes len 0 ≡ space = eqb-true (get_or bytes len 0) space (found 0).1 in
    let after : drop len bytes ≡ space ∷ drop (len + 1) bytes = rw (add-one, drop-cons bytes len 0 within) (ap (λ byte. byte ∷ drop (suc len) bytes) here) in
    record {
      first = λ k d less at.
          let before : k < len = omega (arith, less, length-take len bytes) in
          let same : get_or bytes k d ≡ space = sym (get_or-take len bytes k d before) ∙ at in
          let no = rw same at ((found d).2 k before) in
          cc;
      split = sym (take-append-drop len bytes) ∙ ap (λ (rest : List ℕ). take len bytes ++ rest) after;
    }

-- a line has its two fields in one way
pub fields_are_one : (line first second first' second' : List ℕ) → IsTwoFields line first second → IsTwoFields line first' second' → (first ≡ first')
    × (second ≡ second')
fields_are_one line first second first' second' p q = parted space first first' second second' p.first_field q.first_field (sym p.is ∙ q.is)

-- without a space there is one field
pub one_field : (line : List ℕ) → position (λ byte. byte == space) line ≡ None → (first second : List ℕ) → ¬ IsTwoFields line first second
one_field line is first second fields =
    let cut : line ≡ two_fields first second = fields.is in
    no_space_in first second (subst HasNoSpace cut (no_place space line is))
  where
    no_space_in : (first second : List ℕ) → HasNoSpace (two_fields first second) → ⊥
    no_space_in [] second none = none 0 0 (omega arith) refl
    no_space_in (x ∷ first) second none = no_space_in first second (All-tail (λ byte. byte ≢ space) x (two_fields first second) none)

-- the bytes from a place on, as a slice has them
rest_is : (n : ℕ) (line : List ℕ) → take (length line - n) (drop n line) ≡ drop n line
rest_is n line = take_all (length line - n) (drop n line) (omega (arith, length-drop n line))

pub two_found : (line : List ℕ) (at : ℕ) → position (λ byte. byte == space) line ≡ Some at
    → position (λ byte. byte == space) (take (length line - (at + 1)) (drop (at + 1) line)) ≡ None
    → IsTwoFields line (take at line) (take (length line - (at + 1)) (drop (at + 1) line))
two_found line at is none =
    let p = parts line at is in
    rw rest_is (record { is = p.split; first_field = p.first; second_field = no_place space (drop (at + 1) line) (rw rest_is at none) })

-- with a second space there are more
pub more_fields : (line : List ℕ) (at more : ℕ) → position (λ byte. byte == space) line ≡ Some at
    → position (λ byte. byte == space) (take (length line - (at + 1)) (drop (at + 1) line)) ≡ Some more → (first second : List ℕ)
    → ¬ IsTwoFields line first second
more_fields line at more is again first second fields =
    let p = parts line at is in
    let same = parted space (take at line) first (drop (at + 1) line) second p.first fields.first_field (sym p.split ∙ fields.is) in
    let found = position-Some (λ (byte : ℕ). byte == space) (drop (at + 1) line) more 0 (rw rest_is at again) in
    let here : get_or (drop (at + 1) line) more 0 ≡ space = eqb-true (get_or (drop (at + 1) line) more 0) space found.1 in
    let none : HasNoSpace (drop (at + 1) line) = subst HasNoSpace (sym same.1) fields.second_field in
    none more 0 found.0 here
