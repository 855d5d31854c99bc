-- Lines with a name and a number, as they are read.
use Rattle.std.proofs.Common.{◌≡◌, ◌≢◌, ◌↔◌, ℕ, Bool, true, false, not, ◌≤◌, List, Option, Some, decimal, refl, sym, ap, ◌∙◌}
use Rattle.std.proofs.lemmas.Slice.Eq.{bytes_eq-Decides}
use Rattle.std.specs.Str.{bytes_eq}
use Rattle.line_grammar.specs.Form.{IsNamed, IsNumbered}
use Rattle.line_grammar.specs.Text.{IsTwoFields, named_line}
use Rattle.line_grammar.proofs.Lines.{decimal-no_space}
use Rattle.line_grammar.proofs.TwoFields.{fields_are_one}

-- a name and a number are two fields
named_fields : (line name field : List ℕ) (n : ℕ) → IsTwoFields line name field → line ≡ named_line name n → field ≡ decimal n
named_fields line name field n fields is =
    (fields_are_one line name field name (decimal n) fields
    (record { is = is; first_field = fields.first_field; second_field = decimal-no_space n })).1

-- two names that were compared
pub same_name : (name other : List ℕ) (differ : Bool) → differ ≡ not (bytes_eq other name) → differ ≡ false → other ≡ name
same_name name other differ is alike = (bytes_eq-Decides other name).0 (not_false (bytes_eq other name) (sym is ∙ alike))
  where
    not_false : (b : Bool) → not b ≡ false → b ≡ true
    not_false true e = refl
    not_false false e = absurd (cc)

pub differs : (name other : List ℕ) (differ : Bool) → differ ≡ not (bytes_eq other name) → differ ≡ true → other ≢ name
differs name other differ is apart same =
    let equal : bytes_eq other name ≡ true = (bytes_eq-Decides other name).1 same in
    let never : not true ≡ true = sym (ap not equal) ∙ sym is ∙ apart in
    cc

-- a line with another name
pub other_name : (line name other field : List ℕ) → IsTwoFields line other field → other ≢ name → ¬ IsNamed name line
other_name line name other field fields differ named =
    differ (fields_are_one line other field name named.0 fields named.1).0

-- a line whose number is not read
pub number_not_read : (line name field : List ℕ) (r : Option ℕ) (low high : ℕ) → IsTwoFields line name field
    → ((n : ℕ) → (r ≡ Some n) ↔ ((field ≡ decimal n) × (n ≤ high))) → ((n : ℕ) → r ≡ Some n → low ≤ n → ⊥)
    → ¬ IsNumbered name low high line
number_not_read line name field r low high fields reads unread (n, at_least, at_most, is) =
    unread n ((reads n).1 (named_fields line name field n fields is, at_most)) at_least
