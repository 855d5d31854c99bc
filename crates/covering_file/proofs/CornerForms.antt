-- The forms of first lines, of corners and of words read each line in one way.
use Rattle.std.proofs.Common.{◌≡◌, ◌↔◌, ℕ, ◌≤◌, ◌<◌, List, Option, Some, None, decimal, refl, sym, ap, ◌∙◌, subst, arith}
use Rattle.edge_words.specs.Reading.{Spells, digits_of}
use Rattle.edge_words.specs.Stable.{IsStable}
use Rattle.edge_words.proofs.Digits.{digits_of-injective}
use Rattle.rational_polygon.specs.declared.TheConstants.{MAX_GRID}
use Rattle.rational_polygon.specs.Outline.{IsInside}
use Rattle.line_grammar.specs.declared.reason.Reason.{Reason}
use Rattle.line_grammar.specs.declared.reason.Reason.TheVariants.{OtherLine, Number, CornerOutside, NotConvex, NotAWord, UnstableWord}
use Rattle.line_grammar.specs.Form.{IsForm}
use Rattle.line_grammar.specs.Offence.{number_of}
use Rattle.line_grammar.specs.Text.{IsTwoFields, two_fields}
use Rattle.line_grammar.proofs.Lines.{decimal-no_space}
use Rattle.line_grammar.proofs.TwoFields.{fields_are_one}
use Rattle.covering_file.specs.declared.file_kind.FileKind.{FileKind}
use Rattle.covering_file.specs.Header.{IsVersion, IsStableWord, first_line, corner_line}
use Rattle.covering_file.specs.CornerForms.{RefusesFirst, first_form}
use Rattle.covering_file.specs.CornerForms.{IsCornerLine, RefusesCorner, corner_form, CompletesNone, RefusesNextCorner, next_corner_form}
use Rattle.covering_file.specs.CornerForms.{RefusesWord, word_form}
use Rattle.covering_file.proofs.HeadLines.{first_line-short, one_version, corner_line-short, one_corner, digits_of-short}

-- ---- the first line

first_passes : (kind : FileKind) (version : ℕ) (r : Reason) → IsVersion version → ¬ (RefusesFirst kind (first_line kind version) r)
first_passes kind version OtherLine is refuses = refuses (version, is, refl)
first_passes kind version r is refuses = refuses

first_reason : (kind : FileKind) (line : List ℕ) (r s : Reason) → RefusesFirst kind line r → RefusesFirst kind line s → r ≡ s
first_reason kind line OtherLine OtherLine p q = refl
first_reason kind line OtherLine s p q = absurd q
first_reason kind line r s p q = absurd p

first_whole : (kind : FileKind) (line : List ℕ) (r : Reason) → RefusesFirst kind line r → 2 < number_of r
first_whole kind line OtherLine p = omega arith
first_whole kind line r p = absurd p

pub first_is_form : (kind : FileKind) → IsForm (first_form kind)
first_is_form kind = record {
  short = first_line-short kind;
  one_value = λ v w p q is. one_version kind v w p is;
  passes = first_passes kind;
  one_reason = first_reason kind;
  whole = first_whole kind;
}

-- ---- the two numbers of a corner

pub corner_read : (line first second : List ℕ) (x y : ℕ) → IsTwoFields line first second → (first ≡ decimal x) × (x ≤ MAX_GRID)
    → (second ≡ decimal y) × (y ≤ MAX_GRID) → IsCornerLine line (x, y)
corner_read line first second x y fields a b = record {
  x = a.1;
  y = b.1;
  is = fields.is ∙ ap (λ (field : List ℕ). two_fields field second) a.0 ∙ ap (two_fields (decimal x)) b.0;
}

pub corner_fields : (line : List ℕ) (c : ℕ × ℕ) → IsCornerLine line c → IsTwoFields line (decimal c.0) (decimal c.1)
corner_fields line c is = record {
  is = is.is;
  first_field = decimal-no_space c.0;
  second_field = decimal-no_space c.1;
}

-- a line is that of one corner
pub corner_is_one : (line : List ℕ) (a b : ℕ × ℕ) → IsCornerLine line a → IsCornerLine line b → a ≡ b
corner_is_one line a b p q = one_corner a b p.x p.y (sym p.is ∙ q.is)

-- a line whose numbers are not both read
pub first_not_read : (line first second : List ℕ) (r : Option ℕ) → IsTwoFields line first second
    → ((n : ℕ) → (r ≡ Some n) ↔ ((first ≡ decimal n) × (n ≤ MAX_GRID))) → r ≡ None → ¬ ((c : ℕ × ℕ) × IsCornerLine line c)
first_not_read line first second r fields reads unread (c, is) =
    let same = fields_are_one line first second (decimal c.0) (decimal c.1) fields (corner_fields line c is) in
    let read : r ≡ Some c.0 = (reads c.0).1 (same.0, is.x) in
    cc

pub second_not_read : (line first second : List ℕ) (r : Option ℕ) → IsTwoFields line first second
    → ((n : ℕ) → (r ≡ Some n) ↔ ((second ≡ decimal n) × (n ≤ MAX_GRID))) → r ≡ None → ¬ ((c : ℕ × ℕ) × IsCornerLine line c)
second_not_read line first second r fields reads unread (c, is) =
    let same = fields_are_one line first second (decimal c.0) (decimal c.1) fields (corner_fields line c is) in
    let read : r ≡ Some c.1 = (reads c.1).1 (same.1, is.y) in
    cc

-- ---- a corner

corner_passes : (grid : ℕ) (c : ℕ × ℕ) (r : Reason) → IsCornerLine (corner_line c) c → IsInside grid c → ¬ (RefusesCorner grid (corner_line c) r)
corner_passes grid c OtherLine is inside refuses = refuses (decimal c.0, decimal c.1, corner_fields (corner_line c) c is)
corner_passes grid c Number is inside refuses = refuses.1 (c, is)
corner_passes grid c CornerOutside is inside refuses =
    refuses.2 (subst (IsInside grid) (corner_is_one (corner_line c) c refuses.0 is refuses.1) inside)
corner_passes grid c r is inside refuses = refuses

corner_reason : (grid : ℕ) (line : List ℕ) (r s : Reason) → RefusesCorner grid line r → RefusesCorner grid line s → r ≡ s
corner_reason grid line OtherLine OtherLine p q = refl
corner_reason grid line OtherLine Number p q = absurd (p q.0)
corner_reason grid line OtherLine CornerOutside p q = absurd (p (decimal q.0.0, decimal q.0.1, corner_fields line q.0 q.1))
corner_reason grid line Number OtherLine p q = absurd (q p.0)
corner_reason grid line Number Number p q = refl
corner_reason grid line Number CornerOutside p q = absurd (p.1 (q.0, q.1))
corner_reason grid line CornerOutside OtherLine p q = absurd (q (decimal p.0.0, decimal p.0.1, corner_fields line p.0 p.1))
corner_reason grid line CornerOutside Number p q = absurd (q.1 (p.0, p.1))
corner_reason grid line CornerOutside CornerOutside p q = refl
corner_reason grid line OtherLine s p q = absurd q
corner_reason grid line Number s p q = absurd q
corner_reason grid line CornerOutside s p q = absurd q
corner_reason grid line r s p q = absurd p

corner_whole : (grid : ℕ) (line : List ℕ) (r : Reason) → RefusesCorner grid line r → 2 < number_of r
corner_whole grid line OtherLine p = omega arith
corner_whole grid line Number p = omega arith
corner_whole grid line CornerOutside p = omega arith
corner_whole grid line r p = absurd p

pub corner_is_form : (grid : ℕ) → IsForm (corner_form grid)
corner_is_form grid = record {
  short = λ c says. corner_line-short c says.0.x says.0.y;
  one_value = λ c d p q is. one_corner c d p.0.x p.0.y is;
  passes = λ c r says. corner_passes grid c r says.0 says.1;
  one_reason = corner_reason grid;
  whole = corner_whole grid;
}

-- ---- the next corner of a polygon

-- what refuses a corner refuses the next one
pub refuses_next : (grid count : ℕ) (corners : List (ℕ × ℕ)) (line : List ℕ) (r : Reason) → RefusesCorner grid line r
    → RefusesNextCorner grid count corners line r
refuses_next grid count corners line NotConvex p = absurd p
refuses_next grid count corners line r p = p

next_passes : (grid count : ℕ) (corners : List (ℕ × ℕ)) (c : ℕ × ℕ) (r : Reason) → IsCornerLine (corner_line c) c → IsInside grid c
    → ¬ (CompletesNone grid count corners c) → ¬ (RefusesNextCorner grid count corners (corner_line c) r)
next_passes grid count corners c NotConvex is inside convex refuses =
    convex (subst (CompletesNone grid count corners) (sym (corner_is_one (corner_line c) c refuses.0 is refuses.1)) refuses.3)
next_passes grid count corners c r is inside convex refuses = corner_passes grid c r is inside refuses

-- a line that is not convex has no other reason
not_both : (grid : ℕ) (line : List ℕ) (c : ℕ × ℕ) (r : Reason) → IsCornerLine line c → IsInside grid c → ¬ (RefusesCorner grid line r)
not_both grid line c OtherLine is inside refuses = refuses (decimal c.0, decimal c.1, corner_fields line c is)
not_both grid line c Number is inside refuses = refuses.1 (c, is)
not_both grid line c CornerOutside is inside refuses = refuses.2 (subst (IsInside grid) (corner_is_one line c refuses.0 is refuses.1) inside)
not_both grid line c r is inside refuses = refuses

next_reason : (grid count : ℕ) (corners : List (ℕ × ℕ)) (line : List ℕ) (r s : Reason) → RefusesNextCorner grid count corners line r
    → RefusesNextCorner grid count corners line s → r ≡ s
next_reason grid count corners line NotConvex NotConvex p q = refl
next_reason grid count corners line NotConvex s p q = absurd (not_both grid line p.0 s p.1 p.2 q)
next_reason grid count corners line r NotConvex p q = absurd (not_both grid line q.0 r q.1 q.2 p)
next_reason grid count corners line r s p q = corner_reason grid line r s p q

next_whole : (grid count : ℕ) (corners : List (ℕ × ℕ)) (line : List ℕ) (r : Reason) → RefusesNextCorner grid count corners line r → 2 < number_of r
next_whole grid count corners line NotConvex p = omega arith
next_whole grid count corners line r p = corner_whole grid line r p

pub next_corner_is_form : (grid count : ℕ) (corners : List (ℕ × ℕ)) → IsForm (next_corner_form grid count corners)
next_corner_is_form grid count corners = record {
  short = λ c says. corner_line-short c says.0.x says.0.y;
  one_value = λ c d p q is. one_corner c d p.0.x p.0.y is;
  passes = λ c r says. next_passes grid count corners c r says.0 says.1 says.2;
  one_reason = next_reason grid count corners;
  whole = next_whole grid count corners;
}

-- ---- a word

pub spells : (w : List ℕ) → IsStableWord w → Spells (digits_of w) w
spells w is = record { digits = refl; is_word = is.word }

word_passes : (w : List ℕ) (r : Reason) → IsStableWord w → ¬ (RefusesWord (digits_of w) r)
word_passes w NotAWord is refuses = refuses (w, spells w is)
word_passes w UnstableWord is refuses = refuses.2 (subst IsStable (digits_of-injective w refuses.0 refuses.1.digits) is.stable)
word_passes w r is refuses = refuses

word_reason : (line : List ℕ) (r s : Reason) → RefusesWord line r → RefusesWord line s → r ≡ s
word_reason line NotAWord NotAWord p q = refl
word_reason line NotAWord UnstableWord p q = absurd (p (q.0, q.1))
word_reason line UnstableWord NotAWord p q = absurd (q (p.0, p.1))
word_reason line UnstableWord UnstableWord p q = refl
word_reason line NotAWord s p q = absurd q
word_reason line UnstableWord s p q = absurd q
word_reason line r s p q = absurd p

word_whole : (line : List ℕ) (r : Reason) → RefusesWord line r → 2 < number_of r
word_whole line NotAWord p = omega arith
word_whole line UnstableWord p = omega arith
word_whole line r p = absurd p

pub word_is_form : IsForm word_form
word_is_form = record {
  short = λ w says. digits_of-short w says.word;
  one_value = λ v w p q is. digits_of-injective v w is;
  passes = word_passes;
  one_reason = word_reason;
  whole = word_whole;
}
