-- The lines of a header by name: they are short and tell what they were made of.
use Rattle.std.proofs.Common.{◌≡◌, ℕ, ◌+◌, ◌≤◌, ◌<◌, ◌^◌, List, length, decimal, codes}
use Rattle.std.proofs.Common.{refl, ap, ◌∙◌, arith, inl, inr}
use Rattle.std.specs.Fmt.{digits}
use Rattle.std.proofs.lemmas.List.{length-map}
use Rattle.std.proofs.lemmas.List.Elements.{All-map}
use Rattle.edge_words.specs.Reading.{digits_of}
use Rattle.edge_words.specs.Word.{IsWord}
use Rattle.mcb_ends.specs.Lines.{newline, IsShortLine}
use Rattle.rational_polygon.specs.declared.TheConstants.{MAX_GRID}
use Rattle.line_grammar.specs.declared.reason.Reason.TheVariants.{EndLine}
use Rattle.line_grammar.specs.Form.{IsForm, IsName, whole_line, numbered_line}
use Rattle.line_grammar.specs.Text.{space}
use Rattle.line_grammar.proofs.Forms.{whole_is_form, numbered_is_form}
use Rattle.line_grammar.proofs.Lines.{parted, lacks_byte, decimal-no_space, two_fields-short, one_number}
use Rattle.line_grammar.proofs.Numbers.{decimal_without, length-decimal, decimal_one}
use Rattle.covering_file.specs.declared.file_kind.FileKind.{FileKind}
use Rattle.covering_file.specs.declared.file_kind.FileKind.TheVariants.{Cover, Job}
use Rattle.covering_file.specs.Header.{IsVersion, IsVersionFor, first_line, corner_line}

-- ---- the first line

pub version_fits : (version : ℕ) → IsVersion version → version < 2 ^ 32
version_fits version (inl is) = omega (arith, is)
version_fits version (inr (inl is)) = omega (arith, is)
version_fits version (inr (inr is)) = omega (arith, is)

-- the version of a region is one
pub some_version : (version polygons : ℕ) → IsVersionFor version polygons → IsVersion version
some_version version polygons (inl is) = inl is.0
some_version version polygons (inr is) = inr is

-- how the versions are written
pub cover_in_1 : first_line Cover 1 ≡ codes "mcbcover 1"
unfolding digits
cover_in_1 = refl

pub cover_in_2 : first_line Cover 2 ≡ codes "mcbcover 2"
unfolding digits
cover_in_2 = refl

pub cover_in_3 : first_line Cover 3 ≡ codes "mcbcover 3"
unfolding digits
cover_in_3 = refl

pub job_in_1 : first_line Job 1 ≡ codes "mcbjob 1"
unfolding digits
job_in_1 = refl

pub job_in_2 : first_line Job 2 ≡ codes "mcbjob 2"
unfolding digits
job_in_2 = refl

pub job_in_3 : first_line Job 3 ≡ codes "mcbjob 3"
unfolding digits
job_in_3 = refl

cover_name : IsName (codes "mcbcover")
cover_name = record { one_line = lacks_byte newline (codes "mcbcover") refl; one_field = lacks_byte space (codes "mcbcover") refl; short = omega arith }

job_name : IsName (codes "mcbjob")
job_name = record { one_line = lacks_byte newline (codes "mcbjob") refl; one_field = lacks_byte space (codes "mcbjob") refl; short = omega arith }

pub first_line-short : (kind : FileKind) (version : ℕ) → IsVersion version → IsShortLine (first_line kind version)
first_line-short Cover version is = two_fields-short (codes "mcbcover") version cover_name.one_line (omega arith) (version_fits version is)
first_line-short Job version is = two_fields-short (codes "mcbjob") version job_name.one_line (omega arith) (version_fits version is)

pub one_kind : (kind other : FileKind) (v w : ℕ) → first_line kind v ≡ first_line other w → kind ≡ other
one_kind Cover Cover v w is = refl
one_kind Cover Job v w is =
    let fields = parted space (codes "mcbcover") (codes "mcbjob") (decimal v) (decimal w) cover_name.one_field job_name.one_field is in
    absurd (omega (arith, ap length fields.0))
one_kind Job Cover v w is =
    let fields = parted space (codes "mcbjob") (codes "mcbcover") (decimal v) (decimal w) job_name.one_field cover_name.one_field is in
    absurd (omega (arith, ap length fields.0))
one_kind Job Job v w is = refl

pub one_version : (kind : FileKind) (v w : ℕ) → IsVersion v → first_line kind v ≡ first_line kind w → v ≡ w
one_version Cover v w says is = one_number (codes "mcbcover") v w (version_fits v says) is
one_version Job v w says is = one_number (codes "mcbjob") v w (version_fits v says) is

pub end_is_form : IsForm (whole_line (codes "end") EndLine)
end_is_form = whole_is_form (codes "end") EndLine (record { one = lacks_byte newline (codes "end") refl; short = omega arith }) (omega arith)

-- ---- names and numbers

pub grid_is_form : (low high : ℕ) → high < 2 ^ 32 → IsForm (numbered_line (codes "grid") low high)
grid_is_form low high fits =
    numbered_is_form (codes "grid") low high
    (record { one_line = lacks_byte newline (codes "grid") refl; one_field = lacks_byte space (codes "grid") refl; short = omega arith }) fits

pub polygon_is_form : (low high : ℕ) → high < 2 ^ 32 → IsForm (numbered_line (codes "polygon") low high)
polygon_is_form low high fits =
    numbered_is_form (codes "polygon") low high
    (record { one_line = lacks_byte newline (codes "polygon") refl; one_field = lacks_byte space (codes "polygon") refl; short = omega arith }) fits

pub regions_is_form : (low high : ℕ) → high < 2 ^ 32 → IsForm (numbered_line (codes "regions") low high)
regions_is_form low high fits =
    numbered_is_form (codes "regions") low high
    (record { one_line = lacks_byte newline (codes "regions") refl; one_field = lacks_byte space (codes "regions") refl; short = omega arith }) fits

pub words_is_form : (low high : ℕ) → high < 2 ^ 32 → IsForm (numbered_line (codes "words") low high)
words_is_form low high fits =
    numbered_is_form (codes "words") low high
    (record { one_line = lacks_byte newline (codes "words") refl; one_field = lacks_byte space (codes "words") refl; short = omega arith }) fits

pub depth_is_form : (low high : ℕ) → high < 2 ^ 32 → IsForm (numbered_line (codes "depth") low high)
depth_is_form low high fits =
    numbered_is_form (codes "depth") low high
    (record { one_line = lacks_byte newline (codes "depth") refl; one_field = lacks_byte space (codes "depth") refl; short = omega arith }) fits

-- ---- corners and words

pub corner_line-short : (c : ℕ × ℕ) → c.0 ≤ MAX_GRID → c.1 ≤ MAX_GRID → IsShortLine (corner_line c)
corner_line-short c x y =
    let first : c.0 < 2 ^ 32 = omega (arith, x) in
    two_fields-short (decimal c.0) c.1 (decimal_without newline c.0 (omega arith)) (omega (arith, length-decimal c.0 first)) (omega (arith, y))

pub one_corner : (c d : ℕ × ℕ) → c.0 ≤ MAX_GRID → c.1 ≤ MAX_GRID → corner_line c ≡ corner_line d → c ≡ d
one_corner c d in_x in_y is =
    let fields = parted space (decimal c.0) (decimal d.0) (decimal c.1) (decimal d.1) (decimal-no_space c.0) (decimal-no_space d.0) is in
    let x : c.0 ≡ d.0 = decimal_one c.0 d.0 (omega (arith, in_x)) fields.0 in
    let y : c.1 ≡ d.1 = decimal_one c.1 d.1 (omega (arith, in_y)) fields.1 in
    ap (λ (n : ℕ). let p : ℕ × ℕ = (n, c.1) in p) x ∙ ap (λ (n : ℕ). let p : ℕ × ℕ = (d.0, n) in p) y

pub digits_of-short : (w : List ℕ) → IsWord w → IsShortLine (digits_of w)
digits_of-short w word = record {
  one = All-map (λ b. b ≡ newline → ⊥) (λ x. x + 48) w (λ k d within same. omega (arith, same));
  short = omega (arith, length-map w (λ x. x + 48), word.even_length.at_most);
}
