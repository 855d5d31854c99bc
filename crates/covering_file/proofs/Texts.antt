-- The text of lines that are made of the elements of a list, and of a header in its parts.
use Rattle.std.proofs.Common.{◌≡◌, ℕ, ◌<◌, List, [], ◌∷◌, ◌++◌, length, map, take, get_or, codes, IsErr, refl, sym, ap, ◌∙◌, subst, append_assoc, ◌≤◌, arith}
use Rattle.std.proofs.lemmas.List.{append-nil, get_or_default}
use Rattle.std.proofs.lemmas.List.Concat.{flat_map-append}
use Rattle.std.specs.Io.KnownBytes.{Appends}
use Rattle.std.specs.List.{flat_map}
use Rattle.std.specs.declared.option.Option.{Option}
use Rattle.std.specs.declared.result.Result.{Result}
use Rattle.rational_polygon.specs.Outline.{Outline}
use Rattle.rational_polygon.specs.Region.{grid_of}
use Rattle.mcb_ends.specs.Bytes.{AppendsPrefix, Writes}
use Rattle.mcb_ends.proofs.Written.{AppendsPrefix-flat_map, Writes-failed}
use Rattle.covering_file.specs.declared.file_kind.FileKind.{FileKind}
use Rattle.line_grammar.specs.Text.{named_line}
use Rattle.covering_file.specs.Header.{Heading, first_line, polygon_lines, count_lines, region_lines, words_lines, header_text}
use Rattle.line_grammar.specs.Text.{with_newline, text_of}

text_of-map : {A : Type 0} (f : A → List ℕ) (xs : List A) → text_of (map f xs) ≡ flat_map (λ a. with_newline (f a)) xs
text_of-map f [] = refl
text_of-map f (x ∷ xs) = ap (λ (text : List ℕ). with_newline (f x) ++ text) (text_of-map f xs)

pub text_of-blocks : {A : Type 0} (f : A → List (List ℕ)) (xs : List A) → text_of (flat_map f xs) ≡ flat_map (λ a. text_of (f a)) xs
text_of-blocks f [] = refl
text_of-blocks f (x ∷ xs) =
    flat_map-append with_newline (f x) (flat_map f xs) ∙ ap (λ (text : List ℕ). text_of (f x) ++ text) (text_of-blocks f xs)

-- where the lines of the k-th element are cut, a prefix of the text of all lines is written
pub cut_in_blocks : {A T E : Type 0} (f : A → List (List ℕ)) (old now new : Option (List ℕ)) (result : Result T E) (xs : List A) (k : ℕ) (d : A)
    → k < length xs → Appends old now (flat_map (λ a. text_of (f a)) (take k xs)) → AppendsPrefix now new (text_of (f (get_or xs k d))) → IsErr result
    → Writes old new result (text_of (flat_map f xs))
cut_in_blocks f old now new result xs k d within begun cut failed =
    let all = AppendsPrefix-flat_map (λ a. text_of (f a)) old now new xs k d within begun cut in
    Writes-failed old new result (text_of (flat_map f xs)) failed (subst (λ (text : List ℕ). AppendsPrefix old new text) (sym (text_of-blocks f xs)) all)

-- where the line of the k-th element is cut, a prefix of the text of all lines is written
pub cut_in_list : {A T E : Type 0} (f : A → List ℕ) (old now new : Option (List ℕ)) (result : Result T E) (xs : List A) (k : ℕ) (d : A)
    → k < length xs → Appends old now (text_of (map f (take k xs))) → AppendsPrefix now new (with_newline (f (get_or xs k d))) → IsErr result
    → Writes old new result (text_of (map f xs))
cut_in_list f old now new result xs k d within before cut failed =
    let begun = subst (λ (text : List ℕ). Appends old now text) (text_of-map f (take k xs)) before in
    let all = AppendsPrefix-flat_map (λ a. with_newline (f a)) old now new xs k d within begun cut in
    Writes-failed old new result (text_of (map f xs)) failed (subst (λ (text : List ℕ). AppendsPrefix old new text) (sym (text_of-map f xs)) all)

-- the text of a region: its grid, the count where the version has it, and the polygons
pub region_text-parts : (version : ℕ) (r : List Outline) → text_of (region_lines version r)
    ≡ with_newline (named_line (codes "grid") (grid_of r)) ++ (text_of (count_lines version (length r)) ++ text_of (flat_map polygon_lines r))
region_text-parts version r =
    ap (λ (text : List ℕ). with_newline (named_line (codes "grid") (grid_of r)) ++ text)
    (flat_map-append with_newline (count_lines version (length r)) (flat_map polygon_lines r))

-- the grid of the polygon that stands first
pub first_grid : (r ps : List Outline) (o : Outline) → ps ≡ r → 1 ≤ length r → o ≡ get_or ps 0 o → o.grid ≡ grid_of r
first_grid r ps o same some is =
    let none : Outline = record { grid = 0; corners = [] } in
    let here : o ≡ get_or r 0 o = subst (λ (qs : List Outline). o ≡ get_or qs 0 o) same is in
    ap (λ (p : Outline). p.grid) (here ∙ get_or_default r 0 o none (omega (arith, some)))

-- the text of a header: its first line, the region, the words and the depth
pub header_text-parts : (kind : FileKind) (h : Heading) → header_text kind h
    ≡ with_newline (first_line kind h.version) ++ (text_of (region_lines h.version h.region)
    ++ (text_of (words_lines h.words) ++ with_newline (named_line (codes "depth") h.depth)))
header_text-parts kind h =
    let last = named_line (codes "depth") h.depth ∷ [] in
    let first = first_line kind h.version ∷ region_lines h.version h.region in
    flat_map-append with_newline (first ++ words_lines h.words) last
    ∙ ap (λ (text : List ℕ). text ++ text_of last) (flat_map-append with_newline first (words_lines h.words))
    ∙ append_assoc (text_of first) (text_of (words_lines h.words)) (text_of last)
    ∙ append_assoc (with_newline (first_line kind h.version)) (text_of (region_lines h.version h.region)) (text_of (words_lines h.words) ++ text_of last)
    ∙ ap (λ (text : List ℕ). with_newline (first_line kind h.version) ++ (text_of (region_lines h.version h.region) ++ (text_of (words_lines h.words) ++ text)))
    (append-nil (with_newline (named_line (codes "depth") h.depth)))
