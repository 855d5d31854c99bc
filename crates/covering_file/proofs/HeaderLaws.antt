-- A header and a job tell one value, whole ones never offend, and their first offence is one.
use Rattle.std.proofs.Common.{◌≡◌, ℕ, List, [], ◌∷◌, ◌++◌, length, codes, refl, sym, ap, ◌∙◌, subst, arith, append_assoc, append-nil, length-append}
use Rattle.std.proofs.Common.{All, inl, inr}
use Rattle.std.proofs.lemmas.Bool.{le-ltb}
use Rattle.std.specs.List.{flat_map}
use Rattle.edge_words.specs.Reading.{digits_of}
use Rattle.rational_polygon.specs.declared.TheConstants.{MAX_GRID, MAX_LEVEL, MIN_CORNERS, MAX_CORNERS, MAX_POLYGONS}
use Rattle.rational_polygon.specs.Outline.{Outline, IsInside, IsPolygon, IsStrictlyConvex}
use Rattle.rational_polygon.specs.Region.{grid_of, polygon_at}
use Rattle.line_grammar.specs.declared.reason.Reason.TheVariants.{EndLine}
use Rattle.line_grammar.specs.Form.{whole_line, numbered_line}
use Rattle.line_grammar.specs.Laws.{ValueIsOne, NeverOffends, OffenceIsOne}
use Rattle.line_grammar.specs.Offence.{IsFirstOffence}
use Rattle.line_grammar.specs.Part.{line_part, followed_by}
use Rattle.line_grammar.proofs.Counted.{lines_of_each, said_from, between, repeated_said}
use Rattle.line_grammar.proofs.Laws.{without_is_one, without_never, without_offence_is_one}
use Rattle.line_grammar.proofs.Laws.{Any, line_is_one, line_never, line_offence_is_one, both_are_one, both_never, both_offences_are_one}
use Rattle.line_grammar.proofs.Laws.{turns_are_one, turns_never, turn_offences_are_one, AreSure, all_sure, seen_is_one, seen_never, text_never}
use Rattle.line_grammar.proofs.Laws.{text_offence_is_one}
use Rattle.line_grammar.proofs.Lines as lines
use Rattle.covering_file.specs.declared.TheConstants.{MAX_WORDS}
use Rattle.covering_file.specs.declared.file_kind.FileKind.{FileKind}
use Rattle.covering_file.specs.declared.file_kind.FileKind.TheVariants.{Job}
use Rattle.covering_file.specs.CornerForms.{CompletesNone, first_form, next_corner_form, word_form}
use Rattle.covering_file.specs.Header.{Heading, IsHeading, IsVersion, first_line, polygon_lines, region_lines, words_lines}
use Rattle.covering_file.specs.Header.{header_lines, header_text, job_lines, job_text}
use Rattle.covering_file.specs.HeaderPart.{named_part, corners_part, IsPolygonOn, polygon_part, polygons_part, count_part, counted_polygons}
use Rattle.covering_file.specs.HeaderPart.{IsRegionIn, region_part, AreListed, listed_part, words_part, depth_part}
use Rattle.covering_file.specs.HeaderPart.{after_region, after_first_line, header_part, ended_header, job_part}
use Rattle.covering_file.specs.Laws.{HeaderIsOne, NoHeaderPrefix, HeaderNeverOffends, JobNeverOffends}
use Rattle.covering_file.proofs.CornerForms.{first_is_form, next_corner_is_form, word_is_form}
use Rattle.covering_file.proofs.HeadLines.{some_version, first_line-short, one_kind}
use Rattle.covering_file.proofs.HeadLines.{regions_is_form, end_is_form, grid_is_form, polygon_is_form, words_is_form, depth_is_form}
use Rattle.covering_file.proofs.HeaderParts.{corner_due, corner_after, corner_lines, corner_count, polygon_due, polygon_after, polygons_lines}
use Rattle.covering_file.proofs.HeaderParts.{grid_part, count_lines-of, count_says, word_due, word_after, first_part}
use Rattle.covering_file.proofs.JobParts.{end_part}

-- ---- what holds of a polygon is said of its parts

abbrev polygon_view : Outline → ℕ × List (ℕ × ℕ)
polygon_view o = (length o.corners, o.corners)

-- after others that make the whole list, a corner completes the polygon or is not the last
completes : (o : Outline) → IsPolygon o → (l : List (ℕ × ℕ)) (c : ℕ × ℕ) (more : List (ℕ × ℕ)) → o.corners ≡ l ++ c ∷ more
    → ¬ (CompletesNone o.grid (length o.corners) l c)
completes o polygon l c [] is none =
    none.not_convex (subst (λ (cs : List (ℕ × ℕ)). IsStrictlyConvex (record { grid = o.grid; corners = cs })) is polygon.convex)
completes o polygon l c (d ∷ more) is none = absurd (omega (arith, none.last, ap length is, length-append l (c ∷ d ∷ more)))

corner_says : (o : Outline) → IsPolygon o → (l : List (ℕ × ℕ)) (c : ℕ × ℕ) (more : List (ℕ × ℕ)) → o.corners ≡ l ++ c ∷ more
    → (corner_after o.grid (length o.corners) l).Says c
corner_says o polygon l c more is =
    let inside = between (IsInside o.grid) o.corners l c more is polygon.inside in (
      record {
        x = omega (arith, inside.sum, polygon.grid.1);
        y = omega
            (arith, inside.sum, polygon.grid.1);
        is = refl;
      },
      inside,
      completes o polygon l c more is,
    )

polygon_says : (o : Outline) → IsPolygon o → (followed_by corner_count (corners_part o.grid)).Says (polygon_view o)
polygon_says o polygon =
    let all = said_from (length o.corners) (corner_after o.grid (length o.corners)) [] o.corners (λ l c more is. corner_says o polygon l c more is)
    (omega arith) in
    (polygon.count, (all, le-ltb (length o.corners) (length o.corners) (omega arith)))

says_on : (grid : ℕ) (o : Outline) → IsPolygonOn grid o → (followed_by corner_count (corners_part grid)).Says (polygon_view o)
says_on grid o is = subst (λ (g : ℕ). (followed_by corner_count (corners_part g)).Says (polygon_view o)) is.1 (polygon_says o is.0)

lines_on : (grid : ℕ) (o : Outline) → IsPolygonOn grid o → polygon_lines o ≡ (followed_by corner_count (corners_part grid)).lines_of (polygon_view o)
lines_on grid o is =
    ap (λ (ls : List (List ℕ)). corner_count.lines_of (length o.corners) ++ ls) (sym (corner_lines grid (length o.corners) o.corners))

tells_on : (grid : ℕ) (o p : Outline) → IsPolygonOn grid o → IsPolygonOn grid p → polygon_view o ≡ polygon_view p → o ≡ p
tells_on grid o p of_o of_p is =
    let corners : o.corners ≡ p.corners = ap (λ (v : ℕ × List (ℕ × ℕ)). v.1) is in
    let grids : o.grid ≡ p.grid = of_o.1 ∙ sym of_p.1 in
    ap (λ (cs : List (ℕ × ℕ)). let q : Outline = record { grid = o.grid; corners = cs } in q) corners
    ∙ ap (λ (g : ℕ). let q : Outline = record { grid = g; corners = p.corners } in q) grids

-- ---- and of a region

abbrev region_view : List Outline → ℕ × (ℕ × List Outline)
region_view ps = (grid_of ps, (length ps, ps))

region_says : (version : ℕ) (ps : List Outline) → IsRegionIn version ps → (followed_by grid_part (counted_polygons version)).Says (region_view ps)
region_says version ps is =
    let none : Outline = record { grid = 0; corners = [] } in
    let first : IsPolygon (polygon_at ps 1) = is.1.polygons 0 none (omega (arith, is.1.count.0)) in
    let each : All (IsPolygonOn (grid_of ps)) ps = λ k d less. (is.1.polygons k d less, is.1.one_grid k d less) in
    (first.grid, (count_says version (length ps) is.0 is.1.count, repeated_said (length ps) (polygon_part (grid_of ps)) ps each refl))

region_are : (version : ℕ) (ps : List Outline) → IsRegionIn version ps
    → region_lines version ps ≡ (followed_by grid_part (counted_polygons version)).lines_of (region_view ps)
region_are version ps is =
    let grid = grid_of ps in
    ap (λ (ls : List (List ℕ)). grid_part.lines_of grid ++ (ls ++ flat_map polygon_lines ps))
    (sym (count_lines-of version (length ps) (some_version version (length ps) is.0)))
    ∙ ap (λ (ls : List (List ℕ)). grid_part.lines_of grid ++ ((count_part version).lines_of (length ps) ++ ls)) (sym (polygons_lines grid ps))

region_tells : (version : ℕ) (ps qs : List Outline) → IsRegionIn version ps → IsRegionIn version qs → region_view ps ≡ region_view qs → ps ≡ qs
region_tells version ps qs of_ps of_qs is = ap (λ (v : ℕ × (ℕ × List Outline)). v.1.1) is

-- ---- and of words

abbrev words_view : List (List ℕ) → ℕ × List (List ℕ)
words_view ws = (length ws, ws)

words_say : (ws : List (List ℕ)) → AreListed ws → (followed_by (named_part (codes "words") 1 MAX_WORDS) listed_part).Says (words_view ws)
words_say ws listed = (listed.0, repeated_said (length ws) (line_part word_form) ws listed.1 refl)

words_are : (ws : List (List ℕ)) → AreListed ws → words_lines ws ≡ (followed_by (named_part (codes "words") 1 MAX_WORDS) listed_part).lines_of (words_view ws)
words_are ws listed =
    ap (λ (ls : List (List ℕ)). (named_part (codes "words") 1 MAX_WORDS).lines_of (length ws) ++ ls)
    (sym (lines_of_each word_after digits_of (λ l w. refl) [] ws))

words_tell : (v w : List (List ℕ)) → AreListed v → AreListed w → words_view v ≡ words_view w → v ≡ w
words_tell v w of_v of_w is = ap (λ (p : ℕ × List (List ℕ)). p.1) is

-- ---- and of a heading

abbrev heading_view : Heading → ℕ × (List Outline × (List (List ℕ) × ℕ))
heading_view h = (h.version, (h.region, (h.words, h.depth)))

heading_says : (kind : FileKind) (h : Heading) → IsHeading h → (followed_by (first_part kind) after_first_line).Says (heading_view h)
heading_says kind h is = (
  some_version h.version (length h.region) is.version,
  ((is.version, is.region), ((is.word_count, is.stable), (omega arith, is.depth))),
)

heading_lines : (kind : FileKind) (h : Heading) → IsHeading h → header_lines kind h ≡ (followed_by (first_part kind) after_first_line).lines_of (heading_view h)
heading_lines kind h is = ap (λ (ls : List (List ℕ)). first_line kind h.version ∷ ls)
    (append_assoc (region_lines h.version h.region) (words_lines h.words) (depth_part.lines_of h.depth))

heading_tells : (g h : Heading) → IsHeading g → IsHeading h → heading_view g ≡ heading_view h → g ≡ h
heading_tells g h of_g of_h is =
    ap (λ (v : ℕ × (List Outline × (List (List ℕ) × ℕ))).
    let k : Heading = record { version = v.0; region = v.1.0; words = v.1.1.0; depth = v.1.1.1 } in k) is

-- ---- one value

polygon_one : (grid : ℕ) → ValueIsOne (polygon_part grid)
polygon_one grid =
    seen_is_one (followed_by corner_count (corners_part grid)) (IsPolygonOn grid) polygon_lines polygon_view
    (both_are_one corner_count (corners_part grid) (line_is_one _ (polygon_is_form MIN_CORNERS MAX_CORNERS (omega arith)))
    (λ count _. turns_are_one (corner_due count) (corner_after grid count)
    (λ l. line_is_one (next_corner_form grid count l) (next_corner_is_form grid count l))))
    (says_on grid) (lines_on grid) (tells_on grid)

count_one : (version : ℕ) → IsVersion version → ValueIsOne (count_part version)
count_one version (inl is) = subst (λ (v : ℕ). ValueIsOne (count_part v)) (sym is) (without_is_one 1)
count_one version (inr (inl is)) =
    subst (λ (v : ℕ). ValueIsOne (count_part v)) (sym is)
    (line_is_one (numbered_line (codes "regions") 1 MAX_POLYGONS) (regions_is_form 1 MAX_POLYGONS (omega arith)))
count_one version (inr (inr is)) =
    subst (λ (v : ℕ). ValueIsOne (count_part v)) (sym is)
    (line_is_one (numbered_line (codes "regions") 1 MAX_POLYGONS) (regions_is_form 1 MAX_POLYGONS (omega arith)))

region_one : (version : ℕ) → IsVersion version → ValueIsOne (region_part version)
region_one version is =
    seen_is_one (followed_by grid_part (counted_polygons version)) (IsRegionIn version) (region_lines version) region_view
    (both_are_one grid_part (counted_polygons version) (line_is_one _ (grid_is_form 1 MAX_GRID (omega arith)))
    (λ grid _. both_are_one (count_part version) (polygons_part grid) (count_one version is)
    (λ count _. turns_are_one (polygon_due count) (polygon_after grid) (λ l. polygon_one grid))))
    (region_says version) (region_are version) (region_tells version)

words_one : ValueIsOne words_part
words_one =
    seen_is_one (followed_by (named_part (codes "words") 1 MAX_WORDS) listed_part) AreListed words_lines words_view
    (both_are_one (named_part (codes "words") 1 MAX_WORDS) listed_part (line_is_one _ (words_is_form 1 MAX_WORDS (omega arith)))
    (λ count _. turns_are_one (word_due count) word_after (λ l. line_is_one word_form word_is_form)))
    words_say words_are words_tell

pub header_value_is_one : (kind : FileKind) → ValueIsOne (header_part kind)
header_value_is_one kind =
    seen_is_one (followed_by (first_part kind) after_first_line) IsHeading (header_lines kind) heading_view
    (both_are_one (first_part kind) after_first_line (line_is_one _ (first_is_form kind))
    (λ version is. both_are_one (region_part version) after_region (region_one version is)
    (λ _ _. both_are_one words_part (λ _. depth_part) words_one (λ _ _. line_is_one _ (depth_is_form 0 MAX_LEVEL (omega arith))))))
    (heading_says kind) (heading_lines kind) heading_tells

same_kind : (kind other : FileKind) (g h : Heading) (x y : List ℕ) → IsHeading g → IsHeading h
    → header_text kind g ++ x ≡ header_text other h ++ y → kind ≡ other
same_kind kind other g h x y of_g of_h is =
    let after = λ (f : Heading). region_lines f.version f.region ++ words_lines f.words ++ depth_part.lines_of f.depth in
    let short = first_line-short kind g.version (some_version g.version (length g.region) of_g.version) in
    let short' = first_line-short other h.version (some_version h.version (length h.region) of_h.version) in
    let first = lines.one_line (first_line kind g.version) (first_line other h.version) (after g) (after h) x y short.one short'.one is in
    one_kind kind other g.version h.version first.0

pub header_is_one : HeaderIsOne
header_is_one kind other g h x y heading heading' is =
    let kinds = same_kind kind other g h x y heading heading' is in
    let text = is ∙ ap (λ (k : FileKind). header_text k h ++ y) (sym kinds) in
    let one = header_value_is_one kind g h x y heading heading' text in
    (kinds, one.0, one.1)

pub no_header_prefix : NoHeaderPrefix
no_header_prefix kind other g h rest heading heading' is =
    let one = header_is_one kind other g h rest [] heading heading' (is ∙ sym (append-nil (header_text other h))) in
    (one.0, one.1)

-- ---- whole ones never offend

polygon_never : (grid : ℕ) (x : List ℕ) → NeverOffends (polygon_part grid) Any x
polygon_never grid x =
    seen_never (followed_by corner_count (corners_part grid)) (IsPolygonOn grid) polygon_lines polygon_view
    (λ v. Any v.0 × AreSure (λ _. Any {V = ℕ × ℕ}) [] v.1) Any x
    (both_never corner_count (corners_part grid) Any (λ _. AreSure (λ _. Any {V = ℕ × ℕ}) []) x
    (line_is_one _ (polygon_is_form MIN_CORNERS MAX_CORNERS (omega arith))) (line_never _ (polygon_is_form MIN_CORNERS MAX_CORNERS (omega arith)) Any)
    (λ count _. turns_never (corner_due count) (corner_after grid count) (λ _. Any) x
    (λ l. line_is_one (next_corner_form grid count l) (next_corner_is_form grid count l))
    (λ l y. line_never (next_corner_form grid count l) (next_corner_is_form grid count l) Any y)))
    (says_on grid) (lines_on grid) (λ o _ _. (tt, all_sure [] o.corners))

count_never : (version : ℕ) → IsVersion version → (x : List ℕ) → NeverOffends (count_part version) Any x
count_never version (inl is) x = subst (λ (v : ℕ). NeverOffends (count_part v) Any x) (sym is) (without_never 1 Any x)
count_never version (inr (inl is)) x =
    subst (λ (v : ℕ). NeverOffends (count_part v) Any x) (sym is)
    (line_never (numbered_line (codes "regions") 1 MAX_POLYGONS) (regions_is_form 1 MAX_POLYGONS (omega arith)) Any x)
count_never version (inr (inr is)) x =
    subst (λ (v : ℕ). NeverOffends (count_part v) Any x) (sym is)
    (line_never (numbered_line (codes "regions") 1 MAX_POLYGONS) (regions_is_form 1 MAX_POLYGONS (omega arith)) Any x)

region_never : (version : ℕ) → IsVersion version → (x : List ℕ) → NeverOffends (region_part version) Any x
region_never version is x =
    seen_never (followed_by grid_part (counted_polygons version)) (IsRegionIn version) (region_lines version) region_view
    (λ v. Any v.0 × (Any v.1.0 × AreSure (λ _. Any {V = Outline}) [] v.1.1)) Any x
    (both_never grid_part (counted_polygons version) Any (λ _ v. Any v.0 × AreSure (λ _. Any {V = Outline}) [] v.1) x
    (line_is_one _ (grid_is_form 1 MAX_GRID (omega arith))) (line_never _ (grid_is_form 1 MAX_GRID (omega arith)) Any)
    (λ grid _. both_never (count_part version) (polygons_part grid) Any (λ _. AreSure (λ _. Any {V = Outline}) []) x
    (count_one version is) (count_never version is)
    (λ count _. turns_never (polygon_due count) (polygon_after grid) (λ _. Any) x (λ l. polygon_one grid) (λ l y. polygon_never grid y))))
    (region_says version) (region_are version) (λ ps _ _. (tt, (tt, all_sure [] ps)))

words_never : (x : List ℕ) → NeverOffends words_part Any x
words_never x =
    seen_never (followed_by (named_part (codes "words") 1 MAX_WORDS) listed_part) AreListed words_lines words_view
    (λ v. Any v.0 × AreSure (λ _. Any {V = List ℕ}) [] v.1) Any x
    (both_never (named_part (codes "words") 1 MAX_WORDS) listed_part Any (λ _. AreSure (λ _. Any {V = List ℕ}) []) x
    (line_is_one _ (words_is_form 1 MAX_WORDS (omega arith))) (line_never _ (words_is_form 1 MAX_WORDS (omega arith)) Any)
    (λ count _. turns_never (word_due count) word_after (λ _. Any) x (λ l. line_is_one word_form word_is_form)
    (λ l y. line_never word_form word_is_form Any y)))
    words_say words_are (λ ws _ _. (tt, all_sure [] ws))

pub header_never : (kind : FileKind) (x : List ℕ) → NeverOffends (header_part kind) Any x
header_never kind x =
    seen_never (followed_by (first_part kind) after_first_line) IsHeading (header_lines kind) heading_view
    (λ v. Any v.0 × (Any v.1.0 × (Any v.1.1.0 × Any v.1.1.1))) Any x
    (both_never (first_part kind) after_first_line Any (λ _ v. Any v.0 × (Any v.1.0 × Any v.1.1)) x
    (line_is_one _ (first_is_form kind)) (line_never _ (first_is_form kind) Any)
    (λ version is. both_never (region_part version) after_region Any (λ _ v. Any v.0 × Any v.1) x (region_one version is) (region_never version is)
    (λ _ _. both_never words_part (λ _. depth_part) Any (λ _. Any) x words_one words_never
    (λ _ _. line_never _ (depth_is_form 0 MAX_LEVEL (omega arith)) Any x))))
    (heading_says kind) (heading_lines kind) (λ h _ _. (tt, (tt, (tt, tt))))

pub header_never_offends : HeaderNeverOffends
header_never_offends kind h rest line reason is = header_never kind rest h line reason is tt

-- ---- a first offence is one

polygon_offence : (grid : ℕ) → OffenceIsOne (polygon_part grid).grammar
polygon_offence grid =
    both_offences_are_one corner_count (corners_part grid)
    (line_is_one _ (polygon_is_form MIN_CORNERS MAX_CORNERS (omega arith))) (line_never _ (polygon_is_form MIN_CORNERS MAX_CORNERS (omega arith)) Any)
    (line_offence_is_one (numbered_line (codes "polygon") MIN_CORNERS MAX_CORNERS))
    (λ count _. turn_offences_are_one (corner_due count) (corner_after grid count)
    (λ l. line_is_one (next_corner_form grid count l) (next_corner_is_form grid count l))
    (λ l y. line_never (next_corner_form grid count l) (next_corner_is_form grid count l) Any y)
    (λ l. line_offence_is_one (next_corner_form grid count l)))

count_offence : (version : ℕ) → IsVersion version → OffenceIsOne (count_part version).grammar
count_offence version (inl is) = subst (λ (v : ℕ). OffenceIsOne (count_part v).grammar) (sym is) (without_offence_is_one {V = ℕ} 1)
count_offence version (inr (inl is)) =
    subst (λ (v : ℕ). OffenceIsOne (count_part v).grammar) (sym is) (line_offence_is_one (numbered_line (codes "regions") 1 MAX_POLYGONS))
count_offence version (inr (inr is)) =
    subst (λ (v : ℕ). OffenceIsOne (count_part v).grammar) (sym is) (line_offence_is_one (numbered_line (codes "regions") 1 MAX_POLYGONS))

region_offence : (version : ℕ) → IsVersion version → OffenceIsOne (region_part version).grammar
region_offence version is =
    both_offences_are_one grid_part (counted_polygons version)
    (line_is_one _ (grid_is_form 1 MAX_GRID (omega arith))) (line_never _ (grid_is_form 1 MAX_GRID (omega arith)) Any)
    (line_offence_is_one (numbered_line (codes "grid") 1 MAX_GRID))
    (λ grid _. both_offences_are_one (count_part version) (polygons_part grid) (count_one version is) (count_never version is) (count_offence version is)
    (λ count _. turn_offences_are_one (polygon_due count) (polygon_after grid) (λ l. polygon_one grid) (λ l y. polygon_never grid y)
    (λ l. polygon_offence grid)))

words_offence : OffenceIsOne words_part.grammar
words_offence =
    both_offences_are_one (named_part (codes "words") 1 MAX_WORDS) listed_part
    (line_is_one _ (words_is_form 1 MAX_WORDS (omega arith))) (line_never _ (words_is_form 1 MAX_WORDS (omega arith)) Any)
    (line_offence_is_one (numbered_line (codes "words") 1 MAX_WORDS))
    (λ count _. turn_offences_are_one (word_due count) word_after (λ l. line_is_one word_form word_is_form)
    (λ l y. line_never word_form word_is_form Any y) (λ l. line_offence_is_one word_form))

pub header_offence_is_one : (kind : FileKind) → OffenceIsOne (header_part kind).grammar
header_offence_is_one kind =
    both_offences_are_one (first_part kind) after_first_line
    (line_is_one _ (first_is_form kind)) (line_never _ (first_is_form kind) Any)
    (line_offence_is_one (first_form kind))
    (λ version is. both_offences_are_one (region_part version) after_region (region_one version is) (region_never version is) (region_offence version is)
    (λ _ _. both_offences_are_one words_part (λ _. depth_part) words_one words_never words_offence
    (λ _ _. line_offence_is_one (numbered_line (codes "depth") 0 MAX_LEVEL))))

-- ---- a job

abbrev job_view : Heading → Heading × Unit {0}
job_view h = (h, tt)

ended_one : ValueIsOne ended_header
ended_one =
    seen_is_one (followed_by (header_part Job) end_part) IsHeading job_lines job_view
    (both_are_one (header_part Job) end_part (header_value_is_one Job) (λ _ _. line_is_one _ end_is_form))
    (λ h is. (is, tt)) (λ h is. refl) (λ g h p q is. ap (λ (v : Heading × Unit {0}). v.0) is)

ended_never : (x : List ℕ) → NeverOffends ended_header Any x
ended_never x =
    seen_never (followed_by (header_part Job) end_part) IsHeading job_lines job_view (λ v. Any v.0 × Any v.1) Any x
    (both_never (header_part Job) end_part Any (λ _. Any) x (header_value_is_one Job) (header_never Job) (λ _ _. line_never _ end_is_form Any x))
    (λ h is. (is, tt)) (λ h is. refl) (λ h _ _. (tt, tt))

pub job_never_offends : JobNeverOffends
job_never_offends h line reason is first =
    text_never ended_header Any ended_one ended_never h line reason is tt
    (subst (λ (bytes : List ℕ). IsFirstOffence job_part.grammar bytes line reason) (sym (append-nil (job_text h))) first)

pub job_offence_is_one : OffenceIsOne job_part.grammar
job_offence_is_one =
    text_offence_is_one ended_header ended_one ended_never
    (both_offences_are_one (header_part Job) end_part (header_value_is_one Job) (header_never Job) (header_offence_is_one Job)
    (λ _ _. line_offence_is_one (whole_line (codes "end") EndLine)))
