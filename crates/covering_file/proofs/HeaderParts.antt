-- The parts of a header, one after another.
use Rattle.std.proofs.Common.{◌≡◌, ℕ, ◌+◌, ◌≤◌, ◌<◌, Bool, false, nat_lt, List, [], ◌∷◌, ◌++◌, length, map, codes, All, Option, IfOk, IfErr, Result, Ok, Err}
use Rattle.std.proofs.Common.{None, inl, inr}
use Rattle.std.proofs.Common.{refl, sym, ap, ◌∙◌, subst, arith, length-append, append_assoc}
use Rattle.std.specs.List.{flat_map}
use Rattle.std.proofs.lemmas.Bool.{lt-ltb, le-ltb}
use Rattle.std.proofs.lemmas.List.{length-map}
use Rattle.edge_words.specs.Reading.{digits_of}
use Rattle.mcb_ends.specs.Reader.{Reader}
use Rattle.rational_polygon.specs.declared.TheConstants.{MAX_GRID, MIN_CORNERS, MAX_CORNERS, MAX_POLYGONS}
use Rattle.rational_polygon.specs.Outline.{Outline, IsInside, IsPolygon}
use Rattle.rational_polygon.specs.Region.{IsPolygonCount, grid_of}
use Rattle.line_grammar.specs.Faults.{Refusal}
use Rattle.line_grammar.specs.Part.{Part, AreSaid, line_part, lines_in_turn, followed_by, so_far}
use Rattle.line_grammar.specs.Reading.{FailsPart, StopsEarly, TakesPart, ReadsPart}
use Rattle.line_grammar.proofs.Counted.{lines_of_each, lines_of_all, said_each, said_repeated}
use Rattle.line_grammar.proofs.Parts.{fails_first, fails_second, takes_both, takes_turn, takes_all_turns, fails_turn, takes_seen}
use Rattle.covering_file.specs.declared.fault.HeadFault.{HeadFault}
use Rattle.covering_file.specs.Faults.{head_refusal}
use Rattle.covering_file.specs.declared.TheConstants.{MAX_WORDS}
use Rattle.covering_file.specs.declared.file_kind.FileKind.{FileKind}
use Rattle.covering_file.specs.CornerForms.{first_form, next_corner_form, word_form}
use Rattle.covering_file.specs.Header.{IsHeading, IsVersion, IsVersionFor, first_line, corner_line}
use Rattle.covering_file.specs.Header.{polygon_lines, count_lines, region_lines, words_lines, header_lines}
use Rattle.covering_file.specs.HeaderPart.{named_part, corners_part, corners_so_far, IsPolygonOn, polygon_part, polygons_part}
use Rattle.covering_file.specs.HeaderPart.{count_part, counted_polygons, IsRegionIn, region_part}
use Rattle.covering_file.specs.HeaderPart.{listed_part, words_part, depth_part, after_region, after_first_line, header_part}

-- ---- corners in turn

abbrev pub corner_due : ℕ → List (ℕ × ℕ) → Bool
corner_due count corners = nat_lt (length corners) count

abbrev pub corner_after : ℕ → ℕ → List (ℕ × ℕ) → Part (ℕ × ℕ)
corner_after grid count corners = line_part (next_corner_form grid count corners)

pub corner_turn_fails : (grid count : ℕ) (cs : List (ℕ × ℕ)) (old mid new : Reader) (a b c : Option (List ℕ)) (refusal : Option Refusal)
    → TakesPart (corners_so_far grid count) old mid a b cs → length cs < count
    → FailsPart (line_part (next_corner_form grid count cs)).grammar mid new b c refusal
    → FailsPart (corners_part grid count).grammar old new a c refusal
corner_turn_fails grid count cs old mid new a b c refusal takes less fails =
    fails_turn (corner_due count) (corner_after grid count) cs old mid new a b c refusal takes (lt-ltb (length cs) count less) fails

pub corner_turn_taken : (grid count : ℕ) (cs : List (ℕ × ℕ)) (corner : ℕ × ℕ) (old mid new : Reader) (a b c : Option (List ℕ))
    → TakesPart (corners_so_far grid count) old mid a b cs → length cs < count → TakesPart (line_part (next_corner_form grid count cs)) mid new b c corner
    → TakesPart (corners_so_far grid count) old new a c (cs ++ corner ∷ [])
corner_turn_taken grid count cs corner old mid new a b c takes less one =
    takes_turn (corner_due count) (corner_after grid count) cs corner old mid new a b c takes (lt-ltb (length cs) count less) one

pub corners_inside : (grid count : ℕ) (cs : List (ℕ × ℕ)) → AreSaid (corner_due count) (corner_after grid count) [] cs → All (IsInside grid) cs
corners_inside grid count cs said = said_each (corner_due count) (corner_after grid count) (IsInside grid) (λ l c says. says.1) [] cs said

pub corner_lines : (grid count : ℕ) (cs : List (ℕ × ℕ)) → lines_in_turn (corner_after grid count) [] cs ≡ map corner_line cs
corner_lines grid count cs = lines_of_each (corner_after grid count) corner_line (λ l c. refl) [] cs

pub corners_number : (grid count : ℕ) (cs : List (ℕ × ℕ)) (old new : Reader) (a b : Option (List ℕ)) → TakesPart (corners_so_far grid count) old new a b cs
    → new.number ≡ old.number + length cs
corners_number grid count cs old new a b takes = omega (arith, takes.taken.number, ap length (corner_lines grid count cs), length-map cs corner_line)

-- ---- a polygon

abbrev pub corner_count : Part ℕ
corner_count = named_part (codes "polygon") MIN_CORNERS MAX_CORNERS

pub corners_fail : (grid count : ℕ) (old mid new : Reader) (a b c : Option (List ℕ)) (refusal : Option Refusal) → TakesPart corner_count old mid a b count
    → FailsPart (corners_part grid count).grammar mid new b c refusal → FailsPart (polygon_part grid).grammar old new a c refusal
corners_fail grid count old mid new a b c refusal taken fails =
    fails_second corner_count (corners_part grid) count old mid new a b c refusal taken fails

pub outline_taken : (grid count : ℕ) (cs : List (ℕ × ℕ)) (old mid new : Reader) (a b c : Option (List ℕ)) → TakesPart corner_count old mid a b count
    → TakesPart (corners_so_far grid count) mid new b c cs → length cs ≡ count → IsPolygon (record { grid = grid; corners = cs })
    → TakesPart (polygon_part grid) old new a c (record { grid = grid; corners = cs })
outline_taken grid count cs old mid new a b c taken corners counted polygon =
    let all = takes_all_turns (corner_due count) (corner_after grid count) cs mid new b c corners (le-ltb (length cs) count (omega (arith, counted))) in
    let two = takes_both corner_count (corners_part grid) count cs old mid new a b c taken all in
    takes_seen (followed_by corner_count (corners_part grid)) (IsPolygonOn grid) polygon_lines (count, cs) (record { grid = grid; corners = cs })
    old new a c two (polygon, refl) (same_lines grid count cs counted)
  where
    same_lines : (grid count : ℕ) (cs : List (ℕ × ℕ)) → length cs ≡ count
        → (followed_by corner_count (corners_part grid)).lines_of (count, cs) ≡ polygon_lines (record { grid = grid; corners = cs })
    same_lines grid count cs counted =
        ap (λ (ls : List (List ℕ)). corner_count.lines_of count ++ ls) (corner_lines grid count cs)
        ∙ ap (λ n. corner_count.lines_of n ++ map corner_line cs) (sym counted)

-- the last corner, after the others
pub last_taken : (grid count : ℕ) (cs : List (ℕ × ℕ)) (o : Outline) (old mid mid' new : Reader) (a b c d : Option (List ℕ))
    → TakesPart corner_count old mid a b count → TakesPart (corners_so_far grid count) mid mid' b c cs → length cs + 1 ≡ count → IsPolygon o
    → (x : ℕ × ℕ) × (o ≡ record { grid = grid; corners = cs ++ x ∷ [] }) × TakesPart (line_part (next_corner_form grid (length cs + 1) cs)) mid' new c d x
    → TakesPart (polygon_part grid) old new a d o
last_taken grid count cs o old mid mid' new a b c d taken corners counted polygon (x, is, last) =
    let last' = subst (λ n. TakesPart (line_part (next_corner_form grid n cs)) mid' new c d x) counted last in
    let all = corner_turn_taken grid count cs x mid mid' new b c d corners (omega (arith, counted)) last' in
    let polygon' = subst IsPolygon is polygon in
    subst (λ (p : Outline). TakesPart (polygon_part grid) old new a d p) (sym is)
    (outline_taken grid count (cs ++ x ∷ []) old mid new a b d taken all (omega (arith, length-append cs (x ∷ []), counted)) polygon')

-- a polygon has at most 17 lines
pub polygon_number : (grid : ℕ) (o : Outline) (old new : Reader) (a b : Option (List ℕ)) → TakesPart (polygon_part grid) old new a b o
    → new.number ≤ old.number + 17
polygon_number grid o old new a b takes =
    omega (arith, takes.taken.number, length-map o.corners corner_line, takes.says.0.count.1)

-- ---- polygons in turn

abbrev pub polygon_due : ℕ → List Outline → Bool
polygon_due count polygons = nat_lt (length polygons) count

abbrev pub polygon_after : ℕ → List Outline → Part Outline
polygon_after grid _ = polygon_part grid

abbrev pub polygons_so_far : ℕ → ℕ → Part (List Outline)
polygons_so_far grid count = so_far (polygon_due count) (polygon_after grid)

pub polygon_turn_fails : (grid count : ℕ) (ps : List Outline) (old mid new : Reader) (a b c : Option (List ℕ)) (refusal : Option Refusal)
    → TakesPart (polygons_so_far grid count) old mid a b ps → length ps < count → FailsPart (polygon_part grid).grammar mid new b c refusal
    → FailsPart (polygons_part grid count).grammar old new a c refusal
polygon_turn_fails grid count ps old mid new a b c refusal takes less fails =
    fails_turn (polygon_due count) (polygon_after grid) ps old mid new a b c refusal takes (lt-ltb (length ps) count less) fails

pub polygon_turn_taken : (grid count : ℕ) (ps : List Outline) (p : Outline) (old mid new : Reader) (a b c : Option (List ℕ))
    → TakesPart (polygons_so_far grid count) old mid a b ps → length ps < count → TakesPart (polygon_part grid) mid new b c p
    → TakesPart (polygons_so_far grid count) old new a c (ps ++ p ∷ [])
polygon_turn_taken grid count ps p old mid new a b c takes less one =
    takes_turn (polygon_due count) (polygon_after grid) ps p old mid new a b c takes (lt-ltb (length ps) count less) one

pub all_polygons : (grid count : ℕ) (ps : List Outline) (old new : Reader) (a b : Option (List ℕ)) → TakesPart (polygons_so_far grid count) old new a b ps
    → length ps ≡ count → TakesPart (polygons_part grid count) old new a b ps
all_polygons grid count ps old new a b takes counted =
    takes_all_turns (polygon_due count) (polygon_after grid) ps old new a b takes (le-ltb (length ps) count (omega (arith, counted)))

pub polygons_lines : (grid : ℕ) (ps : List Outline) → lines_in_turn (polygon_after grid) [] ps ≡ flat_map polygon_lines ps
polygons_lines grid ps = lines_of_all (polygon_after grid) polygon_lines (λ l p. refl) [] ps

-- ---- a region

abbrev pub grid_part : Part ℕ
grid_part = named_part (codes "grid") 1 MAX_GRID

-- the lines of the count are those that the version has
pub count_lines-of : (version count : ℕ) → IsVersion version → (count_part version).lines_of count ≡ count_lines version count
count_lines-of version count (inl is) =
    subst (λ (v : ℕ). (count_part v).lines_of count ≡ count_lines v count) (sym is) refl
count_lines-of version count (inr (inl is)) =
    subst (λ (v : ℕ). (count_part v).lines_of count ≡ count_lines v count) (sym is) refl
count_lines-of version count (inr (inr is)) =
    subst (λ (v : ℕ). (count_part v).lines_of count ≡ count_lines v count) (sym is) refl

-- and its values are right for the version
pub count_within : (version count : ℕ) → IsVersion version → (count_part version).Says count → IsPolygonCount count × IsVersionFor version count
count_within version count (inl is) says =
    let one : count ≡ 1 = subst (λ (v : ℕ). (count_part v).Says count) is says in
    ((omega (arith, one), omega (arith, one)), inl (is, one))
count_within version count (inr (inl is)) says =
    let some : (1 ≤ count) × (count ≤ MAX_POLYGONS) = subst (λ (v : ℕ). (count_part v).Says count) is says in
    (some, inr (inl is))
count_within version count (inr (inr is)) says =
    let some : (1 ≤ count) × (count ≤ MAX_POLYGONS) = subst (λ (v : ℕ). (count_part v).Says count) is says in
    (some, inr (inr is))

pub count_says : (version count : ℕ) → IsVersionFor version count → IsPolygonCount count → (count_part version).Says count
count_says version count (inl is) within = subst (λ (v : ℕ). (count_part v).Says count) (sym is.0) is.1
count_says version count (inr (inl is)) within = subst (λ (v : ℕ). (count_part v).Says count) (sym is) within
count_says version count (inr (inr is)) within = subst (λ (v : ℕ). (count_part v).Says count) (sym is) within

pub grid_fails : (version : ℕ) (old new : Reader) (a b : Option (List ℕ)) (refusal : Option Refusal) → old.is_done ≡ false
    → FailsPart grid_part.grammar old new a b refusal → FailsPart (region_part version).grammar old new a b refusal
grid_fails version old new a b refusal reading fails = fails_first grid_part (counted_polygons version) old new a b refusal reading fails

pub count_fails : (version grid : ℕ) (old mid new : Reader) (a b c : Option (List ℕ)) (refusal : Option Refusal) → mid.is_done ≡ false
    → TakesPart grid_part old mid a b grid → FailsPart (count_part version).grammar mid new b c refusal
    → FailsPart (region_part version).grammar old new a c refusal
count_fails version grid old mid new a b c refusal reading taken fails =
    fails_second grid_part (counted_polygons version) grid old mid new a b c refusal taken
    (fails_first (count_part version) (polygons_part grid) mid new b c refusal reading fails)

pub polygons_fail : (version grid count : ℕ) (old mid at new : Reader) (a b c d : Option (List ℕ)) (refusal : Option Refusal)
    → TakesPart grid_part old mid a b grid → TakesPart (count_part version) mid at b c count
    → FailsPart (polygons_part grid count).grammar at new c d refusal → FailsPart (region_part version).grammar old new a d refusal
polygons_fail version grid count old mid at new a b c d refusal taken counted fails =
    fails_second grid_part (counted_polygons version) grid old mid new a b d refusal taken
    (fails_second (count_part version) (polygons_part grid) count mid at new b c d refusal counted fails)

-- polygons on one grid, so many as the version has, are a region
pub makes_region : (version grid count : ℕ) (ps : List Outline) → IsVersion version → (count_part version).Says count → (polygons_part grid count).Says ps
    → IsRegionIn version ps × (grid_of ps ≡ grid) × (length ps ≡ count)
makes_region version grid count ps is counted says =
    let both = said_repeated count (polygon_part grid) ps says in
    let within = count_within version count is counted in
    let some : 0 < length ps = omega (arith, both.1, within.0.0) in
    let none : Outline = record { grid = 0; corners = [] } in
    let of_first : grid_of ps ≡ grid = (both.0 0 none some).1 in (
      (
        subst (IsVersionFor version) (sym both.1) within.1,
        record {
          count = subst IsPolygonCount (sym both.1) within.0;
          polygons = λ k d less. (both.0 k d less).0;
          one_grid = λ k d less. (both.0 k d less).1 ∙ sym of_first;
        },
      ),
      of_first,
      both.1,
    )

pub region_taken : (version grid count : ℕ) (ps : List Outline) (old mid at new : Reader) (a b c d : Option (List ℕ)) → IsVersion version
    → TakesPart grid_part old mid a b grid → TakesPart (count_part version) mid at b c count → TakesPart (polygons_part grid count) at new c d ps
    → TakesPart (region_part version) old new a d ps
region_taken version grid count ps old mid at new a b c d is taken counted polygons =
    let makes = makes_region version grid count ps is counted.says polygons.says in
    let two = takes_both (count_part version) (polygons_part grid) count ps mid at new b c d counted polygons in
    let three = takes_both grid_part (counted_polygons version) grid (count, ps) old mid new a b d taken two in
    takes_seen (followed_by grid_part (counted_polygons version)) (IsRegionIn version) (region_lines version) (grid, (count, ps)) ps
    old new a d three makes.0 (same_lines makes.1 makes.2)
  where
    same_lines : grid_of ps ≡ grid → length ps ≡ count
        → (followed_by grid_part (counted_polygons version)).lines_of (grid, (count, ps)) ≡ region_lines version ps
    same_lines of_first number =
        ap (λ (ls : List (List ℕ)). grid_part.lines_of grid ++ (ls ++ lines_in_turn (polygon_after grid) [] ps)) (count_lines-of version count is)
        ∙ ap (λ (ls : List (List ℕ)). grid_part.lines_of grid ++ (count_lines version count ++ ls)) (polygons_lines grid ps)
        ∙ ap (λ (n : ℕ). grid_part.lines_of grid ++ (count_lines version n ++ flat_map polygon_lines ps)) (sym number)
        ∙ ap (λ (g : ℕ). grid_part.lines_of g ++ (count_lines version (length ps) ++ flat_map polygon_lines ps)) (sym of_first)

-- ---- words

abbrev pub word_due : ℕ → List (List ℕ) → Bool
word_due count words = nat_lt (length words) count

abbrev pub word_after : List (List ℕ) → Part (List ℕ)
word_after _ = line_part word_form

abbrev pub listed_so_far : ℕ → Part (List (List ℕ))
listed_so_far count = so_far (word_due count) word_after

pub word_turn_fails : (count : ℕ) (ws : List (List ℕ)) (old mid new : Reader) (a b c : Option (List ℕ)) (refusal : Option Refusal)
    → TakesPart (listed_so_far count) old mid a b ws → length ws < count → FailsPart (line_part word_form).grammar mid new b c refusal
    → FailsPart (listed_part count).grammar old new a c refusal
word_turn_fails count ws old mid new a b c refusal takes less fails =
    fails_turn (word_due count) word_after ws old mid new a b c refusal takes (lt-ltb (length ws) count less) fails

pub word_turn_taken : (count : ℕ) (ws : List (List ℕ)) (w : List ℕ) (old mid new : Reader) (a b c : Option (List ℕ))
    → TakesPart (listed_so_far count) old mid a b ws → length ws < count → TakesPart (line_part word_form) mid new b c w
    → TakesPart (listed_so_far count) old new a c (ws ++ w ∷ [])
word_turn_taken count ws w old mid new a b c takes less one =
    takes_turn (word_due count) word_after ws w old mid new a b c takes (lt-ltb (length ws) count less) one

pub all_listed : (count : ℕ) (ws : List (List ℕ)) (old new : Reader) (a b : Option (List ℕ)) → TakesPart (listed_so_far count) old new a b ws
    → length ws ≡ count → TakesPart (listed_part count) old new a b ws
all_listed count ws old new a b takes counted =
    takes_all_turns (word_due count) word_after ws old new a b takes (le-ltb (length ws) count (omega (arith, counted)))

pub listed_number : (count : ℕ) (ws : List (List ℕ)) (old new : Reader) (a b : Option (List ℕ)) → TakesPart (listed_so_far count) old new a b ws
    → new.number ≡ old.number + length ws
listed_number count ws old new a b takes =
    omega (arith, takes.taken.number, ap length (lines_of_each word_after digits_of (λ l w. refl) [] ws), length-map ws digits_of)

pub words_taken : (count : ℕ) (ws : List (List ℕ)) (old mid new : Reader) (a b c : Option (List ℕ))
    → TakesPart (named_part (codes "words") 1 MAX_WORDS) old mid a b count
    → TakesPart (listed_part count) mid new b c ws → TakesPart words_part old new a c ws
words_taken count ws old mid new a b c taken listed =
    let both = said_repeated count (line_part word_form) ws listed.says in
    let count_within = subst (λ n. (1 ≤ n) × (n ≤ MAX_WORDS)) (sym both.1) taken.says in
    takes_seen (followed_by (named_part (codes "words") 1 MAX_WORDS) listed_part) (λ ws'. words_part.Says ws') words_lines (count, ws) ws old new a c
    (takes_both (named_part (codes "words") 1 MAX_WORDS) listed_part count ws old mid new a b c taken listed) (count_within, both.0)
    (ap (λ (ls : List (List ℕ)). (named_part (codes "words") 1 MAX_WORDS).lines_of count ++ ls) (lines_of_each word_after digits_of (λ l w. refl) [] ws)
    ∙ ap (λ n. (named_part (codes "words") 1 MAX_WORDS).lines_of n ++ map digits_of ws) (sym both.1))

pub words_fail : (count : ℕ) (old mid new : Reader) (a b c : Option (List ℕ)) (refusal : Option Refusal)
    → TakesPart (named_part (codes "words") 1 MAX_WORDS) old mid a b count
    → FailsPart (listed_part count).grammar mid new b c refusal → FailsPart words_part.grammar old new a c refusal
words_fail count old mid new a b c refusal taken fails =
    fails_second (named_part (codes "words") 1 MAX_WORDS) listed_part count old mid new a b c refusal taken fails

-- ---- a header

abbrev pub first_part : FileKind → Part ℕ
first_part kind = line_part (first_form kind)

pub first_fails : (kind : FileKind) (old new : Reader) (a b : Option (List ℕ)) (refusal : Option Refusal) → old.is_done ≡ false
    → FailsPart (first_part kind).grammar old new a b refusal → FailsPart (header_part kind).grammar old new a b refusal
first_fails kind old new a b refusal reading fails = fails_first (first_part kind) after_first_line old new a b refusal reading fails

pub region_fails : (kind : FileKind) (v : ℕ) (old mid new : Reader) (a b c : Option (List ℕ)) (refusal : Option Refusal) → mid.is_done ≡ false
    → TakesPart (first_part kind) old mid a b v → FailsPart (region_part v).grammar mid new b c refusal
    → FailsPart (header_part kind).grammar old new a c refusal
region_fails kind v old mid new a b c refusal reading first fails =
    fails_second (first_part kind) after_first_line v old mid new a b c refusal first
    (fails_first (region_part v) after_region mid new b c refusal reading fails)

pub header_words_fail : (kind : FileKind) (v : ℕ) (ps : List Outline) (old mid at new : Reader) (a b c d : Option (List ℕ)) (refusal : Option Refusal)
    → at.is_done ≡ false → TakesPart (first_part kind) old mid a b v → TakesPart (region_part v) mid at b c ps
    → FailsPart words_part.grammar at new c d refusal → FailsPart (header_part kind).grammar old new a d refusal
header_words_fail kind v ps old mid at new a b c d refusal reading first region fails =
    fails_second (first_part kind) after_first_line v old mid new a b d refusal first
    (fails_second (region_part v) after_region ps mid at new b c d refusal region
    (fails_first words_part (λ _. depth_part) at new c d refusal reading fails))

pub depth_fails : (kind : FileKind) (v : ℕ) (ps : List Outline) (ws : List (List ℕ)) (old mid at last new : Reader) (a b c d e : Option (List ℕ))
    (refusal : Option Refusal) → TakesPart (first_part kind) old mid a b v → TakesPart (region_part v) mid at b c ps → TakesPart words_part at last c d ws
    → FailsPart depth_part.grammar last new d e refusal → FailsPart (header_part kind).grammar old new a e refusal
depth_fails kind v ps ws old mid at last new a b c d e refusal first region words fails =
    fails_second (first_part kind) after_first_line v old mid new a b e refusal first
    (fails_second (region_part v) after_region ps mid at new b c e refusal region
    (fails_second words_part (λ _. depth_part) ws at last new c d e refusal words fails))

pub header_taken : (kind : FileKind) (v : ℕ) (ps : List Outline) (ws : List (List ℕ)) (depth : ℕ) (old mid at last new : Reader)
    (a b c d e : Option (List ℕ)) → TakesPart (first_part kind) old mid a b v → TakesPart (region_part v) mid at b c ps → TakesPart words_part at last c d ws
    → TakesPart depth_part last new d e depth
    → TakesPart (header_part kind) old new a e (record { version = v; region = ps; words = ws; depth = depth })
header_taken kind v ps ws depth old mid at last new a b c d e first region words deep =
    let two = takes_both words_part (λ _. depth_part) ws depth at last new c d e words deep in
    let three = takes_both (region_part v) after_region ps (ws, depth) mid at new b c e region two in
    let four = takes_both (first_part kind) after_first_line v (ps, (ws, depth)) old mid new a b e first three in
    takes_seen (followed_by (first_part kind) after_first_line) IsHeading (header_lines kind) (v, (ps, (ws, depth)))
    (record { version = v; region = ps; words = ws; depth = depth })
    old new a e four
    (record { version = region.says.0; region = region.says.1; word_count = words.says.0; stable = words.says.1; depth = deep.says.1 })
    (ap (λ (ls : List (List ℕ)). first_line kind v ∷ ls) (sym (append_assoc (region_lines v ps) (words_lines ws) (depth_part.lines_of depth))))

-- ---- what the last call of a part answers

pub polygon_read : (grid count : ℕ) (cs : List (ℕ × ℕ)) (result : Result Outline HeadFault) (old mid mid' new : Reader) (a b c d : Option (List ℕ))
    → TakesPart corner_count old mid a b count → TakesPart (corners_so_far grid count) mid mid' b c cs → length cs + 1 ≡ count → IfOk result IsPolygon
    → IfOk result (λ o. (x : ℕ × ℕ) × (o ≡ record { grid = grid; corners = cs ++ x ∷ [] })
    × TakesPart (line_part (next_corner_form grid (length cs + 1) cs)) mid' new c d x)
    → IfErr result (λ fault. FailsPart (line_part (next_corner_form grid (length cs + 1) cs)).grammar mid' new c d (head_refusal fault))
    → ReadsPart (polygon_part grid) head_refusal old new a d result
polygon_read grid count cs (Ok o) old mid mid' new a b c d taken corners counted polygon last fails =
    last_taken grid count cs o old mid mid' new a b c d taken corners counted polygon last
polygon_read grid count cs (Err fault) old mid mid' new a b c d taken corners counted polygon last fails =
    let fails' = subst (λ n. FailsPart (line_part (next_corner_form grid n cs)).grammar mid' new c d (head_refusal fault)) counted fails in
    corners_fail grid count old mid new a b d (head_refusal fault) taken
    (corner_turn_fails grid count cs mid mid' new b c d (head_refusal fault) corners (omega (arith, counted)) fails')

-- what is read stops where the last corner does
pub polygon_stops : (grid count : ℕ) (cs : List (ℕ × ℕ)) (result : Result Outline HeadFault) (old mid mid' new : Reader) (a b c d : Option (List ℕ))
    → TakesPart corner_count old mid a b count → TakesPart (corners_so_far grid count) mid mid' b c cs → length cs + 1 ≡ count
    → IfOk result (λ _. StopsEarly (line_part (next_corner_form grid (length cs + 1) cs)).grammar mid' new c d)
    → IfOk result (λ _. StopsEarly (polygon_part grid).grammar old new a d)
polygon_stops grid count cs (Ok o) old mid mid' new a b c d taken corners counted stops =
    let stops' = subst (λ n. StopsEarly (line_part (next_corner_form grid n cs)).grammar mid' new c d) counted stops in
    corners_fail grid count old mid new a b d None taken (corner_turn_fails grid count cs mid mid' new b c d None corners (omega (arith, counted)) stops')
polygon_stops grid count cs (Err fault) old mid mid' new a b c d taken corners counted stops = tt

pub polygon_number-if : (grid : ℕ) (result : Result Outline HeadFault) (old new : Reader) (a b : Option (List ℕ))
    → ReadsPart (polygon_part grid) head_refusal old new a b result → IfOk result (λ _. new.number ≤ old.number + 17)
polygon_number-if grid (Ok o) old new a b reads = polygon_number grid o old new a b reads
polygon_number-if grid (Err fault) old new a b reads = tt

pub words_read : {W : Type 0} (result : Result W HeadFault) (items : W → List (List ℕ)) (count : ℕ) (old mid new : Reader) (a b c : Option (List ℕ))
    → TakesPart (named_part (codes "words") 1 MAX_WORDS) old mid a b count → IfOk result (λ w. TakesPart (listed_part count) mid new b c (items w))
    → IfOk result (λ w. TakesPart words_part old new a c (items w))
words_read (Ok w) items count old mid new a b c taken listed = words_taken count (items w) old mid new a b c taken listed
words_read (Err fault) items count old mid new a b c taken listed = tt

pub words_not_read : {W : Type 0} (result : Result W HeadFault) (count : ℕ) (old mid new : Reader) (a b c : Option (List ℕ))
    → TakesPart (named_part (codes "words") 1 MAX_WORDS) old mid a b count
    → IfErr result (λ fault. FailsPart (listed_part count).grammar mid new b c (head_refusal fault))
    → IfErr result (λ fault. FailsPart words_part.grammar old new a c (head_refusal fault))
words_not_read (Ok w) count old mid new a b c taken fails = tt
words_not_read (Err fault) count old mid new a b c taken fails = words_fail count old mid new a b c (head_refusal fault) taken fails
