-- Two headers, compared up to their last corners.
use Rattle.std.proofs.Common.{◌≡◌, ◌≢◌, inl, inr, refl, sym, ap, ◌∙◌, subst, ℕ, ◌+◌, ◌<◌, ◌^◌, List, [], ◌∷◌, ◌++◌, map, length, All}
use Rattle.std.proofs.Common.{codes, arith, slice_index_or}
use Rattle.std.specs.List.{flat_map}
use Rattle.std.proofs.lemmas.List.{get_or_default}
use Rattle.std.proofs.lemmas.List.Elements.{All-tail}
use Rattle.rational_polygon.specs.Outline.{Outline, IsPolygon}
use Rattle.rational_polygon.specs.Region.{grid_of}
use Rattle.line_grammar.specs.Text.{named_line}
use Rattle.line_grammar.proofs.Lines.{one_number}
use Rattle.covering_file.specs.declared.file_kind.FileKind.TheVariants.{Cover}
use Rattle.covering_file.specs.Header.{Heading, IsHeading, IsVersion, IsVersionFor, first_line, count_lines, region_lines, polygon_lines}
use Rattle.covering_file.proofs.HeadLines.{one_version}
use Rattle.cover_merge.specs.Rounds.{AreAlike, DifferAfter, lines_of_region}
use Rattle.cover_merge.proofs.Differing.{differ_at_once, differ_behind}

some_version : (version count : ℕ) → IsVersionFor version count → IsVersion version
some_version version count (inl one) = inl one.0
some_version version count (inr more) = inr more

-- ---- the first line, the grid, and how many polygons

pub versions_differ : (g h : Heading) → IsHeading g → g.version ≢ h.version → DifferAfter (lines_of_region g) (lines_of_region h) 0
versions_differ g h is differ =
    differ_at_once (first_line Cover g.version) (first_line Cover h.version) (region_lines g.version g.region) (region_lines h.version h.region)
    (λ same. differ (one_version Cover g.version h.version (some_version g.version (length g.region) is.version) same))

-- behind the same first line
behind_first : (g h : Heading) (k : ℕ) → g.version ≡ h.version → DifferAfter (region_lines g.version g.region) (region_lines h.version h.region) k
    → DifferAfter (lines_of_region g) (lines_of_region h) (1 + k)
behind_first g h k same d =
    subst (λ (v : ℕ). DifferAfter (lines_of_region g) (first_line Cover v ∷ region_lines h.version h.region) (1 + k)) same
    (differ_behind (first_line Cover g.version ∷ []) (region_lines g.version g.region) (region_lines h.version h.region) k d)

grid_fits : (g : Heading) → IsHeading g → grid_of g.region < 2 ^ 32
grid_fits g is =
    let first : IsPolygon (slice_index_or g.region 0 (record { grid = 0; corners = [] })) =
    is.region.polygons 0 (record { grid = 0; corners = [] }) (omega (arith, is.region.count.0)) in
    omega (arith, first.grid.1)

pub grids_differ : (g h : Heading) → IsHeading g → g.version ≡ h.version → grid_of g.region ≢ grid_of h.region
    → DifferAfter (lines_of_region g) (lines_of_region h) 1
grids_differ g h is same differ =
    behind_first g h 0 same
    (differ_at_once (named_line (codes "grid") (grid_of g.region)) (named_line (codes "grid") (grid_of h.region))
    (count_lines g.version (length g.region) ++ flat_map polygon_lines g.region)
    (count_lines h.version (length h.region) ++ flat_map polygon_lines h.region)
    (λ is_same. differ (one_number (codes "grid") (grid_of g.region) (grid_of h.region) (grid_fits g is) is_same)))

-- behind the same grid
behind_grid : (g h : Heading) (k : ℕ) → g.version ≡ h.version → grid_of g.region ≡ grid_of h.region
    → DifferAfter (count_lines g.version (length g.region) ++ flat_map polygon_lines g.region)
    (count_lines h.version (length h.region) ++ flat_map polygon_lines h.region) k
    → DifferAfter (lines_of_region g) (lines_of_region h) (1 + (1 + k))
behind_grid g h k same grid d =
    let rest = λ (e : Heading). count_lines e.version (length e.region) ++ flat_map polygon_lines e.region in
    behind_first g h (1 + k) same
    (subst (λ (n : ℕ). DifferAfter (region_lines g.version g.region) (named_line (codes "grid") n ∷ rest h) (1 + k)) grid
    (differ_behind (named_line (codes "grid") (grid_of g.region) ∷ []) (rest g) (rest h) k d))

counts_at : (version m n : ℕ) (ms ns : List (List ℕ)) → IsVersionFor version m → IsVersionFor version n → m < 2 ^ 32 → m ≢ n
    → DifferAfter (count_lines version m ++ ms) (count_lines version n ++ ns) 0
counts_at version m n ms ns (inl one) (inl other) few differ = absurd (differ (one.1 ∙ sym other.1))
counts_at version m n ms ns (inl one) (inr (inl other)) few differ = absurd (omega (arith, one.0, other))
counts_at version m n ms ns (inl one) (inr (inr other)) few differ = absurd (omega (arith, one.0, other))
counts_at version m n ms ns (inr (inl two)) for few differ =
    subst (λ (v : ℕ). DifferAfter (count_lines v m ++ ms) (count_lines v n ++ ns) 0) (sym two)
    (differ_at_once (named_line (codes "regions") m) (named_line (codes "regions") n) ms ns (λ same. differ (one_number (codes "regions") m n few same)))
counts_at version m n ms ns (inr (inr three)) for few differ =
    subst (λ (v : ℕ). DifferAfter (count_lines v m ++ ms) (count_lines v n ++ ns) 0) (sym three)
    (differ_at_once (named_line (codes "regions") m) (named_line (codes "regions") n) ms ns (λ same. differ (one_number (codes "regions") m n few same)))

pub numbers_differ : (g h : Heading) → IsHeading g → IsHeading h → g.version ≡ h.version → grid_of g.region ≡ grid_of h.region
    → length g.region ≢ length h.region → DifferAfter (lines_of_region g) (lines_of_region h) 2
numbers_differ g h is_g is_h same grid differ =
    let count = length g.region in
    let other = subst (λ (v : ℕ). IsVersionFor v (length h.region)) (sym same) is_h.version in
    let at = counts_at g.version count (length h.region) (flat_map polygon_lines g.region) (flat_map polygon_lines h.region) is_g.version other
    (omega (arith, is_g.region.count.1)) differ in
    behind_grid g h 0 same grid
    (subst (λ (v : ℕ). DifferAfter (count_lines g.version count ++ flat_map polygon_lines g.region)
    (count_lines v (length h.region) ++ flat_map polygon_lines h.region) 0) same at)

-- ---- the polygons

pub region_differs : (g h : Heading) (before k : ℕ) → g.version ≡ h.version → grid_of g.region ≡ grid_of h.region → length g.region ≡ length h.region
    → before ≡ 2 + length (count_lines g.version (length g.region))
    → DifferAfter (flat_map polygon_lines g.region) (flat_map polygon_lines h.region) k → DifferAfter (lines_of_region g) (lines_of_region h) (before + k)
region_differs g h before k same grid count is d =
    let counts = count_lines g.version (length g.region) in
    let behind = differ_behind counts (flat_map polygon_lines g.region) (flat_map polygon_lines h.region) k d in
    let as_other = subst (λ (v : ℕ). DifferAfter (counts ++ flat_map polygon_lines g.region)
    (count_lines v (length h.region) ++ flat_map polygon_lines h.region) (length counts + k)) same
    (subst (λ (n : ℕ). DifferAfter (counts ++ flat_map polygon_lines g.region)
    (count_lines g.version n ++ flat_map polygon_lines h.region) (length counts + k)) count behind) in
    let place : 1 + (1 + (length counts + k)) ≡ before + k = omega (arith, is) in
    subst (DifferAfter (lines_of_region g) (lines_of_region h)) place (behind_grid g h (length counts + k) same grid as_other)

-- outlines on one grid with the same corners are the same
same_outlines : (grid : ℕ) (os ps : List Outline) → All (λ (o : Outline). o.grid ≡ grid) os → All (λ (o : Outline). o.grid ≡ grid) ps
    → map (λ (o : Outline). o.corners) os ≡ map (λ (o : Outline). o.corners) ps → os ≡ ps
same_outlines grid [] [] on_os on_ps same = refl
same_outlines grid [] (p ∷ ps) on_os on_ps same = cc
same_outlines grid (o ∷ os) [] on_os on_ps same = cc
same_outlines grid (o ∷ os) (p ∷ ps) on_os on_ps same =
    let first : o.grid ≡ p.grid = on_os 0 o (omega arith) ∙ sym (on_ps 0 p (omega arith)) in
    let corners : o.corners ≡ p.corners = cc in
    let rest : map (λ (q : Outline). q.corners) os ≡ map (λ (q : Outline). q.corners) ps = cc in
    let here : o ≡ p =
    ap (λ (n : ℕ). let q : Outline = record { grid = n; corners = o.corners } in q) first
    ∙ ap (λ (cs : List (ℕ × ℕ)). let q : Outline = record { grid = p.grid; corners = cs } in q) corners in
    ap (λ (q : Outline). q ∷ os) here
    ∙ ap (λ (qs : List Outline). p ∷ qs)
    (same_outlines grid os ps (All-tail (λ (q : Outline). q.grid ≡ grid) o os on_os) (All-tail (λ (q : Outline). q.grid ≡ grid) p ps on_ps) rest)

pub all_alike : (g h : Heading) → IsHeading g → IsHeading h → g.version ≡ h.version → grid_of g.region ≡ grid_of h.region
    → map (λ (o : Outline). o.corners) g.region ≡ map (λ (o : Outline). o.corners) h.region → AreAlike g h
all_alike g h is_g is_h same grid corners = record {
  version = same;
  region = same_outlines (grid_of g.region) g.region h.region is_g.region.one_grid
      (subst (λ (n : ℕ). All (λ (o : Outline). o.grid ≡ n) h.region) (sym grid) is_h.region.one_grid) corners;
}

-- ---- as the comparison has it

-- the grid of the first polygon
pub grid_at : (g : Heading) (polygons : List Outline) (first : Outline) (grid : ℕ) → IsHeading g → polygons ≡ g.region
    → first ≡ slice_index_or polygons 0 first → grid ≡ first.grid → grid ≡ grid_of g.region
grid_at g polygons first grid is are at value =
    let within : 0 < length polygons = omega (arith, ap length are, is.region.count.0) in
    value ∙ ap (λ (o : Outline). o.grid) (at ∙ get_or_default polygons 0 first (record { grid = 0; corners = [] }) within) ∙ ap grid_of are

-- the same region in other words: as the comparison has both
pub record AreRead (g h : Heading) (polygons others : List Outline) : Type 0 where
  pub first : IsHeading g
  pub second : IsHeading h
  pub version : g.version ≡ h.version
  pub grid : grid_of g.region ≡ grid_of h.region
  pub polygons_are : polygons ≡ g.region
  pub others_are : others ≡ h.region

pub read_number : (g h : Heading) (polygons others : List Outline) → AreRead g h polygons others → length polygons ≢ length others
    → DifferAfter (lines_of_region g) (lines_of_region h) 2
read_number g h polygons others are differ =
    numbers_differ g h are.first are.second are.version are.grid
    (λ same. differ (ap length are.polygons_are ∙ same ∙ sym (ap length are.others_are)))

pub read_differs : (g h : Heading) (polygons others : List Outline) (before k : ℕ) → AreRead g h polygons others → length polygons ≡ length others
    → ((count : ℕ) → before ≡ 2 + length (count_lines g.version count))
    → DifferAfter (flat_map polygon_lines polygons) (flat_map polygon_lines others) k → DifferAfter (lines_of_region g) (lines_of_region h) (before + k)
read_differs g h polygons others before k are count is d =
    region_differs g h before k are.version are.grid (sym (ap length are.polygons_are) ∙ count ∙ ap length are.others_are) (is (length g.region))
    (subst (λ (os : List Outline). DifferAfter (flat_map polygon_lines os) (flat_map polygon_lines h.region) k) are.polygons_are
    (subst (λ (ps : List Outline). DifferAfter (flat_map polygon_lines polygons) (flat_map polygon_lines ps) k) are.others_are d))

pub read_alike : (g h : Heading) (polygons others : List Outline) → AreRead g h polygons others
    → map (λ (o : Outline). o.corners) polygons ≡ map (λ (o : Outline). o.corners) others → AreAlike g h
read_alike g h polygons others are same =
    let corners = λ (os : List Outline). map (λ (o : Outline). o.corners) os in
    all_alike g h are.first are.second are.version are.grid (sym (ap corners are.polygons_are) ∙ same ∙ ap corners are.others_are)
