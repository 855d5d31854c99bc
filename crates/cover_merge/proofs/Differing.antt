-- The first line in which two texts differ.
use Rattle.std.proofs.Common.{◌≡◌, ◌≢◌, refl, sym, ap, ◌∙◌, subst, ℕ, zero, suc, ◌+◌, ◌<◌, ◌≤◌, List, [], ◌∷◌, ◌++◌, map, length, All, codes, arith}
use Rattle.std.proofs.Common.{append_assoc, length-append, get_or, take, Bool, true, false, not, ◌&&◌, nat_eq}
use Rattle.std.specs.List.{flat_map}
use Rattle.std.proofs.lemmas.Bool.{eqb-false}
use Rattle.std.proofs.lemmas.List.Elements.{All-tail}
use Rattle.rational_polygon.specs.declared.TheConstants.{MAX_GRID}
use Rattle.rational_polygon.specs.Outline.{Outline, IsPolygon, IsInside}
use Rattle.line_grammar.specs.Text.{named_line}
use Rattle.line_grammar.proofs.Lines.{one_number}
use Rattle.covering_file.specs.Header.{corner_line, polygon_lines}
use Rattle.covering_file.proofs.HeadLines.{one_corner}
use Rattle.cover_merge.specs.Rounds.{DifferAfter}

-- at the first line
pub differ_at_once : (x y : List ℕ) (xs ys : List (List ℕ)) → x ≢ y → DifferAfter (x ∷ xs) (y ∷ ys) 0
differ_at_once x y xs ys differ = record {
  same = [];
  line = x;
  other = y;
  lines_after = xs;
  others_after = ys;
  lines_are = refl;
  others_are = refl;
  number = refl;
  differ = differ;
}

-- behind lines that are the same
pub differ_behind : (before xs ys : List (List ℕ)) (k : ℕ) → DifferAfter xs ys k → DifferAfter (before ++ xs) (before ++ ys) (length before + k)
differ_behind before xs ys k d = record {
  same = before ++ d.same;
  line = d.line;
  other = d.other;
  lines_after = d.lines_after;
  others_after = d.others_after;
  lines_are = ap (λ (ls : List (List ℕ)). before ++ ls) d.lines_are ∙ sym (append_assoc before d.same (d.line ∷ d.lines_after));
  others_are = ap (λ (ls : List (List ℕ)). before ++ ls) d.others_are ∙ sym (append_assoc before d.same (d.other ∷ d.others_after));
  number = omega (arith, d.number, length-append before d.same);
  differ = d.differ;
}

one_more : (line : List ℕ) (xs ys : List (List ℕ)) (k : ℕ) → DifferAfter xs ys k → DifferAfter (line ∷ xs) (line ∷ ys) (suc k)
one_more line xs ys k d =
    let place : length (line ∷ []) + k ≡ suc k = omega arith in
    subst (DifferAfter (line ∷ xs) (line ∷ ys)) place (differ_behind (line ∷ []) xs ys k d)

-- and before any lines
pub differ_before : (xs ys more others : List (List ℕ)) (k : ℕ) → DifferAfter xs ys k → DifferAfter (xs ++ more) (ys ++ others) k
differ_before xs ys more others k d = record {
  same = d.same;
  line = d.line;
  other = d.other;
  lines_after = d.lines_after ++ more;
  others_after = d.others_after ++ others;
  lines_are = ap (λ (ls : List (List ℕ)). ls ++ more) d.lines_are ∙ append_assoc d.same (d.line ∷ d.lines_after) more;
  others_are = ap (λ (ls : List (List ℕ)). ls ++ others) d.others_are ∙ append_assoc d.same (d.other ∷ d.others_after) others;
  number = d.number;
  differ = d.differ;
}

-- ---- corners

-- up to place k two lists have the same corners
abbrev pub SameCorners : List (ℕ × ℕ) → List (ℕ × ℕ) → ℕ → Type 0
SameCorners cs ds k = (j : ℕ) (c : ℕ × ℕ) → j < k → get_or cs j c ≡ get_or ds j c

pub corners_differ : (grid : ℕ) (cs ds : List (ℕ × ℕ)) (k : ℕ) (c : ℕ × ℕ) → grid ≤ MAX_GRID → All (IsInside grid) cs → k < length cs → k < length ds
    → SameCorners cs ds k → get_or cs k c ≢ get_or ds k c → DifferAfter (map corner_line cs) (map corner_line ds) k
corners_differ grid [] ds k c small inside in_cs in_ds same differ = absurd (omega (arith, in_cs))
corners_differ grid (a ∷ cs) [] k c small inside in_cs in_ds same differ = absurd (omega (arith, in_ds))
corners_differ grid (a ∷ cs) (b ∷ ds) zero c small inside in_cs in_ds same differ =
    let here : IsInside grid a = inside 0 a (omega arith) in
    differ_at_once (corner_line a) (corner_line b) (map corner_line cs) (map corner_line ds)
    (λ is. differ (one_corner a b (omega (arith, here.sum, small)) (omega (arith, here.sum, small)) is))
corners_differ grid (a ∷ cs) (b ∷ ds) (suc k) c small inside in_cs in_ds same differ =
    let first : a ≡ b = same 0 a (omega arith) in
    subst (λ (e : ℕ × ℕ). DifferAfter (corner_line a ∷ map corner_line cs) (corner_line e ∷ map corner_line ds) (suc k)) first
    (one_more (corner_line a) (map corner_line cs) (map corner_line ds) k
    (corners_differ grid cs ds k c small (All-tail (IsInside grid) a cs inside) (omega (arith, in_cs)) (omega (arith, in_ds))
    (λ j e below. same (suc j) e (omega (arith, below))) differ))

pub same_to_the_end : (cs ds : List (ℕ × ℕ)) → length cs ≡ length ds → SameCorners cs ds (length cs) → cs ≡ ds
same_to_the_end [] [] count same = refl
same_to_the_end [] (d ∷ ds) count same = absurd (omega (arith, count))
same_to_the_end (c ∷ cs) [] count same = absurd (omega (arith, count))
same_to_the_end (c ∷ cs) (d ∷ ds) count same =
    ap (λ (x : ℕ × ℕ). x ∷ cs) (same 0 c (omega arith))
    ∙ ap (λ (xs : List (ℕ × ℕ)). d ∷ xs) (same_to_the_end cs ds (omega (arith, count)) (λ j e below. same (suc j) e (omega (arith, below))))

other_pair : (x y : ℕ × ℕ) (p q : Bool) → nat_eq x.0 y.0 ≡ p → nat_eq x.1 y.1 ≡ q → not (p && q) ≡ true → x ≢ y
other_pair x y true true first second differs same = cc
other_pair x y true false first second differs same = eqb-false x.1 y.1 second (ap (λ (z : ℕ × ℕ). z.1) same)
other_pair x y false q first second differs same = eqb-false x.0 y.0 first (ap (λ (z : ℕ × ℕ). z.0) same)

-- as the comparison has it
pub pair_differs : (x y : ℕ × ℕ) (differ : Bool) → differ ≡ not (nat_eq x.0 y.0 && nat_eq x.1 y.1) → differ ≡ true → x ≢ y
pair_differs x y differ is differs = other_pair x y (nat_eq x.0 y.0) (nat_eq x.1 y.1) refl refl (sym is ∙ differs)

-- ---- polygons

pub counts_differ : (o p : Outline) (cs ds : List (ℕ × ℕ)) → cs ≡ o.corners → ds ≡ p.corners → IsPolygon o → length cs ≢ length ds
    → DifferAfter (polygon_lines o) (polygon_lines p) 0
counts_differ o p cs ds of_o of_p is differ =
    differ_at_once (named_line (codes "polygon") (length o.corners)) (named_line (codes "polygon") (length p.corners)) (map corner_line o.corners)
    (map corner_line p.corners)
    (λ same. differ (ap length of_o ∙ one_number (codes "polygon") (length o.corners) (length p.corners) (omega (arith, is.count.1)) same
    ∙ sym (ap length of_p)))

pub polygon_differs : (o p : Outline) (cs ds : List (ℕ × ℕ)) (k : ℕ) (c : ℕ × ℕ) → cs ≡ o.corners → ds ≡ p.corners → IsPolygon o
    → length cs ≡ length ds → k < length cs → SameCorners cs ds k → get_or cs k c ≢ get_or ds k c
    → DifferAfter (polygon_lines o) (polygon_lines p) (k + 1)
polygon_differs o p cs ds k c of_o of_p is count within same differ =
    let inside = subst (All (IsInside o.grid)) (sym of_o) is.inside in
    let corners = corners_differ o.grid cs ds k c is.grid.1 inside within (omega (arith, within, count)) same differ in
    let first = named_line (codes "polygon") (length cs) in
    let place : suc k ≡ k + 1 = omega arith in
    let behind = subst (DifferAfter (first ∷ map corner_line cs) (first ∷ map corner_line ds)) place
    (one_more first (map corner_line cs) (map corner_line ds) k corners) in
    let lines = λ (es : List (ℕ × ℕ)). named_line (codes "polygon") (length es) ∷ map corner_line es in
    let other : first ∷ map corner_line ds ≡ lines ds = ap (λ (n : ℕ). named_line (codes "polygon") n ∷ map corner_line ds) count in
    subst (λ (es : List (ℕ × ℕ)). DifferAfter (lines es) (polygon_lines p) (k + 1)) of_o
    (subst (λ (es : List (ℕ × ℕ)). DifferAfter (lines cs) (lines es) (k + 1)) of_p
    (subst (λ (ls : List (List ℕ)). DifferAfter (lines cs) ls (k + 1)) other behind))

pub same_polygon : (o p : Outline) (cs ds : List (ℕ × ℕ)) (k : ℕ) → cs ≡ o.corners → ds ≡ p.corners → length cs ≡ length ds → length cs ≤ k
    → SameCorners cs ds k → o.corners ≡ p.corners
same_polygon o p cs ds k of_o of_p count past same =
    sym of_o ∙ same_to_the_end cs ds count (λ j c less. same j c (omega (arith, less, past))) ∙ of_p

-- ---- polygons one after another

-- up to place k two lists of polygons have the same corners
abbrev pub SamePolygons : List Outline → List Outline → ℕ → Type 0
SamePolygons os ps k = (j : ℕ) (o : Outline) → j < k → (get_or os j o).corners ≡ (get_or ps j o).corners

pub polygons_differ : (os ps : List Outline) (k same : ℕ) (o p : Outline) → k < length os → k < length ps → SamePolygons os ps k
    → DifferAfter (polygon_lines (get_or os k o)) (polygon_lines (get_or ps k p)) same
    → DifferAfter (flat_map polygon_lines os) (flat_map polygon_lines ps) (length (flat_map polygon_lines (take k os)) + same)
polygons_differ [] ps k same o p in_os in_ps alike differ = absurd (omega (arith, in_os))
polygons_differ (a ∷ os) [] k same o p in_os in_ps alike differ = absurd (omega (arith, in_ps))
polygons_differ (a ∷ os) (b ∷ ps) zero same o p in_os in_ps alike differ =
    let place : same ≡ length (flat_map polygon_lines (take zero (a ∷ os))) + same = omega arith in
    subst (DifferAfter (flat_map polygon_lines (a ∷ os)) (flat_map polygon_lines (b ∷ ps))) place
    (differ_before (polygon_lines a) (polygon_lines b) (flat_map polygon_lines os) (flat_map polygon_lines ps) same differ)
polygons_differ (a ∷ os) (b ∷ ps) (suc k) same o p in_os in_ps alike differ =
    let first : a.corners ≡ b.corners = alike 0 a (omega arith) in
    let lines = λ (cs : List (ℕ × ℕ)). named_line (codes "polygon") (length cs) ∷ map corner_line cs in
    let rest = polygons_differ os ps k same o p (omega (arith, in_os)) (omega (arith, in_ps)) (λ j c less. alike (suc j) c (omega (arith, less))) differ in
    let place : length (polygon_lines a) + (length (flat_map polygon_lines (take k os)) + same)
    ≡ length (flat_map polygon_lines (take (suc k) (a ∷ os))) + same =
    omega (arith, length-append (polygon_lines a) (flat_map polygon_lines (take k os))) in
    subst (DifferAfter (flat_map polygon_lines (a ∷ os)) (flat_map polygon_lines (b ∷ ps))) place
    (subst (λ (cs : List (ℕ × ℕ)). DifferAfter (flat_map polygon_lines (a ∷ os)) (lines cs ++ flat_map polygon_lines ps)
    (length (polygon_lines a) + (length (flat_map polygon_lines (take k os)) + same))) first
    (differ_behind (polygon_lines a) (flat_map polygon_lines os) (flat_map polygon_lines ps)
    (length (flat_map polygon_lines (take k os)) + same) rest))

pub same_polygons : (os ps : List Outline) (k : ℕ) → length os ≡ length ps → length os ≤ k → SamePolygons os ps k
    → map (λ (o : Outline). o.corners) os ≡ map (λ (o : Outline). o.corners) ps
same_polygons [] [] k count past alike = refl
same_polygons [] (p ∷ ps) k count past alike = absurd (omega (arith, count))
same_polygons (o ∷ os) [] k count past alike = absurd (omega (arith, count))
same_polygons (o ∷ os) (p ∷ ps) zero count past alike = absurd (omega (arith, past))
same_polygons (o ∷ os) (p ∷ ps) (suc k) count past alike =
    let corners = λ (x : Outline). x.corners in
    ap (λ (cs : List (ℕ × ℕ)). cs ∷ map corners os) (alike 0 o (omega arith))
    ∙ ap (λ (css : List (List (ℕ × ℕ))). p.corners ∷ css)
    (same_polygons os ps k (omega (arith, count)) (omega (arith, past)) (λ j c less. alike (suc j) c (omega (arith, less))))
