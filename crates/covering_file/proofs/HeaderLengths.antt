-- How many lines a header has at most.
use Rattle.std.proofs.Common.{inl, inr, ℕ, ◌+◌, ◌*◌, ◌≤◌, List, [], ◌∷◌, ◌++◌, All, length, Option, sym, subst, arith, length-append}
use Rattle.std.specs.List.{flat_map}
use Rattle.std.proofs.lemmas.List.{length-map}
use Rattle.std.proofs.lemmas.List.Elements.{All-tail}
use Rattle.edge_words.specs.Reading.{digits_of}
use Rattle.rational_polygon.specs.Outline.{Outline, IsPolygon}
use Rattle.covering_file.specs.declared.file_kind.FileKind.{FileKind}
use Rattle.covering_file.specs.Header.{Heading, IsHeading, IsVersionFor, corner_line, polygon_lines, count_lines, region_lines, words_lines, header_lines}
use Rattle.covering_file.specs.HeaderPart.{depth_part, header_part}
use Rattle.mcb_ends.specs.Reader.{Reader}
use Rattle.line_grammar.specs.Reading.{TakesPart}

polygons_length : (ps : List Outline) → All IsPolygon ps → length (flat_map polygon_lines ps) ≤ 17 * length ps
polygons_length [] all = omega arith
polygons_length (p ∷ ps) all =
    let here : IsPolygon p = all 0 p (omega arith) in
    omega (
      arith,
      length-append (polygon_lines p) (flat_map polygon_lines ps),
      length-map p.corners corner_line,
      here.count.1,
      polygons_length ps (All-tail IsPolygon p ps all),
    )

count_length : (version count : ℕ) → IsVersionFor version count → length (count_lines version count) ≤ 1
count_length version count (inl is) = subst (λ (v : ℕ). length (count_lines v count) ≤ 1) (sym is.0) (omega arith)
count_length version count (inr (inl is)) = subst (λ (v : ℕ). length (count_lines v count) ≤ 1) (sym is) (omega arith)
count_length version count (inr (inr is)) = subst (λ (v : ℕ). length (count_lines v count) ≤ 1) (sym is) (omega arith)

pub header_length : (kind : FileKind) (h : Heading) → IsHeading h → length (header_lines kind h) ≤ 173
header_length kind h is =
    let region = region_lines h.version h.region in
    let words = words_lines h.words in
    let depth = depth_part.lines_of h.depth in
    let polygons = flat_map polygon_lines h.region in
    omega (
      arith,
      length-append region (words ++ depth),
      length-append (region ++ words) depth,
      length-append region words,
      length-append words depth,
      length-append (count_lines h.version (length h.region)) polygons,
      count_length h.version (length h.region) is.version,
      polygons_length h.region is.region.polygons,
      is.region.count.1,
      length-map h.words digits_of,
      is.word_count.1,
    )

pub header_number : (kind : FileKind) (h : Heading) (old new : Reader) (a b : Option (List ℕ)) → TakesPart (header_part kind) old new a b h
    → new.number ≤ old.number + 173
header_number kind h old new a b takes = omega (arith, takes.taken.number, header_length kind h takes.says)
