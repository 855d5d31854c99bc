-- The version, the grid, how many polygons there are, or a polygon.
use Rattle.std.proofs.Common.{◌≡◌, ap, sym, ◌∙◌, ℕ, ◌+◌, length}
use Rattle.covering_file.specs.Header.{count_lines}
use Rattle.cover_merge.proofs.Alike.{AreRead, versions_differ, grids_differ, read_number, read_differs, read_alike, grid_at}
use Rattle.cover_merge.proofs.regions.first_other_line.Goals as goal

pub returns-then-version-clause-found : goal.returns-then-version-clause-found
returns-then-version-clause-found c =
    versions_differ c.args.first.now c.args.second.now c.version.ensures.is_heading
    (λ same. c.if-version.true (c.version.ensures.value ∙ same ∙ sym c.version-2.ensures.value))

pub returns-then-grid-clause-found : goal.returns-then-grid-clause-found
returns-then-grid-clause-found c =
    let g = c.args.first.now in
    let h = c.args.second.now in
    let first = grid_at g c.polygons-polygons.result.now c.index-polygons-0.result c.grid.result c.version.ensures.is_heading
    (c.polygons-polygons.ensures.all ∙ c.region.ensures.value) c.index-polygons-0.is c.grid.ensures.value in
    let second = grid_at h c.polygons-others.result.now c.index-others-0.result c.grid-2.result c.version-2.ensures.is_heading
    (c.polygons-others.ensures.all ∙ c.region-2.ensures.value) c.index-others-0.is c.grid-2.ensures.value in
    grids_differ g h c.version.ensures.is_heading (sym c.version.ensures.value ∙ c.if-version.false ∙ c.version-2.ensures.value)
    (λ same. c.if-grid.true (first ∙ same ∙ sym second))

pub returns-then-polygons-others-clause-found : goal.returns-then-polygons-others-clause-found
returns-then-polygons-others-clause-found c =
    let g = c.args.first.now in
    let h = c.args.second.now in
    let first = grid_at g c.polygons-polygons.result.now c.index-polygons-0.result c.grid.result c.version.ensures.is_heading
    (c.polygons-polygons.ensures.all ∙ c.region.ensures.value) c.index-polygons-0.is c.grid.ensures.value in
    let second = grid_at h c.polygons-others.result.now c.index-others-0.result c.grid-2.result c.version-2.ensures.is_heading
    (c.polygons-others.ensures.all ∙ c.region-2.ensures.value) c.index-others-0.is c.grid-2.ensures.value in
    let are : AreRead g h c.polygons-polygons.result.now c.polygons-others.result.now = record {
      first = c.version.ensures.is_heading;
      second = c.version-2.ensures.is_heading;
      version = sym c.version.ensures.value ∙ c.if-version.false ∙ c.version-2.ensures.value;
      grid = sym first ∙ c.if-grid.false ∙ second;
      polygons_are = c.polygons-polygons.ensures.all ∙ c.region.ensures.value;
      others_are = c.polygons-others.ensures.all ∙ c.region-2.ensures.value;
    } in
    read_number g h c.polygons-polygons.result.now c.polygons-others.result.now are c.if-polygons-others.true

pub returns-in_err-same-clause-found : goal.returns-in_err-same-clause-found
returns-in_err-same-clause-found c =
    let g = c.args.first.now in
    let h = c.args.second.now in
    let first = grid_at g c.polygons-polygons.result.now c.index-polygons-0.result c.grid.result c.version.ensures.is_heading
    (c.polygons-polygons.ensures.all ∙ c.region.ensures.value) c.index-polygons-0.is c.grid.ensures.value in
    let second = grid_at h c.polygons-others.result.now c.index-others-0.result c.grid-2.result c.version-2.ensures.is_heading
    (c.polygons-others.ensures.all ∙ c.region-2.ensures.value) c.index-others-0.is c.grid-2.ensures.value in
    let are : AreRead g h c.polygons-polygons.result.now c.polygons-others.result.now = record {
      first = c.version.ensures.is_heading;
      second = c.version-2.ensures.is_heading;
      version = sym c.version.ensures.value ∙ c.if-version.false ∙ c.version-2.ensures.value;
      grid = sym first ∙ c.if-grid.false ∙ second;
      polygons_are = c.polygons-polygons.ensures.all ∙ c.region.ensures.value;
      others_are = c.polygons-others.ensures.all ∙ c.region-2.ensures.value;
    } in
    rw c.from_residual.ensures (read_alike g h c.polygons-polygons.result.now c.polygons-others.result.now are c.in_err-same.ensures.found)

pub returns-clause-found : goal.returns-clause-found
returns-clause-found c =
    let g = c.args.first.now in
    let h = c.args.second.now in
    let first = grid_at g c.polygons-polygons.result.now c.index-polygons-0.result c.grid.result c.version.ensures.is_heading
    (c.polygons-polygons.ensures.all ∙ c.region.ensures.value) c.index-polygons-0.is c.grid.ensures.value in
    let second = grid_at h c.polygons-others.result.now c.index-others-0.result c.grid-2.result c.version-2.ensures.is_heading
    (c.polygons-others.ensures.all ∙ c.region-2.ensures.value) c.index-others-0.is c.grid-2.ensures.value in
    let are : AreRead g h c.polygons-polygons.result.now c.polygons-others.result.now = record {
      first = c.version.ensures.is_heading;
      second = c.version-2.ensures.is_heading;
      version = sym c.version.ensures.value ∙ c.if-version.false ∙ c.version-2.ensures.value;
      grid = sym first ∙ c.if-grid.false ∙ second;
      polygons_are = c.polygons-polygons.ensures.all ∙ c.region.ensures.value;
      others_are = c.polygons-others.ensures.all ∙ c.region-2.ensures.value;
    } in
    let before : (count : ℕ) → c.lines_before_polygons.result ≡ 2 + length (count_lines g.version count) =
    λ count. c.lines_before_polygons.ensures.value count ∙ ap (λ (v : ℕ). 2 + length (count_lines v count)) c.version-3.ensures.value in
    read_differs g h c.polygons-polygons.result.now c.polygons-others.result.now c.lines_before_polygons.result c.in_ok-same.same are
    c.if-polygons-others.false before c.in_ok-same.ensures.found
