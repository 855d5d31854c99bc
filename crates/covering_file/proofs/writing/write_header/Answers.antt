use Rattle.std.proofs.Common.{ℕ, List, ◌++◌, codes, subst, sym}
use Rattle.rational_polygon.specs.Outline.{Outline}
use Rattle.std.specs.Io.KnownBytes.{Appends}
use Rattle.mcb_ends.specs.Bytes.{AppendsPrefix, Writes}
use Rattle.mcb_ends.proofs.Written.{AppendsPrefix-begun, AppendsPrefix-then, Writes-then, Writes-failed}
use Rattle.line_grammar.specs.Text.{named_line}
use Rattle.covering_file.specs.Header.{first_line, region_lines, words_lines, header_text}
use Rattle.line_grammar.specs.Text.{text_of, with_newline}
use Rattle.covering_file.proofs.Texts.{header_text-parts}
use Rattle.covering_file.proofs.writing.write_header.Goals as goal

pub returns-in_err-write_region-clause-text : goal.returns-in_err-write_region-clause-text
returns-in_err-write_region-clause-text g c =
    let k = g.K.Sink in
    let h = c.args.header.now in
    let old = k.written c.args.out.now in
    let head = k.written c.write_first.new.out in
    let new = k.written c.write_region.new.out in
    let result = c.from_residual-in_err-write_region.result in
    let first = with_newline (first_line c.args.kind h.version) in
    let wrote = subst (λ (v : ℕ). Appends old head (with_newline (first_line c.args.kind v))) c.version-version.ensures.value
    c.in_ok-write_first.ensures.text in
    let region = text_of (region_lines h.version h.region) in
    let behind = text_of (words_lines h.words) ++ with_newline (named_line (codes "depth") h.depth) in
    let begun = subst (λ (v : ℕ). AppendsPrefix head new (text_of (region_lines v h.region))) c.version-version.ensures.value
    (subst (λ (r : List Outline). AppendsPrefix head new (text_of (region_lines c.version-version.result r))) c.region.ensures.value
    c.in_err-write_region.ensures.text) in
    let whole = AppendsPrefix-then old head new first (region ++ behind) wrote
    (AppendsPrefix-begun head new region behind begun) in
    Writes-failed old new result (header_text c.args.kind h) c.from_residual-in_err-write_region.ensures.0
    (subst (λ (text : List ℕ). AppendsPrefix old new text) (sym (header_text-parts c.args.kind h)) whole)

pub returns-in_err-write_words-clause-text : goal.returns-in_err-write_words-clause-text
returns-in_err-write_words-clause-text g c =
    let k = g.K.Sink in
    let h = c.args.header.now in
    let old = k.written c.args.out.now in
    let head = k.written c.write_first.new.out in
    let body = k.written c.write_region.new.out in
    let new = k.written c.write_words.new.out in
    let result = c.from_residual-in_err-write_words.result in
    let first = with_newline (first_line c.args.kind h.version) in
    let wrote = subst (λ (v : ℕ). Appends old head (with_newline (first_line c.args.kind v))) c.version-version.ensures.value
    c.in_ok-write_first.ensures.text in
    let region = text_of (region_lines h.version h.region) in
    let words = text_of (words_lines h.words) in
    let depth = with_newline (named_line (codes "depth") h.depth) in
    let told = subst (λ (v : ℕ). Appends head body (text_of (region_lines v h.region))) c.version-version.ensures.value
    (subst (λ (r : List Outline). Appends head body (text_of (region_lines c.version-version.result r))) c.region.ensures.value
    c.in_ok-write_region.ensures.text) in
    let begun = subst (λ (ws : List (List ℕ)). AppendsPrefix body new (text_of (words_lines ws))) c.words.ensures.all c.in_err-write_words.ensures.text in
    let behind = AppendsPrefix-then head body new region (words ++ depth) told (AppendsPrefix-begun body new words depth begun) in
    let whole = AppendsPrefix-then old head new first (region ++ (words ++ depth)) wrote behind in
    Writes-failed old new result (header_text c.args.kind h) c.from_residual-in_err-write_words.ensures.0
    (subst (λ (text : List ℕ). AppendsPrefix old new text) (sym (header_text-parts c.args.kind h)) whole)

pub returns-clause-text : goal.returns-clause-text
returns-clause-text g c =
    let k = g.K.Sink in
    let h = c.args.header.now in
    let old = k.written c.args.out.now in
    let head = k.written c.write_first.new.out in
    let body = k.written c.write_region.new.out in
    let tail = k.written c.write_words.new.out in
    let new = k.written c.write_named.new.out in
    let result = c.write_named.result in
    let first = with_newline (first_line c.args.kind h.version) in
    let wrote = subst (λ (v : ℕ). Appends old head (with_newline (first_line c.args.kind v))) c.version-version.ensures.value
    c.in_ok-write_first.ensures.text in
    let region = text_of (region_lines h.version h.region) in
    let words = text_of (words_lines h.words) in
    let depth = with_newline (named_line (codes "depth") h.depth) in
    let told = subst (λ (v : ℕ). Appends head body (text_of (region_lines v h.region))) c.version-version.ensures.value
    (subst (λ (r : List Outline). Appends head body (text_of (region_lines c.version-version.result r))) c.region.ensures.value
    c.in_ok-write_region.ensures.text) in
    let listed = subst (λ (ws : List (List ℕ)). Appends body tail (text_of (words_lines ws))) c.words.ensures.all c.in_ok-write_words.ensures.text in
    let last = subst (λ (n : ℕ). Writes tail new result (with_newline (named_line (codes "depth") n))) c.depth.ensures.value c.write_named.ensures.text in
    let behind = Writes-then head body new result region (words ++ depth) told (Writes-then body tail new result words depth listed last) in
    let whole = Writes-then old head new result first (region ++ (words ++ depth)) wrote behind in
    subst (λ (text : List ℕ). Writes old new result text) (sym (header_text-parts c.args.kind h)) whole
