use Rattle.std.proofs.Common.{◌≡◌, [], arith, subst, sym}
use Rattle.std.proofs.lemmas.Result.{err_from_is_err_and, IfOk-at_ok}
use Rattle.mcb_ends.specs.Reader.{bytes_before}
use Rattle.line_grammar.specs.Reading.{TakesPart}
use Rattle.rational_polygon.specs.declared.TheConstants.{MAX_LEVEL}
use Rattle.covering_file.specs.Header.{Heading}
use Rattle.covering_file.specs.HeaderPart.{header_part}
use Rattle.covering_file.proofs.CornerForms.{first_is_form}
use Rattle.covering_file.proofs.HeadFaults.{same_refusal}
use Rattle.covering_file.proofs.HeadLines.{depth_is_form}
use Rattle.covering_file.proofs.HeaderLengths.{header_number}
use Rattle.covering_file.proofs.HeaderParts.{first_fails, region_fails, header_words_fail, depth_fails, header_taken}
use Rattle.covering_file.proofs.Wanting.{begins_header, wants_if_err}
use Rattle.covering_file.proofs.reading.read_header.Goals as goal

pub take-requires-clause-form : goal.take-requires-clause-form
take-requires-clause-form g c = first_is_form c.args.kind

pub take-requires-2-clause-form : goal.take-requires-2-clause-form
take-requires-2-clause-form g c = depth_is_form 0 MAX_LEVEL (omega arith)

pub returns-in_err-version-clause-reads : goal.returns-in_err-version-clause-reads
returns-in_err-version-clause-reads g c =
    let left = g.S.Source.left in
    let p = err_from_is_err_and c.from_residual.result c.from_residual.ensures.1 in
    rw (p.1, p.2, same_refusal c.in_err-version.field-0.0)
    (first_fails c.args.kind c.args.lines.now c.take.new.lines (left c.args.src.now) (left c.take.new.src) _ c.requires.reading
    c.in_err-version.ensures.reads)

pub returns-in_err-region-clause-reads : goal.returns-in_err-region-clause-reads
returns-in_err-region-clause-reads g c =
    let left = g.S.Source.left in
    let p = err_from_is_err_and c.from_residual-in_err-region.result c.from_residual-in_err-region.ensures.1 in
    rw (p.1, p.2)
    (region_fails c.args.kind c.in_ok-version.version c.args.lines.now c.take.new.lines c.read_region.new.lines (left c.args.src.now)
    (left c.take.new.src) (left c.read_region.new.src) _
    c.in_ok-version.ensures.reads.taken.reading c.in_ok-version.ensures.reads c.in_err-region.ensures.reads)

pub returns-in_err-words-clause-reads : goal.returns-in_err-words-clause-reads
returns-in_err-words-clause-reads g c =
    let left = g.S.Source.left in
    let p = err_from_is_err_and c.from_residual-in_err-words.result c.from_residual-in_err-words.ensures.1 in
    rw (p.1, p.2)
    (header_words_fail c.args.kind c.in_ok-version.version c.in_ok-region.region c.args.lines.now c.take.new.lines c.read_region.new.lines
    c.read_words.new.lines (left c.args.src.now) (left c.take.new.src) (left c.read_region.new.src) (left c.read_words.new.src) _
    c.in_ok-region.ensures.reads.taken.reading c.in_ok-version.ensures.reads c.in_ok-region.ensures.reads c.in_err-words.ensures.fails)

pub returns-in_err-depth-clause-reads : goal.returns-in_err-depth-clause-reads
returns-in_err-depth-clause-reads g c =
    let left = g.S.Source.left in
    let p = err_from_is_err_and c.from_residual-in_err-depth.result c.from_residual-in_err-depth.ensures.1 in
    rw (p.1, p.2, same_refusal c.in_err-depth.field-0.0)
    (depth_fails c.args.kind c.in_ok-version.version c.in_ok-region.region c.in_ok-words.words.items c.args.lines.now c.take.new.lines
    c.read_region.new.lines c.read_words.new.lines c.take-2.new.lines
    (left c.args.src.now) (left c.take.new.src) (left c.read_region.new.src) (left c.read_words.new.src) (left c.take-2.new.src) _
    c.in_ok-version.ensures.reads c.in_ok-region.ensures.reads c.in_ok-words.ensures.words c.in_err-depth.ensures.reads)

pub returns-clause-reads : goal.returns-clause-reads
returns-clause-reads g c =
    let left = g.S.Source.left in
    let kind = c.args.kind in
    let v = c.in_ok-version.version in
    let ps = c.in_ok-region.region in
    let ws = c.in_ok-words.words.items in
    let depth = c.in_ok-depth.depth in
    let new = c.take-2.new.lines in
    let e = left c.take-2.new.src in
    let kept : c.unwrap.result ≡ record { version = v; region = ps; words = ws; depth = depth } =
    IfOk-at_ok (λ (h : Heading). h ≡ record { version = v; region = ps; words = ws; depth = depth }) c.unwrap.ensures c.new.ensures.kept in
    subst (λ (h : Heading). TakesPart (header_part kind) c.args.lines.now new (left c.args.src.now) e h) (sym kept)
    (header_taken kind v ps ws depth c.args.lines.now c.take.new.lines c.read_region.new.lines c.read_words.new.lines new
    (left c.args.src.now) (left c.take.new.src) (left c.read_region.new.src) (left c.read_words.new.src) e
    c.in_ok-version.ensures.reads c.in_ok-region.ensures.reads c.in_ok-words.ensures.words c.in_ok-depth.ensures.reads)

pub returns-in_err-region-clause-wanting : goal.returns-in_err-region-clause-wanting
returns-in_err-region-clause-wanting g c =
    let left = g.S.Source.left in
    let first = c.in_ok-version.ensures.reads in
    wants_if_err c.args.kind (bytes_before c.args.lines.now (left c.args.src.now)) c.from_residual-in_err-region.result
    (begins_header c.args.kind c.in_ok-version.version [] c.args.lines.now c.take.new.lines (left c.args.src.now) (left c.take.new.src)
    first.says first.taken)

pub returns-in_err-words-clause-wanting : goal.returns-in_err-words-clause-wanting
returns-in_err-words-clause-wanting g c =
    let left = g.S.Source.left in
    let first = c.in_ok-version.ensures.reads in
    wants_if_err c.args.kind (bytes_before c.args.lines.now (left c.args.src.now)) c.from_residual-in_err-words.result
    (begins_header c.args.kind c.in_ok-version.version [] c.args.lines.now c.take.new.lines (left c.args.src.now) (left c.take.new.src)
    first.says first.taken)

pub returns-in_err-depth-clause-wanting : goal.returns-in_err-depth-clause-wanting
returns-in_err-depth-clause-wanting g c =
    let left = g.S.Source.left in
    let first = c.in_ok-version.ensures.reads in
    wants_if_err c.args.kind (bytes_before c.args.lines.now (left c.args.src.now)) c.from_residual-in_err-depth.result
    (begins_header c.args.kind c.in_ok-version.version [] c.args.lines.now c.take.new.lines (left c.args.src.now) (left c.take.new.src)
    first.says first.taken)

pub returns-clause-few : goal.returns-clause-few
returns-clause-few g c =
    let left = g.S.Source.left in
    header_number c.args.kind c.unwrap.result c.args.lines.now c.take-2.new.lines (left c.args.src.now) (left c.take-2.new.src)
    (returns-clause-reads g c)
