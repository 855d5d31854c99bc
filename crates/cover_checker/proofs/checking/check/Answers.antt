-- A fault in the header, or the verdict after it, is one of the whole file.
use Rattle.std.proofs.Common.{ap, None, Some}
use Rattle.line_grammar.specs.Input.{IsNew}
use Rattle.covering_file.specs.declared.file_kind.FileKind.TheVariants.{Cover}
use Rattle.covering_file.specs.Faults.{head_refusal}
use Rattle.covering_file.specs.HeaderPart.{header_part}
use Rattle.cover_checker.specs.declared.verdict.CheckFault.TheVariants.{Read, Memory}
use Rattle.cover_checker.specs.declared.verdict.Verdict.TheVariants.{Refused}
use Rattle.cover_checker.proofs.RightVerdicts.{refused_right, refused_stops, failed_stops, header_fails, header_stops, header_begins, tree_fails}
use Rattle.cover_checker.proofs.RightVerdicts.{right_for_all, stops_for_all, right_covers, sure_is_accepted, is_refused, is_failed}
use Rattle.cover_checker.proofs.checking.check.Goals as goal

pub returns-in-Err-Line-clause-right : goal.returns-in-Err-Line-clause-right
returns-in-Err-Line-clause-right g c =
    let left = g.S.Source.left in
    let fresh : IsNew c.new-lines.result = record { held = c.new-lines.ensures.held; done = c.new-lines.ensures.done; number = c.new-lines.ensures.number } in
    let refused = is_refused (header_part Cover).grammar c.new-lines.result c.read_header.new.lines (left c.args.src.now)
    (left c.read_header.new.src) _ c.in-Err-Line.line c.in-Err-Line.reason
    (ap head_refusal c.in-Err-Line.field-0-is) c.in-Err-Line.ensures.reads in
    rw (c.in-Err-Line.line-is, c.in-Err-Line.reason-is)
    (refused_right c.args.limit c.new-lines.result c.read_header.new.lines (left c.args.src.now)
    (left c.read_header.new.src) c.in-Err-Line.line c.in-Err-Line.reason fresh
    (header_fails c.args.limit c.new-lines.result c.read_header.new.lines (left c.args.src.now) (left c.read_header.new.src) (Some _) fresh refused))

pub returns-in-Err-Line-clause-stops : goal.returns-in-Err-Line-clause-stops
returns-in-Err-Line-clause-stops g c =
    let left = g.S.Source.left in
    let fresh : IsNew c.new-lines.result = record { held = c.new-lines.ensures.held; done = c.new-lines.ensures.done; number = c.new-lines.ensures.number } in
    let refused = is_refused (header_part Cover).grammar c.new-lines.result c.read_header.new.lines (left c.args.src.now)
    (left c.read_header.new.src) _ c.in-Err-Line.line c.in-Err-Line.reason
    (ap head_refusal c.in-Err-Line.field-0-is) c.in-Err-Line.ensures.reads in
    rw c.in-Err-Line.line-is
    (refused_stops c.args.limit c.new-lines.result c.read_header.new.lines (left c.args.src.now)
    (left c.read_header.new.src) c.in-Err-Line.line c.in-Err-Line.reason fresh
    (header_fails c.args.limit c.new-lines.result c.read_header.new.lines (left c.args.src.now) (left c.read_header.new.src) (Some _) fresh refused))

pub returns-in-Err-Line-clause-complete : goal.returns-in-Err-Line-clause-complete
returns-in-Err-Line-clause-complete g c bytes told sure =
    let left = g.S.Source.left in
    let fresh : IsNew c.new-lines.result = record { held = c.new-lines.ensures.held; done = c.new-lines.ensures.done; number = c.new-lines.ensures.number } in
    let refused = is_refused (header_part Cover).grammar c.new-lines.result c.read_header.new.lines (left c.args.src.now)
    (left c.read_header.new.src) _ c.in-Err-Line.line c.in-Err-Line.reason
    (ap head_refusal c.in-Err-Line.field-0-is) c.in-Err-Line.ensures.reads in
    sure_is_accepted c.args.limit (g.S.Source.left c.args.src.now) (Refused c.in-Err-Line.line c.in-Err-Line.reason) bytes told sure
    (refused_right c.args.limit c.new-lines.result c.read_header.new.lines (left c.args.src.now)
    (left c.read_header.new.src) c.in-Err-Line.line c.in-Err-Line.reason fresh
    (header_fails c.args.limit c.new-lines.result c.read_header.new.lines (left c.args.src.now) (left c.read_header.new.src) (Some _) fresh refused))

pub returns-in-Err-Read-clause-stops : goal.returns-in-Err-Read-clause-stops
returns-in-Err-Read-clause-stops g c =
    let left = g.S.Source.left in
    let fresh : IsNew c.new-lines.result = record { held = c.new-lines.ensures.held; done = c.new-lines.ensures.done; number = c.new-lines.ensures.number } in
    failed_stops c.args.limit c.new-lines.result c.read_header.new.lines (left c.args.src.now) (left c.read_header.new.src) Read fresh
    (header_fails c.args.limit c.new-lines.result c.read_header.new.lines (left c.args.src.now) (left c.read_header.new.src) None fresh
    (is_failed (header_part Cover).grammar c.new-lines.result c.read_header.new.lines (left c.args.src.now) (left c.read_header.new.src) _
    (ap head_refusal c.in-Err-Read.field-0-is) c.in-Err-Read.ensures.reads))

pub returns-in-Err-Memory-clause-stops : goal.returns-in-Err-Memory-clause-stops
returns-in-Err-Memory-clause-stops g c =
    let left = g.S.Source.left in
    let fresh : IsNew c.new-lines.result = record { held = c.new-lines.ensures.held; done = c.new-lines.ensures.done; number = c.new-lines.ensures.number } in
    failed_stops c.args.limit c.new-lines.result c.read_header.new.lines (left c.args.src.now) (left c.read_header.new.src) Memory fresh
    (header_fails c.args.limit c.new-lines.result c.read_header.new.lines (left c.args.src.now) (left c.read_header.new.src) None fresh
    (is_failed (header_part Cover).grammar c.new-lines.result c.read_header.new.lines (left c.args.src.now) (left c.read_header.new.src) _
    (ap head_refusal c.in-Err-Memory.field-0-is) c.in-Err-Memory.ensures.reads))

pub returns-in_default-clause-stops : goal.returns-in_default-clause-stops
returns-in_default-clause-stops g c =
    let left = g.S.Source.left in
    let fresh : IsNew c.new-lines.result = record { held = c.new-lines.ensures.held; done = c.new-lines.ensures.done; number = c.new-lines.ensures.number } in
    header_stops c.args.limit _ c.new-lines.result c.read_header.new.lines (left c.args.src.now) (left c.read_header.new.src) Memory fresh c.in-Ok.ensures.reads

pub returns-in_default-clause-wanting : goal.returns-in_default-clause-wanting
returns-in_default-clause-wanting g c wanted =
    let left = g.S.Source.left in
    let fresh : IsNew c.new-lines.result = record { held = c.new-lines.ensures.held; done = c.new-lines.ensures.done; number = c.new-lines.ensures.number } in
    header_begins _ c.new-lines.result c.read_header.new.lines (left c.args.src.now) (left c.read_header.new.src) fresh c.in-Ok.ensures.reads

pub returns-in-Ok-judge-clause-right : goal.returns-in-Ok-judge-clause-right
returns-in-Ok-judge-clause-right g c =
    let left = g.S.Source.left in
    let fresh : IsNew c.new-lines.result = record { held = c.new-lines.ensures.held; done = c.new-lines.ensures.done; number = c.new-lines.ensures.number } in
    right_for_all c.args.limit c.in-Ok.header c.new-lines.result c.read_header.new.lines (left c.args.src.now)
    (left c.read_header.new.src) c.in-Ok-judge.verdict fresh
    c.in-Ok.ensures.reads c.in-Ok-judge.ensures.right

pub returns-in-Ok-judge-clause-covered : goal.returns-in-Ok-judge-clause-covered
returns-in-Ok-judge-clause-covered g c =
    right_covers c.args.limit (g.S.Source.left c.args.src.now) c.in-Ok-judge.verdict (returns-in-Ok-judge-clause-right g c)

pub returns-in-Ok-judge-clause-stops : goal.returns-in-Ok-judge-clause-stops
returns-in-Ok-judge-clause-stops g c =
    let left = g.S.Source.left in
    let fresh : IsNew c.new-lines.result = record { held = c.new-lines.ensures.held; done = c.new-lines.ensures.done; number = c.new-lines.ensures.number } in
    stops_for_all c.args.limit c.in-Ok.header c.new-lines.result c.read_header.new.lines c.judge.new.lines (left c.args.src.now)
    (left c.read_header.new.src) (left c.judge.new.src)
    c.in-Ok-judge.verdict fresh c.in-Ok.ensures.reads c.in-Ok-judge.ensures.stops

pub returns-in-Ok-judge-clause-complete : goal.returns-in-Ok-judge-clause-complete
returns-in-Ok-judge-clause-complete g c bytes told sure =
    sure_is_accepted c.args.limit (g.S.Source.left c.args.src.now) c.in-Ok-judge.verdict bytes told sure (returns-in-Ok-judge-clause-right g c)

pub returns-clause-stops : goal.returns-clause-stops
returns-clause-stops g c =
    let left = g.S.Source.left in
    let fresh : IsNew c.new-lines.result = record { held = c.new-lines.ensures.held; done = c.new-lines.ensures.done; number = c.new-lines.ensures.number } in
    failed_stops c.args.limit c.new-lines.result c.judge.new.lines (left c.args.src.now) (left c.judge.new.src) Read fresh
    (tree_fails c.args.limit c.in-Ok.header c.new-lines.result c.read_header.new.lines c.judge.new.lines (left c.args.src.now)
    (left c.read_header.new.src) (left c.judge.new.src) None
    c.in-Ok.ensures.reads c.in-Err.ensures.stops)
