use Rattle.std.proofs.Common.{ap, length, arith}
use Rattle.line_grammar.specs.Faults.{refusal_of}
use Rattle.covering_file.specs.declared.file_kind.FileKind.TheVariants.{Cover}
use Rattle.covering_file.proofs.HeaderLengths.{header_length}
use Rattle.cover_checker.specs.Verdicts.{checked_tree}
use Rattle.cover_checker.proofs.RightVerdicts.{accepted_after, refused_after, is_refused}
use Rattle.cover_checker.proofs.judging.judge.Goals as goal

pub take_tree-requires-clause-few : goal.take_tree-requires-clause-few
take_tree-requires-clause-few g c = omega (arith, c.requires.number, header_length Cover c.args.header.now c.words.ensures.is_heading)

pub returns-in-Ok-clause-right : goal.returns-in-Ok-clause-right
returns-in-Ok-clause-right g c =
    let left = g.S.Source.left in
    accepted_after c.args.limit c.in-Ok.nodes (length c.words.result.now) c.args.header.now c.args.lines.now (left c.args.src.now) (left c.take_tree.new.src)
    c.words.ensures.is_heading (ap length c.words.ensures.all) c.in-Ok.ensures.tree

pub returns-in-Err-Line-clause-right : goal.returns-in-Err-Line-clause-right
returns-in-Err-Line-clause-right g c =
    let left = g.S.Source.left in
    refused_after c.args.limit c.args.header.now c.args.lines.now c.take_tree.new.lines (left c.args.src.now) (left c.take_tree.new.src)
    c.in-Err-Line.line c.in-Err-Line.reason c.words.ensures.is_heading c.requires.number
    (is_refused (checked_tree c.args.limit c.args.header.now).grammar c.args.lines.now c.take_tree.new.lines (left c.args.src.now)
    (left c.take_tree.new.src) _ c.in-Err-Line.line c.in-Err-Line.reason
    (ap refusal_of c.in-Err-Line.field-0-is) c.in-Err-Line.ensures.fails)
