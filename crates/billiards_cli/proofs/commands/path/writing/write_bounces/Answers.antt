use Rattle.std.proofs.Common.{◌≡◌, ◌∙◌, ◌++◌, length, List, ℤ, FitsSigned, to_z, of_z, subst}
use Rattle.std.specs.Int.{w128}
use Rattle.std.proofs.lemmas.Int.{to_z-of_z}
use Rattle.mcb_ends.specs.Bytes.{Writes, AppendsPrefix}
use Rattle.std.specs.Io.KnownBytes.{Appends}
use Rattle.mcb_ends.proofs.Written.{AppendsPrefix-begun, AppendsPrefix-then, Writes-then, Writes-failed}
use Rattle.bounce_path.specs.declared.bounce.Bounce.{Bounce}
use Rattle.billiards_cli.specs.Commands.Path.{level_line, bounce_lines, path_text}
use Rattle.billiards_cli.specs.EndLine.{end_text}
use Rattle.billiards_cli.proofs.commands.path.writing.write_bounces.Goals as goal

pub returns-in_err-write_level-clause-text : goal.returns-in_err-write_level-clause-text
returns-in_err-write_level-clause-text g c =
    let k = g.K.Sink in
    let path = c.args.path.now in
    let old = k.written c.args.out.now in
    let new = k.written c.write_level.new.out in
    let fits : FitsSigned w128 c.level.result = record { sfits = c.level.type_inv } in
    let level_is : to_z w128 (of_z w128 c.level.result) ≡ path.level = to_z-of_z w128 c.level.result fits ∙ c.level.ensures in
    let level = subst (λ (z : ℤ). AppendsPrefix old new (level_line z)) level_is c.in_err-write_level.ensures.text in
    Writes-failed old new c.from_residual.result (path_text path) c.from_residual.ensures.0
    (AppendsPrefix-begun old new (level_line path.level) (bounce_lines 1 path.bounces ++ end_text (length path.bounces)) level)

pub returns-in_err-write_lines-clause-text : goal.returns-in_err-write_lines-clause-text
returns-in_err-write_lines-clause-text g c =
    let k = g.K.Sink in
    let path = c.args.path.now in
    let old = k.written c.args.out.now in
    let head = k.written c.write_level.new.out in
    let new = k.written c.write_lines.new.out in
    let fits : FitsSigned w128 c.level.result = record { sfits = c.level.type_inv } in
    let level_is : to_z w128 (of_z w128 c.level.result) ≡ path.level = to_z-of_z w128 c.level.result fits ∙ c.level.ensures in
    let level = subst (λ (z : ℤ). Appends old head (level_line z)) level_is c.in_ok-write_level.ensures.text in
    let lines = subst (λ (bs : List Bounce). AppendsPrefix head new (bounce_lines 1 bs)) c.bounces.ensures.bounces c.in_err-write_lines.ensures.text in
    Writes-failed old new c.from_residual-in_err-write_lines.result (path_text path) c.from_residual-in_err-write_lines.ensures.0
    (AppendsPrefix-then old head new (level_line path.level) (bounce_lines 1 path.bounces ++ end_text (length path.bounces)) level
    (AppendsPrefix-begun head new (bounce_lines 1 path.bounces) (end_text (length path.bounces)) lines))

pub returns-clause-text : goal.returns-clause-text
returns-clause-text g c =
    let k = g.K.Sink in
    let path = c.args.path.now in
    let old = k.written c.args.out.now in
    let head = k.written c.write_level.new.out in
    let body = k.written c.write_lines.new.out in
    let new = k.written c.write_end.new.out in
    let result = c.write_end.result in
    let fits : FitsSigned w128 c.level.result = record { sfits = c.level.type_inv } in
    let level_is : to_z w128 (of_z w128 c.level.result) ≡ path.level = to_z-of_z w128 c.level.result fits ∙ c.level.ensures in
    let level = subst (λ (z : ℤ). Appends old head (level_line z)) level_is c.in_ok-write_level.ensures.text in
    let lines = subst (λ (bs : List Bounce). Appends head body (bounce_lines 1 bs)) c.bounces.ensures.bounces c.in_ok-write_lines.ensures.text in
    let end = subst (λ (bs : List Bounce). Writes body new result (end_text (length bs))) c.bounces-2.ensures.bounces c.write_end.ensures.text in
    Writes-then old head new result (level_line path.level) (bounce_lines 1 path.bounces ++ end_text (length path.bounces)) level
    (Writes-then head body new result (bounce_lines 1 path.bounces) (end_text (length path.bounces)) lines end)
