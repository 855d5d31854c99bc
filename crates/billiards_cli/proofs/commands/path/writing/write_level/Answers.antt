use Rattle.std.proofs.Common.{ℤ, ◌++◌, codes, subst}
use Rattle.std.specs.Int.{w128}
use Rattle.std.specs.Fmt.{signed_decimal}
use Rattle.std.specs.Io.KnownBytes.{Appends}
use Rattle.std.proofs.lemmas.Int.{to_z-of_z}
use Rattle.mcb_ends.specs.Bytes.{AppendsPrefix}
use Rattle.mcb_ends.proofs.Written.{AppendsPrefix-begun, AppendsPrefix-then, Writes-then, Writes-failed}
use Rattle.billiards_cli.specs.Commands.Path.{level_line}
use Rattle.billiards_cli.specs.Refusals.{newline}
use Rattle.billiards_cli.proofs.commands.path.writing.write_level.Goals as goal

pub returns-in_err-put-clause-text : goal.returns-in_err-put-clause-text
returns-in_err-put-clause-text g c =
    let k = g.K.Sink in
    let old = k.written c.args.out.now in
    let new = k.written c.put.new.out in
    Writes-failed old new c.from_residual.result (level_line c.args.level) c.from_residual.ensures.0
    (AppendsPrefix-begun old new (codes "level ") (signed_decimal c.args.level ++ newline) c.in_err-put.ensures.text)

pub returns-in_err-put_wide-clause-text : goal.returns-in_err-put_wide-clause-text
returns-in_err-put_wide-clause-text g c =
    let k = g.K.Sink in
    let level = c.args.level in
    let old = k.written c.args.out.now in
    let head = k.written c.put.new.out in
    let new = k.written c.put_wide.new.out in
    let number = subst (λ (z : ℤ). AppendsPrefix head new (signed_decimal z)) (to_z-of_z w128 level c.ranges.level) c.in_err-put_wide.ensures.text in
    Writes-failed old new c.from_residual-in_err-put_wide.result (level_line level) c.from_residual-in_err-put_wide.ensures.0
    (AppendsPrefix-then old head new (codes "level ") (signed_decimal level ++ newline) c.in_ok-put.ensures.text
    (AppendsPrefix-begun head new (signed_decimal level) newline number))

pub returns-clause-text : goal.returns-clause-text
returns-clause-text g c =
    let k = g.K.Sink in
    let level = c.args.level in
    let old = k.written c.args.out.now in
    let head = k.written c.put.new.out in
    let body = k.written c.put_wide.new.out in
    let new = k.written c.put-2.new.out in
    let number = subst (λ (z : ℤ). Appends head body (signed_decimal z)) (to_z-of_z w128 level c.ranges.level) c.in_ok-put_wide.ensures.text in
    Writes-then old head new c.put-2.result (codes "level ") (signed_decimal level ++ newline) c.in_ok-put.ensures.text
    (Writes-then head body new c.put-2.result (signed_decimal level) newline number c.put-2.ensures.text)
