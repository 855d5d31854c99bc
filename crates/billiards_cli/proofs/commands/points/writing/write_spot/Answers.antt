use Rattle.std.proofs.Common.{ℤ, ◌++◌, codes, rules, subst, SFits}
use Rattle.std.specs.Int.{w128}
use Rattle.std.specs.Fmt.{signed_decimal}
use Rattle.std.specs.Io.KnownBytes.{Appends}
use Rattle.std.proofs.lemmas.Int.{to_z-of_z}
use Rattle.mcb_ends.specs.Bytes.{AppendsPrefix}
use Rattle.mcb_ends.proofs.Written.{AppendsPrefix-begun, AppendsPrefix-then, Writes-then, Writes-failed}
use Rattle.billiards_cli.specs.Commands.Points.{spot_line}
use Rattle.billiards_cli.specs.Refusals.{newline}
use Rattle.billiards_cli.proofs.commands.points.writing.write_spot.Goals as goal

pub returns-in_err-put_wide-clause-text : goal.returns-in_err-put_wide-clause-text
returns-in_err-put_wide-clause-text g c =
    let k = g.K.Sink in
    let spot = c.args.spot in
    let x_fits : SFits w128 spot.x = search rules in
    let old = k.written c.args.out.now in
    let new = k.written c.put_wide.new.out in
    let x = subst (λ (z : ℤ). AppendsPrefix old new (signed_decimal z)) (to_z-of_z w128 spot.x x_fits) c.in_err-put_wide.ensures.text in
    Writes-failed old new c.from_residual.result (spot_line spot) c.from_residual.ensures.0
    (AppendsPrefix-begun old new (signed_decimal spot.x) (codes " " ++ (signed_decimal spot.y ++ newline)) x)

pub returns-in_err-put-clause-text : goal.returns-in_err-put-clause-text
returns-in_err-put-clause-text g c =
    let k = g.K.Sink in
    let spot = c.args.spot in
    let x_fits : SFits w128 spot.x = search rules in
    let old = k.written c.args.out.now in
    let first = k.written c.put_wide.new.out in
    let new = k.written c.put.new.out in
    let behind = signed_decimal spot.y ++ newline in
    let x = subst (λ (z : ℤ). Appends old first (signed_decimal z)) (to_z-of_z w128 spot.x x_fits) c.in_ok-put_wide.ensures.text in
    Writes-failed old new c.from_residual-in_err-put.result (spot_line spot) c.from_residual-in_err-put.ensures.0
    (AppendsPrefix-then old first new (signed_decimal spot.x) (codes " " ++ behind) x
    (AppendsPrefix-begun first new (codes " ") behind c.in_err-put.ensures.text))

pub returns-in_err-put_wide-2-clause-text : goal.returns-in_err-put_wide-2-clause-text
returns-in_err-put_wide-2-clause-text g c =
    let k = g.K.Sink in
    let spot = c.args.spot in
    let x_fits : SFits w128 spot.x = search rules in
    let y_fits : SFits w128 spot.y = search rules in
    let old = k.written c.args.out.now in
    let first = k.written c.put_wide.new.out in
    let gap = k.written c.put.new.out in
    let new = k.written c.put_wide-2.new.out in
    let behind = signed_decimal spot.y ++ newline in
    let x = subst (λ (z : ℤ). Appends old first (signed_decimal z)) (to_z-of_z w128 spot.x x_fits) c.in_ok-put_wide.ensures.text in
    let y = subst (λ (z : ℤ). AppendsPrefix gap new (signed_decimal z)) (to_z-of_z w128 spot.y y_fits) c.in_err-put_wide-2.ensures.text in
    Writes-failed old new c.from_residual-in_err-put_wide-2.result (spot_line spot) c.from_residual-in_err-put_wide-2.ensures.0
    (AppendsPrefix-then old first new (signed_decimal spot.x) (codes " " ++ behind) x
    (AppendsPrefix-then first gap new (codes " ") behind c.in_ok-put.ensures.text
    (AppendsPrefix-begun gap new (signed_decimal spot.y) newline y)))

pub returns-clause-text : goal.returns-clause-text
returns-clause-text g c =
    let k = g.K.Sink in
    let spot = c.args.spot in
    let x_fits : SFits w128 spot.x = search rules in
    let y_fits : SFits w128 spot.y = search rules in
    let old = k.written c.args.out.now in
    let first = k.written c.put_wide.new.out in
    let gap = k.written c.put.new.out in
    let second = k.written c.put_wide-2.new.out in
    let new = k.written c.put-2.new.out in
    let result = c.put-2.result in
    let behind = signed_decimal spot.y ++ newline in
    let x = subst (λ (z : ℤ). Appends old first (signed_decimal z)) (to_z-of_z w128 spot.x x_fits) c.in_ok-put_wide.ensures.text in
    let y = subst (λ (z : ℤ). Appends gap second (signed_decimal z)) (to_z-of_z w128 spot.y y_fits) c.in_ok-put_wide-2.ensures.text in
    Writes-then old first new result (signed_decimal spot.x) (codes " " ++ behind) x
    (Writes-then first gap new result (codes " ") behind c.in_ok-put.ensures.text
    (Writes-then gap second new result (signed_decimal spot.y) newline y c.put-2.ensures.text))
