use Rattle.std.proofs.Common.{◌++◌, codes}
use Rattle.mcb_ends.proofs.Written.{AppendsPrefix-begun, AppendsPrefix-then, Writes-then, Writes-failed}
use Rattle.billiards_cli.specs.Commands.Family.{sum_text, shifts_text}
use Rattle.billiards_cli.proofs.commands.family.sums.write_shifts.Goals as goal

pub returns-in_err-put-clause-text : goal.returns-in_err-put-clause-text
returns-in_err-put-clause-text g c =
    let k = g.K.Sink in
    let base = sum_text (codes "base ") c.args.shifts.now.base in
    let step = sum_text (codes "step ") c.args.shifts.now.step in
    let old = k.written c.args.out.now in
    let new = k.written c.put.new.out in
    Writes-failed old new c.from_residual.result (shifts_text c.args.shifts.now.base c.args.shifts.now.step) c.from_residual.ensures.0
    (AppendsPrefix-begun old new (codes "stable\n") (base ++ (step ++ codes "end\n")) c.in_err-put.ensures.text)

pub returns-in_err-write_sum-clause-text : goal.returns-in_err-write_sum-clause-text
returns-in_err-write_sum-clause-text g c =
    let k = g.K.Sink in
    let base = sum_text (codes "base ") c.args.shifts.now.base in
    let step = sum_text (codes "step ") c.args.shifts.now.step in
    let old = k.written c.args.out.now in
    let head = k.written c.put.new.out in
    let new = k.written c.write_sum.new.out in
    Writes-failed old new c.from_residual-in_err-write_sum.result (shifts_text c.args.shifts.now.base c.args.shifts.now.step)
    c.from_residual-in_err-write_sum.ensures.0
    (AppendsPrefix-then old head new (codes "stable\n") (base ++ (step ++ codes "end\n")) c.in_ok-put.ensures.text
    (AppendsPrefix-begun head new base (step ++ codes "end\n") c.in_err-write_sum.ensures.text))

pub returns-in_err-write_sum-2-clause-text : goal.returns-in_err-write_sum-2-clause-text
returns-in_err-write_sum-2-clause-text g c =
    let k = g.K.Sink in
    let base = sum_text (codes "base ") c.args.shifts.now.base in
    let step = sum_text (codes "step ") c.args.shifts.now.step in
    let old = k.written c.args.out.now in
    let head = k.written c.put.new.out in
    let body = k.written c.write_sum.new.out in
    let new = k.written c.write_sum-2.new.out in
    Writes-failed old new c.from_residual-in_err-write_sum-2.result (shifts_text c.args.shifts.now.base c.args.shifts.now.step)
    c.from_residual-in_err-write_sum-2.ensures.0
    (AppendsPrefix-then old head new (codes "stable\n") (base ++ (step ++ codes "end\n")) c.in_ok-put.ensures.text
    (AppendsPrefix-then head body new base (step ++ codes "end\n") c.in_ok-write_sum.ensures.text
    (AppendsPrefix-begun body new step (codes "end\n") c.in_err-write_sum-2.ensures.text)))

pub returns-clause-text : goal.returns-clause-text
returns-clause-text g c =
    let k = g.K.Sink in
    let base = sum_text (codes "base ") c.args.shifts.now.base in
    let step = sum_text (codes "step ") c.args.shifts.now.step in
    let old = k.written c.args.out.now in
    let head = k.written c.put.new.out in
    let body = k.written c.write_sum.new.out in
    let tail = k.written c.write_sum-2.new.out in
    let new = k.written c.put-2.new.out in
    Writes-then old head new c.put-2.result (codes "stable\n") (base ++ (step ++ codes "end\n")) c.in_ok-put.ensures.text
    (Writes-then head body new c.put-2.result base (step ++ codes "end\n") c.in_ok-write_sum.ensures.text
    (Writes-then body tail new c.put-2.result step (codes "end\n") c.in_ok-write_sum-2.ensures.text c.put-2.ensures.text))
