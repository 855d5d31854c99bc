use Rattle.std.proofs.Common.{List, ℕ, []}
use Rattle.std.specs.Borrow.{Bor}
use Rattle.mcb_ends.proofs.Written.{AppendsPrefix-flat_map, Writes-failed}
use Rattle.mcb_ends.proofs.writing.put_all.Goals as goal

pub returns-in_err-put-clause-text : goal.returns-in_err-put-clause-text
returns-in_err-put-clause-text g c =
    let k = g.K.Sink in
    let pieces = c.args.pieces.now in
    let old = k.written c.args.out.now in
    let new = k.written c.put.new.out in
    let begun = AppendsPrefix-flat_map (λ (piece : Bor (List ℕ)). piece.now) old (k.written c.loop-piece.out) new pieces c.loop-piece.piece-index
    (record { ref_ptr = (0, 0); now = [] }) c.loop-piece-test.true c.loop-piece.invariant.text c.in_err-put.ensures.text in
    Writes-failed old new c.from_residual.result _ c.from_residual.ensures.0 begun
