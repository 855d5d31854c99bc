use Rattle.std.proofs.Common.{◌∙◌}
use Rattle.billiards_cli.proofs.CoverSizes.{never_full, never_fails}
use Rattle.billiards_cli.proofs.commands.demo.making.cover_generated.Goals as goal

pub unreachable-requires : goal.unreachable-requires
unreachable-requires g c =
    let covers = rw c.in-Ok-Full.field-0-is at c.in-Ok-Full.ensures.text in
    never_full c.args.number.now _ c.in_ok-header.header covers.0 c.in_ok-header.ensures.heading covers.1

pub unreachable-requires-in-Err-Write : goal.unreachable-requires-in-Err-Write
unreachable-requires-in-Err-Write g c =
    let k = g.K.Sink in
    let old = c.args.out.now in
    let new = c.cover.new.out in
    let begins = rw c.in-Err-Write.field-0-is at c.in-Err-Write.ensures.text in
    let rose = rw c.in-Err-Write.field-0-is at c.in-Err-Write.ensures.cause in
    never_fails c.args.number.now c.in_ok-header.header (k.room new) (k.written old) (k.written new) (k.faults old) (k.faults new) begins.0
    c.in_ok-header.ensures.is_number c.in_ok-header.ensures.heading (c.in-Err-Write.ensures.room ∙ c.requires.room) c.requires.empty c.requires.whole
    (g.met.K.Sink.honest new) begins.1 begins.2 rose
