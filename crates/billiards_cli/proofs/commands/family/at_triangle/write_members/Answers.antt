use Rattle.std.proofs.Common.{false}
use Rattle.std.specs.List.{flat_map}
use Rattle.mcb_ends.proofs.Written.{AppendsPrefix-flat_map, Writes-failed}
use Rattle.billiards_cli.specs.Commands.Family.{member_line}
use Rattle.billiards_cli.proofs.commands.family.at_triangle.write_members.Goals as goal

pub returns-in_err-write_member-clause-text : goal.returns-in_err-write_member-clause-text
returns-in_err-write_member-clause-text g c =
    let k = g.K.Sink in
    let members = c.args.members.now in
    let old = k.written c.args.out.now in
    let new = k.written c.write_member.new.out in
    let begun = AppendsPrefix-flat_map member_line old (k.written c.loop-member.out) new members c.loop-member.member-index
    (record { number = 0; «open» = false }) c.loop-member-test.true c.loop-member.invariant.text c.in_err-write_member.ensures.text in
    Writes-failed old new c.from_residual.result (flat_map member_line members) c.from_residual.ensures.0 begun
