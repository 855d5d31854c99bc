use Rattle.std.proofs.Common.{length}
use Rattle.std.specs.List.{flat_map}
use Rattle.mcb_ends.proofs.Written.{AppendsPrefix-begun, Writes-then, Writes-failed}
use Rattle.billiards_cli.specs.Commands.Family.{members_text, member_line}
use Rattle.billiards_cli.specs.EndLine.{end_text}
use Rattle.billiards_cli.proofs.commands.family.at_triangle.write_list.Goals as goal

pub returns-in_err-write_members-clause-text : goal.returns-in_err-write_members-clause-text
returns-in_err-write_members-clause-text g c =
    let k = g.K.Sink in
    let members = c.args.members.now in
    let old = k.written c.args.out.now in
    let new = k.written c.write_members.new.out in
    Writes-failed old new c.from_residual.result (members_text members) c.from_residual.ensures.0
    (AppendsPrefix-begun old new (flat_map member_line members) (end_text (length members)) c.in_err-write_members.ensures.text)

pub returns-clause-text : goal.returns-clause-text
returns-clause-text g c =
    let k = g.K.Sink in
    let members = c.args.members.now in
    Writes-then (k.written c.args.out.now) (k.written c.write_members.new.out) (k.written c.write_end.new.out) c.write_end.result
    (flat_map member_line members) (end_text (length members)) c.in_ok-write_members.ensures.text c.write_end.ensures.text
