use Rattle.std.proofs.Common.{◌≡◌, take}
use Rattle.std.specs.List.{flat_map}
use Rattle.std.specs.Io.KnownBytes.{Appends}
use Rattle.billiards_cli.specs.Commands.Family.{member_line}
use Rattle.billiards_cli.proofs.commands.family.at_triangle.write_members.Given as goal

-- the members so far are written, and room and count stand
abbrev pub invariant-loop-member : goal.invariant-loop-member
invariant-loop-member g l =
    let k = g.K.Sink in
    record {
      text : Appends (k.written l.fn.out) (k.written l.out) (flat_map member_line (take l.member-index l.members));
      room : k.room l.out ≡ k.room l.fn.out;
      faults : k.faults l.out ≡ k.faults l.fn.out;
    }
