use Rattle.std.proofs.Common.{length, ap, arith, length-append}
use Rattle.word_family.specs.Family.{times_written}
use Rattle.word_family.proofs.Members.{length-times_written}
use Rattle.word_family.proofs.letters.letters_of_member.Goals as goal

pub push_all-requires-2 : goal.push_all-requires-2
push_all-requires-2 c =
    omega (
      arith,
      ap length c.push_times.ensures,
      length-append c.push_all.new.letters.items (times_written c.args.n c.args.middle.now),
      length-times_written c.args.n c.args.middle.now,
      ap length c.push_all.ensures,
      length-append c.new-letters.result.items c.args.first.now,
      ap length c.new-letters.ensures,
      c.requires,
    )
