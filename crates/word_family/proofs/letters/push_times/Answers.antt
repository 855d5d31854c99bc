use Rattle.std.proofs.Common.{◌∙◌}
use Rattle.word_family.proofs.Members.{times_written-more, room_for_one}
use Rattle.word_family.proofs.letters.push_times.Goals as goal

pub push_all-requires : goal.push_all-requires
push_all-requires c =
    room_for_one c.loop.letters.items c.args.letters.now.items c.args.more.now c.loop.counter c.args.times c.loop.invariant c.loop-test.true c.requires

pub loop-preserved : goal.loop-preserved
loop-preserved c = c.push_all.ensures ∙ times_written-more c.loop.letters.items c.args.letters.now.items c.args.more.now c.loop.counter c.loop.invariant
