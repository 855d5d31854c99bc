use Rattle.edge_words.specs.Reading.{digits_of}
use Rattle.mcb_ends.proofs.Written.{Writes-then}
use Rattle.billiards_cli.specs.Refusals.{newline}
use Rattle.billiards_cli.proofs.commands.search.write_word.Goals as goal

pub returns-clause-text : goal.returns-clause-text
returns-clause-text g c =
    let k = g.K.Sink in
    Writes-then (k.written c.args.out.now) (k.written c.write.new.out) (k.written c.put.new.out) c.put.result (digits_of c.args.word.now) newline
    c.in_ok-write.ensures.text c.put.ensures.text
