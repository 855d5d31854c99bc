use Rattle.std.proofs.Common.{◌≡◌, Ok, codes, refl}
use Rattle.edge_words.proofs.OneWay.{reads_one_way}
use Rattle.billiards_cli.specs.Jobs.{job_word}
use Rattle.billiards_cli.proofs.Jobs.{is_stable_word}
use Rattle.billiards_cli.proofs.commands.demo.making.generated_word.Goals as goal

pub returns : goal.returns
returns c =
    let read : c.read.result ≡ Ok job_word =
    reads_one_way (codes "123123") c.read.result (Ok job_word) c.read.ensures (record { is_word = is_stable_word.word; digits = refl }) in
    cc
