use Rattle.std.proofs.Common.{◌≡◌, get_or, take, ◌∙◌, ap, arith}
use Rattle.std.proofs.lemmas.List.Elements.{All-get_or}
use Rattle.edge_words.specs.Letters.{IsLetter}
use Rattle.unfolding.specs.Kept.{dirs_of}
use Rattle.word_search.proofs.Walked.{across_1, across_2, across_3, near_1, near_2, near_3, next_letters}
use Rattle.word_search.proofs.seen.dirs_across.Goals as goal

pub mirrored-requires-clause-near : goal.mirrored-requires-clause-near
mirrored-requires-clause-near c = near_1 c.args.letters.now c.args.k c.requires.word c.requires.few c.requires.place c.args.dirs.now 0 c.requires.dirs c.in-1.is

pub mirrored-requires-in-2-clause-near : goal.mirrored-requires-in-2-clause-near
mirrored-requires-in-2-clause-near c = near_2 c.args.letters.now c.args.k c.requires.word c.requires.few c.requires.place c.args.dirs.now 0 c.requires.dirs
    c.in-2.is

pub mirrored-requires-in_default-clause-near : goal.mirrored-requires-in_default-clause-near
mirrored-requires-in_default-clause-near c =
    let letter = All-get_or IsLetter c.args.letters.now c.args.k 0 c.requires.place c.requires.word.letters in
    let three : get_or c.args.letters.now c.args.k 0 ≡ 3 = omega (arith, letter) in
    near_3 c.args.letters.now c.args.k c.requires.word c.requires.few c.requires.place c.args.dirs.now 0 c.requires.dirs three

pub returns-in-1-clause-dirs : goal.returns-in-1-clause-dirs
returns-in-1-clause-dirs c =
    across_1 (take c.args.k c.args.letters.now) c.args.dirs.now c.mirrored.result 0 c.requires.dirs c.mirrored.ensures.is
    ∙ ap dirs_of (next_letters c.args.letters.now c.args.k 1 c.requires.place c.in-1.is)

pub returns-in-2-clause-dirs : goal.returns-in-2-clause-dirs
returns-in-2-clause-dirs c =
    across_2 (take c.args.k c.args.letters.now) c.args.dirs.now c.mirrored-in-2.result 0 c.requires.dirs c.mirrored-in-2.ensures.is
    ∙ ap dirs_of (next_letters c.args.letters.now c.args.k 2 c.requires.place c.in-2.is)

pub returns-in_default-clause-dirs : goal.returns-in_default-clause-dirs
returns-in_default-clause-dirs c =
    let letter = All-get_or IsLetter c.args.letters.now c.args.k 0 c.requires.place c.requires.word.letters in
    let three : get_or c.args.letters.now c.args.k 0 ≡ 3 = omega (arith, letter) in
    across_3 (take c.args.k c.args.letters.now) c.args.dirs.now c.mirrored-in_default.result 0 c.requires.dirs c.mirrored-in_default.ensures.is
    ∙ ap dirs_of (next_letters c.args.letters.now c.args.k 3 c.requires.place three)
