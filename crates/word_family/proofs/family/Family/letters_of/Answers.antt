use Rattle.std.proofs.Common.{◌+◌, ◌*◌, length, ap, arith}
use Rattle.word_family.specs.Family.{Parts}
use Rattle.word_family.proofs.Members.{length-member}
use Rattle.word_family.proofs.family.Family.letters_of.Goals as goal

pub letters_of_member-requires : goal.letters_of_member-requires
letters_of_member-requires c =
    omega (
      arith,
      ap length c.letters.ensures.all,
      ap length c.letters-2.ensures.all,
      ap (λ w. c.args.n * length w) c.letters-2.ensures.all,
      ap length c.letters-3.ensures.all,
      ap (λ (f : Parts). length f.first + c.args.n * length f.middle + length f.last) c.self.view_is,
      length-member c.args.self.now c.args.n,
      c.requires,
    )
