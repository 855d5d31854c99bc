-- The approximations of pi come to lie between the constants of both scales.
use Rattle.std.proofs.Common.{ℕ, ℤ, pos}
use Rattle.trig_meaning.specs.PartialSums.{pi_sum}
use Rattle.trig_meaning.specs.FromSomeOn.{FromSomeOn}
use Rattle.trig_meaning.specs.Laws.{PiWithin}
use Rattle.trig_meaning.proofs.FromSomeOnLaws.{onward}
use Rattle.trig_meaning.proofs.PiBetween.{pi_between_lem}
use Rattle.directed_fixed.specs.Ends.{Encloses}

enclosed : (bits : ℕ) (lo hi : ℤ) → FromSomeOn (PiWithin bits lo hi)
    → FromSomeOn (λ n. Encloses bits (record { lo = lo; hi = hi }) (pi_sum n))
enclosed bits lo hi = onward (λ n b. record { low = b.low; high = b.high })

pub fine_between : FromSomeOn (λ n. Encloses 60 (record { lo = pos 0x3243F6A8885A308D; hi = pos 0x3243F6A8885A308E }) (pi_sum n))
fine_between = enclosed 60 (pos 0x3243F6A8885A308D) (pos 0x3243F6A8885A308E) pi_between_lem.fine

pub coarse_between : FromSomeOn (λ n. Encloses 40 (record { lo = pos 0x3243F6A8885; hi = pos 0x3243F6A8886 }) (pi_sum n))
coarse_between = enclosed 40 (pos 0x3243F6A8885) (pos 0x3243F6A8886) pi_between_lem.coarse
