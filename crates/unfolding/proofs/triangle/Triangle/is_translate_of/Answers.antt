use Rattle.std.proofs.Common.{◌≡◌, arith}
use Rattle.std.proofs.lemmas.Slice.Eq.{slice_eq-Decides}
use Rattle.exp_sums.proofs.SameTerms.{dir_decides}
use Rattle.unfolding.proofs.triangle.Triangle.is_translate_of.Goals as goal

pub returns-then-self-other : goal.returns-then-self-other
returns-then-self-other c =
    let minus : c.args.self.now.minus ≡ c.args.other.now.minus = grind arith in
    let dirs = slice_eq-Decides dir_decides c.args.self.now.dirs c.args.other.now.dirs c.eq.result c.eq.ensures in
    (λ t. (minus, dirs.0 t), λ p. dirs.1 p.1)
