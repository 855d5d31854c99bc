use Rattle.std.proofs.Common.{◌≡◌, refl, FitsSigned}
use Rattle.std.specs.Int.{w64}
use Rattle.std.proofs.lemmas.Int.{to_z-of_z}
use Rattle.plane_points.proofs.Sums.{plus_fits}
use Rattle.plane_points.proofs.spot.Spot.plus.Goals as goal

pub returns-clause-x : goal.returns-clause-x
returns-clause-x c =
    let narrow : FitsSigned w64 c.args.c = c.ranges.c in
    let same : c.from-c.result ≡ c.args.c = simp to_z-of_z at c.from-c.ensures in
    let fits = plus_fits c.args.self.x c.args.c c.args.other.x c.requires.small.x c.requires.factor c.requires.other.x in
    let total = fits.total_fits in
    let factor = fits.factor_fits in
    let other = fits.other_fits in
    let product = fits.product_fits in
    let sum = fits.sum_fits in
    rw same (simp to_z-of_z refl)

pub returns-clause-y : goal.returns-clause-y
returns-clause-y c =
    let narrow : FitsSigned w64 c.args.c = c.ranges.c in
    let same : c.from-c.result ≡ c.args.c = simp to_z-of_z at c.from-c.ensures in
    let fits = plus_fits c.args.self.y c.args.c c.args.other.y c.requires.small.y c.requires.factor c.requires.other.y in
    let total = fits.total_fits in
    let factor = fits.factor_fits in
    let other = fits.other_fits in
    let product = fits.product_fits in
    let sum = fits.sum_fits in
    rw same (simp to_z-of_z refl)
